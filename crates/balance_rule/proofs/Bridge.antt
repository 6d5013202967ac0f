-- From the rule over natural numbers, which the dynamic program meets, to the rule of specs/Rule.antt: every definition of the one is the other's
-- at sizes and a gap that are not negative, clause by clause. Assumes nothing.
use mathlib.Core.Path.{◌≡◌, refl, sym, ap, subst, ◌∙◌}
use mathlib.Core.Bool.{Bool, true, false, not, cond}
use mathlib.Core.Logic.{◌⊎◌, inl, inr}
use mathlib.Core.List.{List, [], ◌∷◌, ◌++◌, map}
use Prim.Native.Nat.{ℕ, zero, suc, ◌+◌, ◌-◌, ◌≤◌, ◌<◌, zero-le, suc-le-suc}
use native.Mathlib.Omega.{arith}
use lib.Dec.{T, leb→le, le→leb}
use lib.ListN.{length, take, drop, length-map, length-drop, get_or-map}
use lib.Seq.{append_snoc}
use lib.IntN.{ℤ, pos, negsuc, nat_abs, ◌+ℤ◌}
use Rattle.break_greedy.specs.Breaking.{Limit, min_content, max_content, definite, fits, line_size, taken, lines_of, greedy}
use Rattle.balance_rule.specs.Rule.{floored, Line, Valid, score, Better, Chosen, required, Balanced}
use Rattle.balance_rule.specs.Natural as nat
use Rattle.balance_rule.specs.Natural.{natural}
use Rattle.balance_rule.proofs.Exists.{empty, greedy_same, balanced_exists}

-- ---- sizes
-- a size with a negative one read as 0
abbrev pub size : ℤ → ℕ
size (pos n) = n
size (negsuc n) = 0

pub floored_sizes : (zs : List ℤ) → map floored zs ≡ map pos (map size zs)
floored_sizes [] = refl
floored_sizes (pos n ∷ zs) = ap (λ (r : List ℤ). pos n ∷ r) (floored_sizes zs)
floored_sizes (negsuc n ∷ zs) = ap (λ (r : List ℤ). pos 0 ∷ r) (floored_sizes zs)

-- ---- what fits
fits_to : (limit : Limit) (a : ℕ) → T (fits limit (pos a)) → nat.Fits (natural limit) a
unfolding fits
fits_to min_content a t = t
fits_to max_content a t = tt
fits_to (definite (pos m)) a t = leb→le a m t
fits_to (definite (negsuc m)) a t = t

fits_from : (limit : Limit) (a : ℕ) → nat.Fits (natural limit) a → T (fits limit (pos a))
unfolding fits
fits_from min_content a h = h
fits_from max_content a h = tt
fits_from (definite (pos m)) a h = le→leb a m h
fits_from (definite (negsuc m)) a h = h

unfit_to : (limit : Limit) (a : ℕ) → T (not (fits limit (pos a))) → ¬ nat.Fits (natural limit) a
unfit_to limit a t h = go (fits limit (pos a)) t (fits_from limit a h)
  where
    go : (b : Bool) → T (not b) → T b → ⊥
    go true t u = t
    go false t u = u

unfit_from : (limit : Limit) (a : ℕ) → ¬ nat.Fits (natural limit) a → T (not (fits limit (pos a)))
unfit_from limit a h = go (fits limit (pos a)) (λ t. h (fits_to limit a t))
  where
    go : (b : Bool) → (T b → ⊥) → T (not b)
    go true f = f tt
    go false f = tt

-- ---- lists
take-map : (c : ℕ) (ns : List ℕ) → take c (map pos ns) ≡ map pos (take c ns)
take-map zero ns = refl
take-map (suc c) [] = refl
take-map (suc c) (x ∷ ns) = ap (λ (r : List ℤ). pos x ∷ r) (take-map c ns)

drop-map : (c : ℕ) (ns : List ℕ) → drop c (map pos ns) ≡ map pos (drop c ns)
drop-map zero ns = refl
drop-map (suc c) [] = refl
drop-map (suc c) (x ∷ ns) = drop-map c ns

map_snoc : (ns : List ℕ) (x : ℕ) → map pos (ns ++ (x ∷ [])) ≡ map pos ns ++ (pos x ∷ [])
map_snoc [] x = refl
map_snoc (y ∷ ns) x = ap (λ (r : List ℤ). pos y ∷ r) (map_snoc ns x)

pos_inj : {a b : ℕ} → pos a ≡ pos b → a ≡ b
pos_inj e = ap nat_abs e

-- ---- a line's size
line_size_is : (g : ℕ) (ns : List ℕ) → line_size (pos g) (map pos ns) ≡ pos (nat.line_size g ns)
unfolding line_size
line_size_is g [] = refl
line_size_is g (x ∷ []) = refl
line_size_is g (x ∷ (y ∷ r)) =
    ap (λ (z : ℤ). pos x +ℤ (pos g +ℤ z)) (line_size_is g (y ∷ r))
    ∙ ap pos (let e : x + (g + nat.line_size g (y ∷ r)) ≡ x + g + nat.line_size g (y ∷ r) = omega arith in e)

front_size_is : (g c : ℕ) (ns : List ℕ) → line_size (pos g) (take c (map pos ns)) ≡ pos (nat.line_size g (take c ns))
front_size_is g c ns = ap (line_size (pos g)) (take-map c ns) ∙ line_size_is g (take c ns)

module _ (limit : Limit) (g : ℕ) where
  -- ---- one line, either way
  line_to : (ns : List ℕ) (c after : ℕ) → Line limit (pos g) (map pos ns) c after → nat.Line (natural limit) g ns c after
  line_to ns c after l = record {
    positive = l.positive;
    enough = subst (λ (n : ℕ). c ≤ n) (length-map ns pos) l.enough;
    fit = fit' l.fit;
    zeros = λ h z. zeros' (l.zeros (omega (arith, length-map ns pos)) (get_or-map pos ns c 1 ∙ ap pos z));
  }
    where
      fit' : (c ≡ 1) ⊎ T (fits limit (line_size (pos g) (take c (map pos ns)))) → (c ≡ 1) ⊎ nat.Fits (natural limit) (nat.line_size g (take c ns))
      fit' (inl e) = inl e
      fit' (inr t) = inr (fits_to limit (nat.line_size g (take c ns)) (subst (λ (z : ℤ). T (fits limit z)) (front_size_is g c ns) t))

      zeros' : T (not (fits limit (line_size (pos g) (take (c + 1) (map pos ns))))) ⊎ (length (map pos ns) - (c + 1) < after)
          → (¬ nat.Fits (natural limit) (nat.line_size g (take (c + 1) ns))) ⊎ (length ns - (c + 1) < after)
      zeros' (inl t) = inl (unfit_to limit (nat.line_size g (take (c + 1) ns)) (subst (λ (z : ℤ). T (not (fits limit z))) (front_size_is g (c + 1) ns) t))
      zeros' (inr h) = inr (omega (arith, length-map ns pos))

  line_from_lem : (ns : List ℕ) (c after : ℕ) → nat.Line (natural limit) g ns c after → Line limit (pos g) (map pos ns) c after
  line_from_lem ns c after l = record {
    positive = l.positive;
    enough = subst (λ (n : ℕ). c ≤ n) (sym (length-map ns pos)) l.enough;
    fit = fit' l.fit;
    zeros = λ h z. zeros' (l.zeros (omega (arith, length-map ns pos)) (pos_inj (sym (get_or-map pos ns c 1) ∙ z)));
  }
    where
      fit' : (c ≡ 1) ⊎ nat.Fits (natural limit) (nat.line_size g (take c ns)) → (c ≡ 1) ⊎ T (fits limit (line_size (pos g) (take c (map pos ns))))
      fit' (inl e) = inl e
      fit' (inr h) = inr (subst (λ (z : ℤ). T (fits limit z)) (sym (front_size_is g c ns)) (fits_from limit (nat.line_size g (take c ns)) h))

      zeros' : (¬ nat.Fits (natural limit) (nat.line_size g (take (c + 1) ns))) ⊎ (length ns - (c + 1) < after)
          → T (not (fits limit (line_size (pos g) (take (c + 1) (map pos ns))))) ⊎ (length (map pos ns) - (c + 1) < after)
      zeros' (inl h) = inl (subst (λ (z : ℤ). T (not (fits limit z))) (sym (front_size_is g (c + 1) ns)) (unfit_from limit (nat.line_size g (take (c + 1) ns)) h))
      zeros' (inr h) = inr (omega (arith, length-map ns pos))

  -- ---- a division, either way
  valid_to : (ns d : List ℕ) → Valid limit (pos g) (map pos ns) d → nat.Valid (natural limit) g ns d
  valid_to ns [] e = empty ns (sym (length-map ns pos) ∙ ap length e)
  valid_to ns (c ∷ d) (l, v) = (line_to ns c (length d) l, valid_to (drop c ns) d (subst (λ (r : List ℤ). Valid limit (pos g) r d) (drop-map c ns) v))

  valid_from : (ns d : List ℕ) → nat.Valid (natural limit) g ns d → Valid limit (pos g) (map pos ns) d
  valid_from ns [] e = ap (map pos) e
  valid_from ns (c ∷ d) (l, v) = (line_from_lem ns c (length d) l, subst (λ (r : List ℤ). Valid limit (pos g) r d) (sym (drop-map c ns)) (valid_from (drop c ns) d v))

  score_is : (ns d : List ℕ) → score (pos g) (map pos ns) d ≡ nat.score g ns d
  score_is ns [] = refl
  score_is ns (c ∷ d) = rw (front_size_is g c ns, drop-map c ns, score_is (drop c ns) d)

  chosen_from : (ns : List ℕ) (k : ℕ) (d : List ℕ) → nat.Chosen (natural limit) g ns k d → Chosen limit (pos g) (map pos ns) k d
  chosen_from ns k d c = record { valid = valid_from ns d c.valid; lines = c.lines; best = λ e v l. better e (c.best e (valid_to ns e v) l) }
    where
      better : (e : List ℕ) → (d ≡ e) ⊎ nat.Better g ns d e → (d ≡ e) ⊎ Better (pos g) (map pos ns) d e
      better e (inl p) = inl p
      better e (inr (inl p)) = inr (inl (omega (arith, score_is ns d, score_is ns e)))
      better e (inr (inr p)) = inr (inr (score_is ns d ∙ p.0 ∙ sym (score_is ns e), p.1))

  -- ---- greedy breaking: what a line takes besides the items that it has
  record Takes (line rest : List ℕ) (t : ℕ) : Type 0 where
    enough : t ≤ length rest
    fitting : (j : ℕ) → 0 < j → j ≤ t → nat.Fits (natural limit) (nat.line_size g (line ++ take j rest))
    full : t < length rest → ¬ nat.Fits (natural limit) (nat.line_size g (line ++ take (suc t) rest))

  takes_none : (line rest : List ℕ) (x : ℕ) → ¬ nat.Fits (natural limit) (nat.line_size g (line ++ (x ∷ []))) → Takes line (x ∷ rest) zero
  takes_none line rest x h = record { enough = zero-le; fitting = λ j p q. absurd (omega arith); full = λ _. h }

  takes_more : (line rest : List ℕ) (x t : ℕ) → nat.Fits (natural limit) (nat.line_size g (line ++ (x ∷ []))) → Takes (line ++ (x ∷ [])) rest t → Takes line (x ∷ rest) (suc t)
  takes_more line rest x t f r = record {
    enough = suc-le-suc r.enough;
    fitting = fitting';
    full = λ h k. r.full (omega arith) (subst (λ (l : List ℕ). nat.Fits (natural limit) (nat.line_size g l)) (sym (append_snoc line x (take (suc t) rest))) k);
  }
    where
      fitting' : (j : ℕ) → 0 < j → j ≤ suc t → nat.Fits (natural limit) (nat.line_size g (line ++ take j (x ∷ rest)))
      fitting' zero p q = absurd (omega arith)
      fitting' (suc zero) p q = f
      fitting' (suc (suc j)) p q =
          subst (λ (l : List ℕ). nat.Fits (natural limit) (nat.line_size g l)) (append_snoc line x (take (suc j) rest)) (r.fitting (suc j) (omega arith) (omega arith))

  taken_is : (line rest : List ℕ) → Takes line rest (taken limit (pos g) (map pos line) (map pos rest))
  unfolding taken
  taken_is line [] = record { enough = zero-le; fitting = λ j p q. absurd (omega arith); full = λ h. absurd (omega arith) }
  taken_is line (x ∷ rest) = go (taken_is (line ++ (x ∷ [])) rest) (fits limit (line_size (pos g) (map pos line ++ (pos x ∷ [])))) refl
    where
      longer : line_size (pos g) (map pos line ++ (pos x ∷ [])) ≡ pos (nat.line_size g (line ++ (x ∷ [])))
      longer = ap (line_size (pos g)) (sym (map_snoc line x)) ∙ line_size_is g (line ++ (x ∷ []))

      go : Takes (line ++ (x ∷ [])) rest (taken limit (pos g) (map pos (line ++ (x ∷ []))) (map pos rest))
          → (b : Bool) → fits limit (line_size (pos g) (map pos line ++ (pos x ∷ []))) ≡ b
          → Takes line (x ∷ rest) (cond b (suc (taken limit (pos g) (map pos line ++ (pos x ∷ [])) (map pos rest))) zero)
      go r false e = takes_none line rest x (unfit_to limit (nat.line_size g (line ++ (x ∷ []))) (rw (ap (fits limit) (sym longer) ∙ e) tt))
      go r true e =
          takes_more line rest x (taken limit (pos g) (map pos line ++ (pos x ∷ [])) (map pos rest))
          (fits_to limit (nat.line_size g (line ++ (x ∷ []))) (rw (ap (fits limit) (sym longer) ∙ e) tt))
          (subst (λ (l : List ℤ). Takes (line ++ (x ∷ [])) rest (taken limit (pos g) l (map pos rest))) (map_snoc line x) r)

  greedy_line : (x : ℕ) (ns : List ℕ) (t : ℕ) → Takes (x ∷ []) ns t → nat.GreedyLine (natural limit) g (x ∷ ns) (suc t)
  greedy_line x ns t k = record {
    positive = suc-le-suc zero-le;
    enough = suc-le-suc k.enough;
    taken = taken';
    full = λ h f. k.full (omega arith) (subst (λ (j : ℕ). nat.Fits (natural limit) (nat.line_size g (take j (x ∷ ns)))) (let e : suc t + 1 ≡ suc (suc t) = omega arith in e) f);
  }
    where
      taken' : (j : ℕ) → 1 < j → j ≤ suc t → nat.Fits (natural limit) (nat.line_size g (take j (x ∷ ns)))
      taken' zero p q = absurd (omega arith)
      taken' (suc j) p q = k.fitting j (omega arith) (omega arith)

  lines_greedy : (most : ℕ) (ns : List ℕ) → length ns ≤ most → nat.Greedy (natural limit) g ns (lines_of most limit (pos g) (map pos ns))
  unfolding lines_of
  lines_greedy zero [] h = refl
  lines_greedy zero (x ∷ ns) h = absurd (omega arith)
  lines_greedy (suc most) [] h = refl
  lines_greedy (suc most) (x ∷ ns) h =
      let t : ℕ = taken limit (pos g) (pos x ∷ []) (map pos ns) in (
        greedy_line x ns t (taken_is (x ∷ []) ns),
        subst (λ (l : List ℤ). nat.Greedy (natural limit) g (drop t ns) (lines_of most limit (pos g) l)) (sym (drop-map t ns)) (lines_greedy most (drop t ns) (omega (arith, length-drop t ns))),
      )

  greedy_is : (ns : List ℕ) → nat.Greedy (natural limit) g ns (greedy limit (pos g) (map pos ns))
  unfolding greedy
  greedy_is ns = lines_greedy (length (map pos ns)) ns (omega (arith, length-map ns pos))

  -- ---- THE TWO RULES NAME THE SAME DIVISION
  pub balanced_is : (zs : List ℤ) (minimum : ℕ) (d : List ℕ) → nat.Balanced (natural limit) g (map size zs) minimum d → Balanced limit (pos g) zs minimum d
  balanced_is zs minimum d b =
      let ns : List ℕ = map size zs in
      let same : length b.count.greedy ≡ length (greedy limit (pos g) (map pos ns)) = greedy_same (natural limit) g ns b.count.greedy (greedy limit (pos g) (map pos ns)) b.count.is_greedy (greedy_is ns) in
      let k : length d ≡ required limit (pos g) (map pos ns) minimum = omega (arith, b.count.is, same, length-map ns pos) in
      subst (λ (xs : List ℤ). Chosen limit (pos g) xs (required limit (pos g) xs minimum) d) (sym (floored_sizes zs))
      (subst (λ (j : ℕ). Chosen limit (pos g) (map pos ns) j d) k (chosen_from ns (length d) d b.chosen))

-- no items: no lines
pub none_balanced : (limit : Limit) (gap : ℤ) (minimum : ℕ) → Balanced limit gap [] minimum []
unfolding greedy lines_of
none_balanced limit gap minimum = record { valid = refl; lines = omega arith; best = λ e v l. inl (sym (empty e (omega arith))) }

-- EVERY LIST OF SIZES HAS A BALANCED DIVISION, for any limit, any minimum and a gap that is not negative
pub balanced_some : (limit : Limit) (g : ℕ) (zs : List ℤ) (minimum : ℕ) → (d : List ℕ) × Balanced limit (pos g) zs minimum d
balanced_some limit g [] minimum = ([], none_balanced limit (pos g) minimum)
balanced_some limit g (z ∷ zs) minimum =
    let b : (d : List ℕ) × nat.Balanced (natural limit) g (map size (z ∷ zs)) minimum d = balanced_exists (natural limit) g (map size (z ∷ zs)) minimum (suc-le-suc zero-le) in
    (b.0, balanced_is limit g (z ∷ zs) minimum b.0 b.1)
