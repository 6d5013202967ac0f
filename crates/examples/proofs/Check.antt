-- A test that computes whether a division is the one that the rule names, by trying every division: for worked examples only. The rule does not rest on it.
-- `case_by_test` says that the test tells the truth. Assumes nothing.
use mathlib.Core.Path.{◌≡◌, refl, ap}
use mathlib.Core.Logic.{◌⊎◌, inl, inr}
use mathlib.Core.List.{List, [], ◌∷◌, map}
use mathlib.Core.Bool.{Bool, true, false, not, ◌&&◌, ◌||◌}
use Prim.Native.Nat.{ℕ, zero, suc, ◌+◌, ◌-◌, ◌≤◌, ◌<◌, max}
use native.Mathlib.Nat.{eq-or-lt_of_le}
use native.Mathlib.Omega.{arith}
use lib.ListN.{length, get_or, take, drop, length-drop}
use lib.IntN.{ℤ, pos}
use lib.Dec.{T, leb, ltb, eqb, leb→le, le→leb, ltb→lt, lt→ltb, eqb→eq, not_T, T_not}
use lib.Ieee.Fits.{and_i, and_l, and_r, eq→eqb}
use Rattle.balance_rule.specs.Natural.{Limit, natural, max_content, definite, definite_below_0, Fits, line_size, Line, Valid, score, Better, Chosen, GreedyLine, Greedy}
use Rattle.balance_rule.specs.Rule.{MoreFirst, held}
use Rattle.balance_rule.specs.Rule as rule
use Rattle.balance_rule.proofs.Bridge.{size, balanced_is}
use Rattle.balance_rule.proofs.Exists.{empty}
use Rattle.break_greedy.specs.Breaking as limit

or_case : (a b : Bool) → T (a || b) → T a ⊎ T b
or_case true b t = inl tt
or_case false b t = inr t

or_l : (a b : Bool) → T a → T (a || b)
or_l true b t = tt
or_l false b t = absurd t

or_r : (a b : Bool) → T b → T (a || b)
or_r true b t = tt
or_r false b t = t

-- ---- every number below m
abbrev below : ℕ → (ℕ → Bool) → Bool
below zero f = true
below (suc m) f = f m && below m f

below_at : (m : ℕ) (f : ℕ → Bool) → T (below m f) → (i : ℕ) → i < m → T (f i)
below_at zero f t i h = absurd (omega arith)
below_at (suc m) f t i h = go (λ l. below_at m f (and_r (f m) (below m f) t) i l) (eq-or-lt_of_le (let q : i ≤ m = omega arith in q))
  where
    go : (i < m → T (f i)) → (i ≡ m) ⊎ (i < m) → T (f i)
    go r (inl e) = rw e (and_l (f m) (below m f) t)
    go r (inr l) = r l

-- every list of k positive counts with the sum n
abbrev every : ℕ → ℕ → (List ℕ → Bool) → Bool
every zero n f = f []
every (suc k) n f = below n (λ c. every k (n - suc c) (λ d. f (suc c ∷ d)))

-- ---- one line
abbrev fits_b : Limit → ℕ → Bool
fits_b max_content s = true
fits_b (definite m) s = leb s m
fits_b definite_below_0 s = false

fits_b→ : (l : Limit) (s : ℕ) → T (fits_b l s) → Fits l s
fits_b→ max_content s t = tt
fits_b→ (definite m) s t = leb→le s m t
fits_b→ definite_below_0 s t = t

→fits_b : (l : Limit) (s : ℕ) → Fits l s → T (fits_b l s)
→fits_b max_content s h = tt
→fits_b (definite m) s h = le→leb s m h
→fits_b definite_below_0 s h = h

abbrev zeros_b : Limit → ℕ → List ℕ → ℕ → ℕ → Bool
zeros_b l g xs c after = not (ltb c (length xs) && eqb (get_or xs c 1) 0) || (not (fits_b l (line_size g (take (c + 1) xs))) || ltb (length xs - (c + 1)) after)

abbrev line_b : Limit → ℕ → List ℕ → ℕ → ℕ → Bool
line_b l g xs c after = ltb 0 c && (leb c (length xs) && ((eqb c 1 || fits_b l (line_size g (take c xs))) && zeros_b l g xs c after))

line_b→ : (l : Limit) (g : ℕ) (xs : List ℕ) (c after : ℕ) → T (line_b l g xs c after) → Line l g xs c after
line_b→ l g xs c after t = record {
  positive = ltb→lt 0 c (and_l (ltb 0 c) R₁ t);
  enough = leb→le c (length xs) (and_l (leb c (length xs)) R₂ t₁);
  fit = fit' (or_case (eqb c 1) (fits_b l (line_size g (take c xs))) (and_l (eqb c 1 || fits_b l (line_size g (take c xs))) (zeros_b l g xs c after) t₂));
  zeros = λ p q. zeros' p q (or_case (not (ltb c (length xs) && eqb (get_or xs c 1) 0)) R₃ (and_r (eqb c 1 || fits_b l (line_size g (take c xs))) (zeros_b l g xs c after) t₂));
}
  where
    R₂ : Bool
    R₂ = (eqb c 1 || fits_b l (line_size g (take c xs))) && zeros_b l g xs c after

    R₁ : Bool
    R₁ = leb c (length xs) && R₂

    R₃ : Bool
    R₃ = not (fits_b l (line_size g (take (c + 1) xs))) || ltb (length xs - (c + 1)) after

    t₁ : T R₁
    t₁ = and_r (ltb 0 c) R₁ t

    t₂ : T R₂
    t₂ = and_r (leb c (length xs)) R₂ t₁

    fit' : T (eqb c 1) ⊎ T (fits_b l (line_size g (take c xs))) → (c ≡ 1) ⊎ Fits l (line_size g (take c xs))
    fit' (inl h) = inl (eqb→eq c 1 h)
    fit' (inr h) = inr (fits_b→ l (line_size g (take c xs)) h)

    zeros' : c < length xs → get_or xs c 1 ≡ 0 → T (not (ltb c (length xs) && eqb (get_or xs c 1) 0)) ⊎ T R₃ → (¬ Fits l (line_size g (take (c + 1) xs))) ⊎ (length xs - (c + 1) < after)
    zeros' p q (inl h) = absurd (T_not (ltb c (length xs) && eqb (get_or xs c 1) 0) h (and_i (ltb c (length xs)) (eqb (get_or xs c 1) 0) (lt→ltb c (length xs) p) (eq→eqb q)))
    zeros' p q (inr h) = last (or_case (not (fits_b l (line_size g (take (c + 1) xs)))) (ltb (length xs - (c + 1)) after) h)
      where
        last : T (not (fits_b l (line_size g (take (c + 1) xs)))) ⊎ T (ltb (length xs - (c + 1)) after) → (¬ Fits l (line_size g (take (c + 1) xs))) ⊎ (length xs - (c + 1) < after)
        last (inl u) = inl (λ f. T_not (fits_b l (line_size g (take (c + 1) xs))) u (→fits_b l (line_size g (take (c + 1) xs)) f))
        last (inr u) = inr (ltb→lt (length xs - (c + 1)) after u)

T-dec : (b : Bool) → T b ⊎ (T b → ⊥)
T-dec true = inl tt
T-dec false = inr (λ t. t)

→line_b : (l : Limit) (g : ℕ) (xs : List ℕ) (c after : ℕ) → Line l g xs c after → T (line_b l g xs c after)
→line_b l g xs c after L =
    and_i (ltb 0 c) _ (lt→ltb 0 c L.positive) (and_i (leb c (length xs)) _ (le→leb c (length xs) L.enough) (and_i (eqb c 1 || fits_b l (line_size g (take c xs))) (zeros_b l g xs c after) (one L.fit) (zero' (T-dec A))))
  where
    A : Bool
    A = ltb c (length xs) && eqb (get_or xs c 1) 0

    one : (c ≡ 1) ⊎ Fits l (line_size g (take c xs)) → T (eqb c 1 || fits_b l (line_size g (take c xs)))
    one (inl e) = or_l (eqb c 1) (fits_b l (line_size g (take c xs))) (eq→eqb e)
    one (inr e) = or_r (eqb c 1) (fits_b l (line_size g (take c xs))) (→fits_b l (line_size g (take c xs)) e)

    R₃ : Bool
    R₃ = not (fits_b l (line_size g (take (c + 1) xs))) || ltb (length xs - (c + 1)) after

    r₃ : (¬ Fits l (line_size g (take (c + 1) xs))) ⊎ (length xs - (c + 1) < after) → T R₃
    r₃ (inl f) = or_l (not (fits_b l (line_size g (take (c + 1) xs)))) (ltb (length xs - (c + 1)) after) (not_T (fits_b l (line_size g (take (c + 1) xs))) (λ t. f (fits_b→ l (line_size g (take (c + 1) xs)) t)))
    r₃ (inr f) = or_r (not (fits_b l (line_size g (take (c + 1) xs)))) (ltb (length xs - (c + 1)) after) (lt→ltb (length xs - (c + 1)) after f)

    zero' : T A ⊎ (T A → ⊥) → T (not A || R₃)
    zero' (inr f) = or_l (not A) R₃ (not_T A f)
    zero' (inl t) = or_r (not A) R₃ (r₃ (L.zeros (ltb→lt c (length xs) (and_l (ltb c (length xs)) (eqb (get_or xs c 1) 0) t)) (eqb→eq (get_or xs c 1) 0 (and_r (ltb c (length xs)) (eqb (get_or xs c 1) 0) t))))

-- ---- a division
abbrev valid_b : Limit → ℕ → List ℕ → List ℕ → Bool
valid_b l g xs [] = eqb (length xs) 0
valid_b l g xs (c ∷ d) = line_b l g xs c (length d) && valid_b l g (drop c xs) d

valid_b→ : (l : Limit) (g : ℕ) (xs d : List ℕ) → T (valid_b l g xs d) → Valid l g xs d
valid_b→ l g xs [] t = empty xs (eqb→eq (length xs) 0 t)
valid_b→ l g xs (c ∷ d) t = (line_b→ l g xs c (length d) (and_l (line_b l g xs c (length d)) (valid_b l g (drop c xs) d) t), valid_b→ l g (drop c xs) d (and_r (line_b l g xs c (length d)) (valid_b l g (drop c xs) d) t))

→valid_b : (l : Limit) (g : ℕ) (xs d : List ℕ) → Valid l g xs d → T (valid_b l g xs d)
→valid_b l g xs [] v = eq→eqb (ap length v)
→valid_b l g xs (c ∷ d) v = and_i (line_b l g xs c (length d)) (valid_b l g (drop c xs) d) (→line_b l g xs c (length d) v.0) (→valid_b l g (drop c xs) d v.1)

-- every valid division is tried
tried : (l : Limit) (g : ℕ) (xs : List ℕ) (f : List ℕ → Bool) (k : ℕ) (d : List ℕ) → T (every k (length xs) f) → length d ≡ k → Valid l g xs d → T (f d)
tried l g xs f zero [] t e v = t
tried l g xs f zero (c ∷ d) t e v = absurd (omega arith)
tried l g xs f (suc k) [] t e v = absurd (omega arith)
tried l g xs f (suc k) (zero ∷ d) t e v = absurd (omega (arith, v.0.positive))
tried l g xs f (suc k) (suc c ∷ d) t e v =
    let u : T (every k (length xs - suc c) (λ d'. f (suc c ∷ d'))) = below_at (length xs) (λ i. every k (length xs - suc i) (λ d'. f (suc i ∷ d'))) t c v.0.enough in
    let w : T (every k (length (drop (suc c) xs)) (λ d'. f (suc c ∷ d'))) = rw (length-drop (suc c) xs) u in
    tried l g (drop (suc c) xs) (λ d'. f (suc c ∷ d')) k d w (let q : length d ≡ k = omega arith in q) v.1

abbrev same_b : List ℕ → List ℕ → Bool
same_b [] [] = true
same_b [] (b ∷ e) = false
same_b (c ∷ d) [] = false
same_b (c ∷ d) (b ∷ e) = eqb c b && same_b d e

same_b→ : (d e : List ℕ) → T (same_b d e) → d ≡ e
same_b→ [] [] t = refl
same_b→ [] (b ∷ e) t = absurd t
same_b→ (c ∷ d) [] t = absurd t
same_b→ (c ∷ d) (b ∷ e) t = rw (eqb→eq c b (and_l (eqb c b) (same_b d e) t), same_b→ d e (and_r (eqb c b) (same_b d e) t))

abbrev more_b : List ℕ → List ℕ → Bool
more_b [] e = false
more_b (c ∷ d) [] = false
more_b (c ∷ d) (b ∷ e) = ltb b c || (eqb c b && more_b d e)

more_b→ : (d e : List ℕ) → T (more_b d e) → MoreFirst d e
more_b→ [] e t = t
more_b→ (c ∷ d) [] t = t
more_b→ (c ∷ d) (b ∷ e) t = go (λ u. more_b→ d e u) (or_case (ltb b c) (eqb c b && more_b d e) t)
  where
    go : (T (more_b d e) → MoreFirst d e) → T (ltb b c) ⊎ T (eqb c b && more_b d e) → (b < c) ⊎ ((c ≡ b) × MoreFirst d e)
    go r (inl h) = inl (ltb→lt b c h)
    go r (inr h) = inr (eqb→eq c b (and_l (eqb c b) (more_b d e) h), r (and_r (eqb c b) (more_b d e) h))

abbrev better_b : ℕ → List ℕ → List ℕ → List ℕ → Bool
better_b g xs d e = ltb (score g xs d) (score g xs e) || (eqb (score g xs d) (score g xs e) && more_b d e)

better_b→ : (g : ℕ) (xs d e : List ℕ) → T (better_b g xs d e) → Better g xs d e
better_b→ g xs d e t = go (or_case (ltb (score g xs d) (score g xs e)) (eqb (score g xs d) (score g xs e) && more_b d e) t)
  where
    go : T (ltb (score g xs d) (score g xs e)) ⊎ T (eqb (score g xs d) (score g xs e) && more_b d e) → Better g xs d e
    go (inl h) = inl (ltb→lt (score g xs d) (score g xs e) h)
    go (inr h) = inr (eqb→eq (score g xs d) (score g xs e) (and_l (eqb (score g xs d) (score g xs e)) (more_b d e) h), more_b→ d e (and_r (eqb (score g xs d) (score g xs e)) (more_b d e) h))

-- d is valid, and every division of as many lines is not valid, or is d, or is worse
abbrev rival_b : Limit → ℕ → List ℕ → List ℕ → List ℕ → Bool
rival_b l g xs d e = not (valid_b l g xs e) || (same_b d e || better_b g xs d e)

abbrev pub chosen_b : Limit → ℕ → List ℕ → List ℕ → Bool
chosen_b l g xs d = valid_b l g xs d && every (length d) (length xs) (rival_b l g xs d)

pub chosen_by_test : (l : Limit) (g : ℕ) (xs d : List ℕ) → T (chosen_b l g xs d) → Chosen l g xs (length d) d
chosen_by_test l g xs d t = record {
  valid = valid_b→ l g xs d (and_l (valid_b l g xs d) (every (length d) (length xs) (rival_b l g xs d)) t);
  lines = refl;
  best = λ e v k. best' e v (or_case (not (valid_b l g xs e)) (same_b d e || better_b g xs d e) (tried l g xs (rival_b l g xs d) (length d) e (and_r (valid_b l g xs d) (every (length d) (length xs) (rival_b l g xs d)) t) k v));
}
  where
    best' : (e : List ℕ) → Valid l g xs e → T (not (valid_b l g xs e)) ⊎ T (same_b d e || better_b g xs d e) → (d ≡ e) ⊎ Better g xs d e
    best' e v (inl h) = absurd (T_not (valid_b l g xs e) h (→valid_b l g xs e v))
    best' e v (inr h) = last (or_case (same_b d e) (better_b g xs d e) h)
      where
        last : T (same_b d e) ⊎ T (better_b g xs d e) → (d ≡ e) ⊎ Better g xs d e
        last (inl u) = inl (same_b→ d e u)
        last (inr u) = inr (better_b→ g xs d e u)

-- ---- greedy breaking
abbrev taken_b : Limit → ℕ → List ℕ → ℕ → Bool
taken_b l g xs c = below (suc c) (λ j. not (ltb 1 j) || fits_b l (line_size g (take j xs)))

abbrev greedy_line_b : Limit → ℕ → List ℕ → ℕ → Bool
greedy_line_b l g xs c = ltb 0 c && (leb c (length xs) && (taken_b l g xs c && (not (ltb c (length xs)) || not (fits_b l (line_size g (take (c + 1) xs))))))

greedy_line_b→ : (l : Limit) (g : ℕ) (xs : List ℕ) (c : ℕ) → T (greedy_line_b l g xs c) → GreedyLine l g xs c
greedy_line_b→ l g xs c t = record {
  positive = ltb→lt 0 c (and_l (ltb 0 c) R₁ t);
  enough = leb→le c (length xs) (and_l (leb c (length xs)) R₂ t₁);
  taken = λ j p q. taken' j p (or_case (not (ltb 1 j)) (fits_b l (line_size g (take j xs))) (below_at (suc c) (λ i. not (ltb 1 i) || fits_b l (line_size g (take i xs))) (and_l (taken_b l g xs c) R₃ t₂) j (omega arith)));
  full = λ h f. full' h f (or_case (not (ltb c (length xs))) (not (fits_b l (line_size g (take (c + 1) xs)))) (and_r (taken_b l g xs c) R₃ t₂));
}
  where
    R₃ : Bool
    R₃ = not (ltb c (length xs)) || not (fits_b l (line_size g (take (c + 1) xs)))

    R₂ : Bool
    R₂ = taken_b l g xs c && R₃

    R₁ : Bool
    R₁ = leb c (length xs) && R₂

    t₁ : T R₁
    t₁ = and_r (ltb 0 c) R₁ t

    t₂ : T R₂
    t₂ = and_r (leb c (length xs)) R₂ t₁

    taken' : (j : ℕ) → 1 < j → T (not (ltb 1 j)) ⊎ T (fits_b l (line_size g (take j xs))) → Fits l (line_size g (take j xs))
    taken' j p (inl h) = absurd (T_not (ltb 1 j) h (lt→ltb 1 j p))
    taken' j p (inr h) = fits_b→ l (line_size g (take j xs)) h

    full' : c < length xs → Fits l (line_size g (take (c + 1) xs)) → T (not (ltb c (length xs))) ⊎ T (not (fits_b l (line_size g (take (c + 1) xs)))) → ⊥
    full' p f (inl h) = T_not (ltb c (length xs)) h (lt→ltb c (length xs) p)
    full' p f (inr h) = T_not (fits_b l (line_size g (take (c + 1) xs))) h (→fits_b l (line_size g (take (c + 1) xs)) f)

abbrev pub greedy_b : Limit → ℕ → List ℕ → List ℕ → Bool
greedy_b l g xs [] = eqb (length xs) 0
greedy_b l g xs (c ∷ d) = greedy_line_b l g xs c && greedy_b l g (drop c xs) d

greedy_b→ : (l : Limit) (g : ℕ) (xs d : List ℕ) → T (greedy_b l g xs d) → Greedy l g xs d
greedy_b→ l g xs [] t = empty xs (eqb→eq (length xs) 0 t)
greedy_b→ l g xs (c ∷ d) t = (greedy_line_b→ l g xs c (and_l (greedy_line_b l g xs c) (greedy_b l g (drop c xs) d) t), greedy_b→ l g (drop c xs) d (and_r (greedy_line_b l g xs c) (greedy_b l g (drop c xs) d) t))

-- ---- a worked example: sizes in sixty-fourths, the greedy counts over them, and the balanced ones
pub record Case : Type 0 where
  pub limit : limit.Limit
  pub gap : ℕ
  pub sizes : List ℤ
  pub minimum : ℕ
  pub greedy : List ℕ
  pub counts : List ℕ

abbrev pub case_b : Case → Bool
case_b c =
    greedy_b (natural c.limit) c.gap (map size c.sizes) c.greedy
    && (eqb (length c.counts) (max (length c.greedy) (held c.minimum (length (map size c.sizes)))) && chosen_b (natural c.limit) c.gap (map size c.sizes) c.counts)

pub case_by_test : (c : Case) → T (case_b c) → rule.Balanced c.limit (pos c.gap) c.sizes c.minimum c.counts
case_by_test c t =
    let l : Limit = natural c.limit in
    let xs : List ℕ = map size c.sizes in
    let A : Bool = greedy_b l c.gap xs c.greedy in
    let K : Bool = eqb (length c.counts) (max (length c.greedy) (held c.minimum (length xs))) in
    let B : Bool = chosen_b l c.gap xs c.counts in
    let u : T (K && B) = and_r A (K && B) t in
    balanced_is c.limit c.gap c.sizes c.minimum c.counts (record {
      count = record { greedy = c.greedy; is_greedy = greedy_b→ l c.gap xs c.greedy (and_l A (K && B) t); is = eqb→eq (length c.counts) (max (length c.greedy) (held c.minimum (length xs))) (and_l K B u) };
      chosen = chosen_by_test l c.gap xs c.counts (and_r K B u);
    })
