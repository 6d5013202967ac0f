-- What a caller goes by: the least mark is the refusal that document 01's order of checks gives, marks of parts make those of the whole, and what acceptance says of every number.
-- Assumes nothing.
use mathlib.Core.Path.{◌≡◌, refl, sym, ap, ap₂, ◌∙◌, subst}
use mathlib.Core.Bool.{Bool, true, false, not, cond, ◌&&◌, ◌||◌, true≢false}
use mathlib.Core.List.{List, [], ◌∷◌, ◌++◌}
use Prim.Native.Nat.{ℕ, zero, suc, ◌+◌, ◌-◌, ◌≤◌, ◌<◌, min}
use native.Mathlib.Nat.{min-eq_left, le_refl}
use native.Mathlib.Numerals.{add-one}
use native.Mathlib.Omega.{arith}
use lib.Dec.{T, ltb, leb}
use lib.IntN.{ℤ, pos, negsuc, nat_abs}
use lib.Signed.{le_z}
use lib.Ieee.{Float, binary32, le, neg, of_bits}
use lib.Ieee.Scale.{finite}
use mir.Facts.{and_yes}
use borrow.Author.Tests.{lt-ltb, le-ltb, ltb-true, ltb-false, leb-true, not-false}
use Rattle.grid.specs.Grid.{on_grid, sixty_fourths, within}
use Rattle.grid.specs.Values.{Length}
use Rattle.grid.proofs.Exact.{le_at}
use Rattle.grid.proofs.Meaning.{none_at, none_bits, at_of_grid}
use Rattle.grid.proofs.Range.{within_small}
use Rattle.checks.specs.declared.Kind.TheVariants as kind
use Rattle.checks.specs.declared.Place.{Place}
use Rattle.checks.specs.declared.Place.TheVariants.{Container, At}
use Rattle.checks.specs.declared.Refusal.{Refusal}
use Rattle.checks.specs.declared.Refusal.TheVariants.{TooManyItems, TooLittleRoom, NotFinite, OffGrid, OutOfRange, SumTooLarge}
use Rattle.checks.specs.Domain.{Number, float, code, in_range, not_below0, not_finite, off_grid, out_of_range, Input, any, first, or_else, check, checked, shape, summed, then, paper, Verdict}
use Rattle.checks.specs.Marks.{mark, least_of, least_up_to, least_mark, place_of, judged, Fine, AllFine, SoundInput}
use Rattle.checks.proofs.Order.{cond-le, mark_of, least_is, least_ext, items_are}
use Rattle.checks.proofs.Verdicts.{not_both}
use Rattle.std.specs.declared.result.Result.TheVariants.{Ok, Err}

-- ---- a mark, judged
judged_3 : (n p : ℕ) → n ≡ p → p < 2048 → judged n ≡ Err (NotFinite (place_of p))
unfolding judged
judged_3 n p e h = ap judged e ∙ simp (lt-ltb p 2048 h)

judged_4 : (n p : ℕ) → n ≡ 2048 + p → p < 2048 → judged n ≡ Err (OffGrid (place_of p))
unfolding judged
judged_4 n p e h = let d : 2048 + p - 2048 ≡ p = omega arith in ap judged e ∙ simp (le-ltb (2048 + p) 2048 (omega arith), lt-ltb (2048 + p) 4096 (omega arith), d)

judged_5 : (n p : ℕ) → n ≡ 4096 + p → p < 2048 → judged n ≡ Err (OutOfRange (place_of p))
unfolding judged
judged_5 n p e h =
    let d : 4096 + p - 4096 ≡ p = omega arith in
    ap judged e ∙ simp (le-ltb (4096 + p) 2048 (omega arith), le-ltb (4096 + p) 4096 (omega arith), lt-ltb (4096 + p) 6144 (omega arith), d)

judged-none : (n : ℕ) → n ≡ 6144 → judged n ≡ Ok tt
unfolding judged
judged-none n e = ap judged e

place_at : (i : ℕ) → place_of (i + 1) ≡ At i
place_at i = ap place_of (add-one i)

-- the container's outcomes a, b and d, and the first items i, j and k that fail, where p, q and r say that there are such
module _ (i j k : ℕ) (rest : Verdict) where
  in_order : (a p b q d r : Bool) → (p ≡ true → i < 1024) → (q ≡ true → j < 1024) → (r ≡ true → k < 1024)
      → then (judged (min (mark_of a b d 0) (cond p (0 + (i + 1)) (cond q (2048 + (j + 1)) (cond r (4096 + (k + 1)) 6144))))) rest
      ≡ or_else a (Err (NotFinite Container)) (or_else p (Err (NotFinite (At i)))
      (or_else b (Err (OffGrid Container)) (or_else q (Err (OffGrid (At j)))
      (or_else d (Err (OutOfRange Container)) (or_else r (Err (OutOfRange (At k))) rest)))))
  in_order true p b q d r f g h = ap (λ (v : Verdict). then v rest) (judged_3 _ 0 (omega arith) (omega arith))
  in_order false true b q d r f g h =
      let l = f refl in
      let m : i + 1 ≤ cond b 2048 (cond d 4096 6144) = cond-le b (i + 1) 2048 (cond d 4096 6144) (omega arith) (cond-le d (i + 1) 4096 6144 (omega arith) (omega arith)) in
      ap (λ (v : Verdict). then v rest) (judged_3 _ (i + 1) (omega arith) (omega arith) ∙ ap (λ (w : Place). Err (NotFinite w)) (place_at i))
  in_order false false true q d r f g h =
      let m : 2048 ≤ cond q (2048 + (j + 1)) (cond r (4096 + (k + 1)) 6144) = cond-le q 2048 (2048 + (j + 1)) (cond r (4096 + (k + 1)) 6144) (omega arith) (cond-le r 2048 (4096 + (k + 1)) 6144 (omega arith) (omega arith)) in
      ap (λ (v : Verdict). then v rest) (judged_4 _ 0 (omega arith) (omega arith))
  in_order false false false true d r f g h =
      let l = g refl in
      let m : 2048 + (j + 1) ≤ cond d 4096 6144 = cond-le d (2048 + (j + 1)) 4096 6144 (omega arith) (omega arith) in
      ap (λ (v : Verdict). then v rest) (judged_4 _ (j + 1) (omega arith) (omega arith) ∙ ap (λ (w : Place). Err (OffGrid w)) (place_at j))
  in_order false false false false true r f g h =
      let m : 4096 ≤ cond r (4096 + (k + 1)) 6144 = cond-le r 4096 (4096 + (k + 1)) 6144 (omega arith) (omega arith) in
      ap (λ (v : Verdict). then v rest) (judged_5 _ 0 (omega arith) (omega arith))
  in_order false false false false false true f g h =
      let l = h refl in
      ap (λ (v : Verdict). then v rest) (judged_5 _ (k + 1) (omega arith) (omega arith) ∙ ap (λ (w : Place). Err (OutOfRange w)) (place_at k))
  in_order false false false false false false f g h = ap (λ (v : Verdict). then v rest) (judged-none _ (omega arith))

-- the least mark's refusal is that of checks 3, 4 and 5 in their order, each with the container first and then the items from 0
pub judged-checked : (input : Input) → input.count ≤ 1024 → (rest : Verdict) → then (judged (least_mark input)) rest ≡ checked input rest
unfolding check
judged-checked input h rest =
    let n = input.count in
    let a : ℕ → Bool = λ i. any not_finite (input.item i) in
    let b : ℕ → Bool = λ i. any off_grid (input.item i) in
    let d : ℕ → Bool = λ i. any out_of_range (input.item i) in
    ap (λ (m : ℕ). then (judged m) rest)
    (ap₂ min (least_is 0 (omega arith) input.container) (least_ext _ _ n (λ (i : ℕ) (l : i < n). least_is (i + 1) (omega arith) (input.item i)) ∙ items_are a b d n h))
    ∙ in_order (first a n) (first b n) (first d n) rest (any not_finite input.container) (ltb (first a n) n) (any off_grid input.container) (ltb (first b n) n) (any out_of_range input.container) (ltb (first d n) n)
    (λ e. below (first a n) e) (λ e. below (first b n) e) (λ e. below (first d n) e)
  where
    below : (i : ℕ) → ltb i input.count ≡ true → i < 1024
    below i e = let l = ltb-true i input.count e in omega arith

-- ---- the marks of parts
least_most : (l : List Number) (place : ℕ) → least_of l place ≤ 6144
unfolding least_of
least_most [] place = le_refl 6144
least_most (x ∷ l) place = omega (arith, least_most l place)

pub least_append : (xs ys : List Number) (place : ℕ) → least_of (xs ++ ys) place ≡ min (least_of xs place) (least_of ys place)
unfolding least_of
least_append [] ys place = omega (arith, least_most ys place)
least_append (x ∷ xs) ys place = omega (arith, least_append xs ys place)

-- a mark is at most 6144, so that the mark of one number is the least of its list
pub mark_most : (x : Number) (place : ℕ) → place ≤ 1024 → mark x place ≤ 6144
unfolding mark
mark_most x place h = go (not_finite x) (off_grid x) (out_of_range x)
  where
    go : (a b c : Bool) → mark_of a b c place ≤ 6144
    go true b c = omega arith
    go false true c = omega arith
    go false false true = omega arith
    go false false false = omega arith

pub least_one : (x : Number) (place : ℕ) → place ≤ 1024 → least_of (x ∷ []) place ≡ mark x place
unfolding least_of
least_one x place h = omega (arith, mark_most x place h)

pub least_both : (f g : ℕ → ℕ) (n : ℕ) → least_up_to (λ i. min (f i) (g i)) n ≡ min (least_up_to f n) (least_up_to g n)
unfolding least_up_to
least_both f g zero = sym (min-eq_left (le_refl 6144))
least_both f g (suc n) = omega (arith, least_both f g n)

-- ---- what a pass says of the checks
or_else_lem : (b : Bool) (why : Refusal) (rest : Verdict) → or_else b (Err why) rest ≡ Ok tt → (b ≡ false) × (rest ≡ Ok tt)
or_else_lem true why rest e = absurd (not_both e refl)
or_else_lem false why rest e = (refl, e)

pub then_passed : (v rest : Verdict) → then v rest ≡ Ok tt → (v ≡ Ok tt) × (rest ≡ Ok tt)
then_passed (Ok tt) rest e = (refl, e)
then_passed (Err why) rest e = absurd (not_both e refl)

pub shape_passed : (longest : ℕ) (room : Bool) → shape longest room ≡ Ok tt → (longest ≤ 1024) × (room ≡ true)
shape_passed longest room e =
    let p = or_else_lem (ltb 1024 longest) TooManyItems _ e in
    (ltb-false 1024 longest p.0, not-false room (or_else_lem (not room) TooLittleRoom (Ok tt) p.1).0)

pub summed_passed : (total : ℕ) → summed total ≡ Ok tt → total ≤ 16777216
summed_passed total e = leb-true total 16777216 (not-false (leb total 16777216) (or_else_lem (not (leb total 16777216)) SumTooLarge (Ok tt) e).0)

-- ---- what acceptance says of the numbers
first-none : (q : ℕ → Bool) (n : ℕ) → n ≤ first q n → (i : ℕ) → i < n → q i ≡ false
unfolding first
first-none q zero h i l = absurd (omega arith)
first-none q (suc n) h i l = go (q zero) refl h i l (first-none (λ k. q (suc k)) n)
  where
    go : (b : Bool) → q zero ≡ b → suc n ≤ cond b zero (suc (first (λ k. q (suc k)) n)) → (i : ℕ) → i < suc n → (n ≤ first (λ k. q (suc k)) n → (k : ℕ) → k < n → q (suc k) ≡ false) → q i ≡ false
    go true e h i l f = absurd (omega arith)
    go false e h zero l f = e
    go false e h (suc i) l f = f (omega arith) i (omega arith)

record Clear (fails : Number → Bool) (input : Input) : Type 0 where
  inside : any fails input.container ≡ false
  each : (i : ℕ) → i < input.count → any fails (input.item i) ≡ false

clear : (fails : Number → Bool) (refusal : Place → Refusal) (input : Input) (rest : Verdict) → check fails refusal input rest ≡ Ok tt → Clear fails input × (rest ≡ Ok tt)
unfolding check
clear fails refusal input rest e =
    let p = or_else_lem (any fails input.container) (refusal Container) _ e in
    let q = or_else_lem (ltb (first (λ k. any fails (input.item k)) input.count) input.count) (refusal (At (first (λ k. any fails (input.item k)) input.count))) rest p.1 in
    (record { inside = p.0; each = first-none (λ k. any fails (input.item k)) input.count (ltb-false _ input.count q.0) }, q.1)

none_of : (b d : Bool) → b || d ≡ false → (b ≡ false) × (d ≡ false)
none_of true d e = absurd (true≢false e)
none_of false d e = (refl, e)

all_fine : (l : List Number) → any not_finite l ≡ false → any off_grid l ≡ false → any out_of_range l ≡ false → AllFine l
unfolding any
all_fine [] p q r = tt
all_fine (x ∷ l) p q r =
    let p' = none_of (not_finite x) (any not_finite l) p in
    let q' = none_of (off_grid x) (any off_grid l) q in
    let r' = none_of (out_of_range x) (any out_of_range l) r in
    (record { finite = p'.0; grid = q'.0; range = r'.0 }, all_fine l p'.1 q'.1 r'.1)

pub accepted : (input : Input) (rest : Verdict) → checked input rest ≡ Ok tt → SoundInput input × (rest ≡ Ok tt)
accepted input rest e =
    let p = clear not_finite NotFinite input _ e in
    let q = clear off_grid OffGrid input _ p.1 in
    let r = clear out_of_range OutOfRange input rest q.1 in (
      record {
        container = all_fine input.container p.0.inside q.0.inside r.0.inside;
        items = λ i l. all_fine (input.item i) (p.0.each i l) (q.0.each i l) (r.0.each i l);
      },
      r.1,
    )

pub fine-append : (xs ys : List Number) → AllFine (xs ++ ys) → AllFine xs × AllFine ys
fine-append [] ys h = (tt, h)
fine-append (x ∷ xs) ys h = let r = fine-append xs ys h.1 in ((h.0, r.0), r.1)

-- ---- a number that is fine, by its kind
pub T_of : (b : Bool) → not b ≡ false → T b
T_of true e = tt
T_of false e = absurd (true≢false e)

length_of : (n : ℕ) (x : Float) → n ≤ 262144 → T (on_grid x) → T (within n x) → Length x
length_of n x h g w = let s = (within_small n x g).0 w in record { grid = g; small = omega arith }

pub fine-length : {x : Float} → Fine (float kind.Length x) → Length x
unfolding off_grid out_of_range in_range
fine-length {x} f = length_of 262144 x (le_refl 262144) (T_of (on_grid x) f.grid) (T_of (within 262144 x) f.range)

pub fine-margin : {x : Float} → Fine (float kind.Margin x) → Length x × (nat_abs (sixty_fourths x) ≤ 8388608)
unfolding off_grid out_of_range in_range
fine-margin {x} f =
    let g = T_of (on_grid x) f.grid in
    let w = T_of (within 131072 x) f.range in
    (length_of 131072 x (omega arith) g w, (within_small 131072 x g).0 w)

-- "-0.0 reads as 0": a size may be -0.0
pub minus_zero : in_range kind.Size (neg (of_bits binary32 0)) ≡ true
unfolding in_range within neg of_bits le
minus_zero = refl

-- a length that is not below 0
not_below : (x : Float) → T (on_grid x) → T (not_below0 x) → (n : ℕ) × (sixty_fourths x ≡ pos n)
not_below x g t = go (sixty_fourths x) (subst T (ap (λ (z : Float). le z x) none_bits ∙ le_at 64 (omega arith) (none_at 64) (at_of_grid x g)) t)
  where
    go : (z : ℤ) → T (le_z (pos 0) z) → (n : ℕ) × (z ≡ pos n)
    go (pos n) t = (n, refl)
    go (negsuc n) t = absurd t

pub fine_size : {x : Float} → Fine (float kind.Size x) → Length x × ((n : ℕ) × (sixty_fourths x ≡ pos n))
unfolding off_grid out_of_range in_range
fine_size {x} f =
    let g = T_of (on_grid x) f.grid in
    let w = and_yes (within 262144 x) (not_below0 x) (T_of (within 262144 x && not_below0 x) f.range) in
    (length_of 262144 x (le_refl 262144) g w.0, not_below x g w.1)

pub fine-factor : {x : Float} → Fine (float kind.Factor x) → (finite x ≡ true) × T (within 1024 x) × T (not_below0 x)
unfolding not_finite out_of_range in_range
fine-factor {x} f =
    let w = and_yes (within 1024 x) (not_below0 x) (T_of (within 1024 x && not_below0 x) f.range) in
    (not-false (finite x) f.finite, w.0, w.1)

pub fine-worked : {x : Float} → Fine (float kind.Worked x) → (finite x ≡ true) × T (within 16777216 x)
unfolding not_finite out_of_range in_range
fine-worked {x} f = (not-false (finite x) f.finite, T_of (within 16777216 x) f.range)

pub fine_code : {most c : ℕ} → Fine (code most c) → c ≤ most
unfolding out_of_range
fine_code {most} {c} f = ltb-false most c f.range

-- ---- a refusal on paper: its number is one of 1 to 6, with no lines and no rounds
pub refused_paper : (why : Refusal) → let p = paper (Err why) in (1 ≤ p.number) × (p.number ≤ 6) × (p.lines ≡ 0) × (p.rounds ≡ 0)
refused_paper TooManyItems = (omega arith, omega arith, refl, refl)
refused_paper TooLittleRoom = (omega arith, omega arith, refl, refl)
refused_paper (NotFinite p) = (omega arith, omega arith, refl, refl)
refused_paper (OffGrid p) = (omega arith, omega arith, refl, refl)
refused_paper (OutOfRange p) = (omega arith, omega arith, refl, refl)
refused_paper SumTooLarge = (omega arith, omega arith, refl, refl)
