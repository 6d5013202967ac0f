-- The marks of lists, put together as document 01's checks of a call, and what a passed shape says of the lengths. Assumes nothing.
use mathlib.Core.Path.{◌≡◌, refl, sym, ap, ◌∙◌, ap₂}
use mathlib.Core.Bool.{Bool, true, false, ◌&&◌}
use mathlib.Core.List.{List, [], ◌∷◌, ◌++◌}
use Prim.Native.Nat.{ℕ, ◌+◌, ◌≤◌, min, zero-le}
use native.Mathlib.Omega.{arith}
use borrow.Author.Tests.{eqb-true, leb-true}
use lib.Dec.{eqb, leb}
use Rattle.checks.specs.Domain.{Number, Input, checked}
use Rattle.checks.specs.Marks.{mark, least_of, least_up_to, least_mark, judged}
use Rattle.checks.proofs.Order.{least_ext}
use Rattle.checks.proofs.Checks.{judged-checked, least_append, least_one, least_both, shape_passed}
use Rattle.checks.specs.Shapes.{longest, alike, roomy, shape_of}
use Rattle.checks.proofs.Verdicts.{then_last}
use Rattle.std.specs.declared.result.Result.TheVariants.{Ok}
use Rattle.std.proofs.Math.Bool.{and_assoc}

-- ---- marks

-- one number of each item
pub items_one : (x : ℕ → Number) (n : ℕ) → n ≤ 1024 → least_up_to (λ i. mark (x i) (i + 1)) n ≡ least_up_to (λ i. least_of (x i ∷ []) (i + 1)) n
items_one x n h = least_ext (λ i. mark (x i) (i + 1)) (λ i. least_of (x i ∷ []) (i + 1)) n (λ i l. sym (least_one (x i) (i + 1) (omega arith)))

-- one number more of each item
pub items_more : (x : ℕ → Number) (l : ℕ → List Number) (n : ℕ) → least_up_to (λ i. least_of (x i ∷ l i) (i + 1)) n ≡ min (least_up_to (λ i. mark (x i) (i + 1)) n) (least_up_to (λ i. least_of (l i) (i + 1)) n)
unfolding least_of
items_more x l n = least_both (λ i. mark (x i) (i + 1)) (λ i. least_of (l i) (i + 1)) n

-- two lists of each item
pub items_append : (a b : ℕ → List Number) (n : ℕ) → least_up_to (λ i. least_of (a i ++ b i) (i + 1)) n ≡ min (least_up_to (λ i. least_of (a i) (i + 1)) n) (least_up_to (λ i. least_of (b i) (i + 1)) n)
items_append a b n =
    least_ext (λ i. least_of (a i ++ b i) (i + 1)) (λ i. min (least_of (a i) (i + 1)) (least_of (b i) (i + 1))) n (λ i l. least_append (a i) (b i) (i + 1))
    ∙ least_both (λ i. least_of (a i) (i + 1)) (λ i. least_of (b i) (i + 1)) n

-- the least mark of the first n items, of which item i has the numbers f i
abbrev pub several : (ℕ → List Number) → ℕ → ℕ
several f n = least_up_to (λ i. least_of (f i) (i + 1)) n

pub several_both : (f g : ℕ → List Number) {n k a b r : ℕ} → k ≡ n → a ≡ several f k → b ≡ several g n → r ≡ min a b → r ≡ several (λ i. f i ++ g i) n
several_both f g {n} e p q h = h ∙ ap₂ min (p ∙ ap (several f) e) q ∙ sym (items_append f g n)

-- two numbers of the container
pub container-two : (x y : Number) → min (mark x 0) (mark y 0) ≡ least_of (x ∷ y ∷ []) 0
unfolding least_of
container-two x y = ap (min (mark x 0)) (sym (least_one y 0 zero-le))

-- the least mark, judged
pub judged_is : (input : Input) → input.count ≤ 1024 → judged (least_mark input) ≡ checked input (Ok tt)
judged_is input h = sym (then_last (judged (least_mark input))) ∙ judged-checked input h (Ok tt)

-- ---- shapes

pub and_true : (a b : Bool) → (a && b) ≡ true → (a ≡ true) × (b ≡ true)
and_true true b e = (refl, e)
and_true false b e = let z : ◌≡◌ {A = ℕ} 0 1 = cc in absurd (omega arith)

-- every length is n
abbrev pub All : ℕ → List ℕ → Type 0
All n [] = Unit {0}
All n (k ∷ l) = (k ≡ n) × All n l

abbrev pub Roomy : ℕ → List ℕ → Type 0
Roomy n [] = Unit {0}
Roomy n (k ∷ l) = (n ≤ k) × Roomy n l

alike_all : (n : ℕ) (l : List ℕ) → alike n l ≡ true → All n l
alike_all n [] e = tt
alike_all n (k ∷ l) e = let p = and_true (eqb k n) (alike n l) e in (eqb-true k n p.0, alike_all n l p.1)

roomy_all : (n : ℕ) (l : List ℕ) (rest : Bool) → roomy n l rest ≡ true → Roomy n l × (rest ≡ true)
roomy_all n [] rest e = (tt, e)
roomy_all n (k ∷ l) rest e = let p = and_true (leb n k) (roomy n l rest) e in let q = roomy_all n l rest p.1 in ((leb-true n k p.0, q.0), q.1)

longest-first : (n : ℕ) (l : List ℕ) → n ≤ longest (n ∷ l)
longest-first n l = omega arith

-- the lent lists have room and the rest holds, where each is told by itself
pub roomy_and : (n : ℕ) (l : List ℕ) (rest : Bool) → (roomy n l true && rest) ≡ roomy n l rest
roomy_and n [] rest = refl
roomy_and n (k ∷ l) rest = and_assoc (leb n k) (roomy n l true) rest ∙ ap (λ (p : Bool). leb n k && p) (roomy_and n l rest)

-- what checks 1 and 2 say where they pass
pub shaped : (n : ℕ) (lengths rooms : List ℕ) → shape_of (n ∷ lengths) rooms n ≡ Ok tt → (n ≤ 1024) × All n lengths × Roomy n rooms
shaped n lengths rooms e =
    let p = shape_passed (longest (n ∷ lengths)) (roomy n rooms (alike n (n ∷ lengths))) e in
    let q = roomy_all n rooms (alike n (n ∷ lengths)) p.1 in
    (omega (arith, longest-first n lengths, p.0), (alike_all n (n ∷ lengths) q.1).1, q.0)
