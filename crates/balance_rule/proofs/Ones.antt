-- As many lines as items are lines of one item each: so it is under min-content, and under any limit with a minimum of at least n lines, and these name
-- one division. Assumes nothing.
use mathlib.Core.Path.{◌≡◌, refl, sym, ◌∙◌, ap, subst}
use mathlib.Core.Logic.{◌↔◌}
use mathlib.Core.List.{List, [], ◌∷◌, map}
use Prim.Native.Nat.{ℕ, suc, ◌-◌, ◌≤◌, ◌<◌}
use native.Mathlib.Nat.{le-max_right, le-max_left, le-min, le_refl, le_trans, le_of_eq}
use native.Mathlib.Omega.{arith}
use lib.ListN.{length, drop, replicate, length-drop, length-map, length-replicate}
use lib.IntN.{ℤ, pos}
use Rattle.break_greedy.specs.Breaking.{Limit, min_content, greedy}
use Rattle.balance_rule.specs.Rule.{Valid, floored, held, required, Balanced}
use Rattle.break_greedy.proofs.Lines.{greedy-min}
use Rattle.balance_rule.proofs.Bridge.{balanced_some}

ones_of : (n m c : ℕ) (d : List ℕ) → 0 < c → c ≤ n → m ≡ n - c → d ≡ replicate m 1 → n ≤ suc (length d) → c ∷ d ≡ replicate n 1
ones_of n m c d p h e r long =
    let k : length d ≡ m = ap length r ∙ length-replicate m 1 in
    let one : c ≡ 1 = omega (arith, k) in
    let all : n ≡ suc m = omega (arith, one) in
    rw (all, one, r)

full_ones : (limit : Limit) (gap : ℤ) (xs : List ℤ) (d : List ℕ) → Valid limit gap xs d → length xs ≤ length d → d ≡ replicate (length xs) 1
full_ones limit gap [] [] v h = refl
full_ones limit gap (x ∷ xs) [] v h = absurd (omega arith)
full_ones limit gap xs (c ∷ d) (l, v) h =
    ones_of (length xs) (length (drop c xs)) c d l.positive l.enough (length-drop c xs)
    (full_ones limit gap (drop c xs) d v (omega (arith, length-drop c xs, l.positive))) (omega arith)

as_many : (limit : Limit) (gap : ℤ) (sizes : List ℤ) (minimum : ℕ) (d : List ℕ) → length (map floored sizes) ≤ required limit gap (map floored sizes) minimum
    → Balanced limit gap sizes minimum d → d ≡ replicate (length sizes) 1
as_many limit gap sizes minimum d all b =
    full_ones limit gap (map floored sizes) d b.valid (subst (λ (k : ℕ). length (map floored sizes) ≤ k) (sym b.lines) all)
    ∙ ap (λ (n : ℕ). replicate n 1) (length-map sizes floored)

-- "min-content gives one item to each line"
pub min_content_ones : (gap : ℤ) (sizes : List ℤ) (minimum : ℕ) (d : List ℕ) → Balanced min_content gap sizes minimum d → d ≡ replicate (length sizes) 1
min_content_ones gap sizes minimum d =
    let xs = map floored sizes in
    let n : length (greedy min_content gap xs) ≡ length xs = ap length (greedy-min gap xs) ∙ length-replicate (length xs) 1 in
    as_many min_content gap sizes minimum d (le_trans (le_of_eq (sym n)) (le-max_left (length (greedy min_content gap xs)) (held minimum (length xs))))

pub many_ones : (limit : Limit) (gap : ℤ) (sizes : List ℤ) (many : ℕ) (d : List ℕ) → length sizes ≤ many → Balanced limit gap sizes many d
    → d ≡ replicate (length sizes) 1
many_ones limit gap sizes many d enough =
    let xs = map floored sizes in
    let n : length xs ≡ length sizes = length-map sizes floored in
    let all : length xs ≤ held many (length xs) = le-min (le_trans (omega (arith, n)) (le-max_left many 1)) (le_refl (length xs)) in
    as_many limit gap sizes many d (le_trans all (le-max_right (length (greedy limit gap xs)) (held many (length xs))))

-- two predicates that ones alone meet, and ones meet the second: who meets the first meets the second
only_ones : (P Q : List ℕ → Type 0) (ones : List ℕ) → ((d : List ℕ) → P d → d ≡ ones) → ((d : List ℕ) → Q d → d ≡ ones) → (d : List ℕ) × Q d → (d : List ℕ) → P d → Q d
only_ones P Q ones p q some d b = subst Q (q some.0 some.1 ∙ sym (p d b)) some.1

pub min_as_many : (limit : Limit) (g : ℕ) (sizes : List ℤ) (minimum many : ℕ) → length sizes ≤ many → (d : List ℕ)
    → Balanced min_content (pos g) sizes minimum d ↔ Balanced limit (pos g) sizes many d
min_as_many limit g sizes minimum many enough d = (
  only_ones (Balanced min_content (pos g) sizes minimum) (Balanced limit (pos g) sizes many) (replicate (length sizes) 1)
      (min_content_ones (pos g) sizes minimum) (λ e. many_ones limit (pos g) sizes many e enough) (balanced_some limit g sizes many) d,
  only_ones (Balanced limit (pos g) sizes many) (Balanced min_content (pos g) sizes minimum) (replicate (length sizes) 1)
      (λ e. many_ones limit (pos g) sizes many e enough) (min_content_ones (pos g) sizes minimum) (balanced_some min_content g sizes minimum) d,
)
