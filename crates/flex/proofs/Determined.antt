-- What flexing a line allows is one answer, and there is one. Assumes nothing.
use mathlib.Core.Path.{◌≡◌, refl, sym, ap, ◌∙◌}
use mathlib.Core.List.{List, ◌++◌}
use Prim.Native.Nat.{ℕ}
use native.Mathlib.Nat.{le_trans, le_of_eq}
use lib.ListN.{length, drop, length-map}
use lib.IntN.{ℤ}
use lib.Ieee.{Float}
use Rattle.flex.specs.declared.Item.{Item}
use Rattle.flex.specs.Flex.{line_of, begun, start_cell, grows, targets, free_before, Flexed}
use Rattle.flex.proofs.Falls.{rounds_one, rounds_end, rounds_few}

-- ---- a line that is flexed

module _ (inner gap : Float) (items : List Item) (old : List Float) where
  pub same_rounds : {f g : ℤ} {m n : ℕ} {a b : List Float} → Flexed inner gap items f m old a → Flexed inner gap items g n old b → m ≡ n
  same_rounds {m} {n} p q = rounds_one (line_of inner gap items) (begun inner gap items) m n p.number q.number

  pub same_answer : {f g : ℤ} {m n : ℕ} {a b : List Float} → Flexed inner gap items f m old a → Flexed inner gap items g n old b → (f ≡ g) × (m ≡ n) × (a ≡ b)
  same_answer p q = (p.space ∙ sym q.space, same_rounds p q, p.cells ∙ ap (λ (k : ℕ). targets inner gap items k ++ drop (length items) old) (same_rounds p q) ∙ sym q.cells)

  pub some_answer : (n : ℕ) × Flexed inner gap items (free_before inner gap items) n old (targets inner gap items n ++ drop (length items) old)
  some_answer =
      let e = rounds_end (line_of inner gap items) (begun inner gap items) in (
        e.0,
        record {
          space = refl;
          number = e.1;
          few = le_trans {m = length (begun inner gap items)} (rounds_few (line_of inner gap items) (begun inner gap items) e.0 e.1) (le_of_eq (length-map items (start_cell (grows inner gap items))));
          cells = refl;
        },
      )
