-- The theorems of flexing a line that docs/PROMISES.md names. No contract cites it; proofs/Flex.antt fills it. Assumes
-- nothing.
use Rattle.std.specs.Prelude.{◌≡◌, List, [], ◌∷◌, ◌++◌, ℕ, ◌-◌, length, drop, pos, ◌+ℤ◌, ◌*ℤ◌, Float}
use Rattle.std.specs.Int.Signed.{lt_z}
use Rattle.std.specs.Float.{binary32}
use Rattle.std.specs.Float.Ieee.{of_bits}
use Rattle.grid.specs.Grid.{sixty_fourths}
use Rattle.grid.specs.Floats.{unity}
use Rattle.flex.specs.declared.Item.{Item}
use Rattle.flex.specs.Flex.{total, sum_units, free_before, targets, Flexed}

-- 2^24, by its bits
abbrev pub large : Float
large = of_bits binary32 1266679808

pub record Promised : Type 0 where
  -- every line has an answer
  pub some_answer : (inner gap : Float) (items : List Item) (old : List Float)
      → (n : ℕ) × Flexed inner gap items (free_before inner gap items) n old (targets inner gap items n
      ++ drop (length items) old)
  -- free space is negative exactly when the line is overfull
  pub overfull : (inner gap : Float) (items : List Item) → lt_z (free_before inner gap items) (pos 0)
      ≡ lt_z (sixty_fourths inner) (sixty_fourths gap *ℤ pos (length items - 1) +ℤ sum_units items)
  -- "Every sum runs from item 0 upward": with each sum rounded, 2^24, 1 and 1 make 2^24; from the end they would make
  -- 2^24 + 2
  pub in_order : total (λ (x : Float). x) (large ∷ unity ∷ unity ∷ []) ≡ large
