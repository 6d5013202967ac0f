-- What the parts of a round work out: the sums over a line's cells, what they leave to share out, and a round in two
-- passes. Only contracts of parts cite it. Assumes nothing.
use Rattle.std.specs.Prelude.{◌≡◌, Bool, cond, List, ℕ, ◌+◌, Float}
use Rattle.grid.specs.Floats.{gaps, ◌⊕◌, ◌⊖◌}
use Rattle.flex.specs.declared.Item.{Item}
use Rattle.flex.specs.declared.Line.{Line}
use Rattle.flex.specs.declared.Share.{Share}
use Rattle.flex.specs.declared.Sums.{Sums}
use Rattle.flex.specs.Flex.{Cell, clamp, outer_now, factor, weight, limited, total, left, unfrozen, flexed}
use Rattle.flex.specs.Flex.{freezes}

-- ---- the sums

-- one more cell
pub record Added (growing : Bool) (it : Item) (frozen : Bool) (target : Float) (s r : Sums) : Type 0 where
  pub outer : r.outer ≡ s.outer ⊕ outer_now (record { item = it; frozen = frozen; target = target })
  pub factors : r.factors ≡ cond frozen s.factors (s.factors ⊕ factor growing it)
  pub weights : r.weights ≡ cond frozen s.weights (s.weights ⊕ weight growing it)
  pub number : r.left ≡ cond frozen s.left (s.left + 1)

pub record Summed (growing : Bool) (cells : List Cell) (r : Sums) : Type 0 where
  pub outer : r.outer ≡ total outer_now cells
  pub factors : r.factors ≡ total (λ c. factor growing c.item) (left cells)
  pub weights : r.weights ≡ total (λ c. weight growing c.item) (left cells)
  pub number : r.left ≡ unfrozen cells

-- ---- what they leave to share out

-- the space beside n outer sizes and their gaps
abbrev pub space_left : Float → Float → ℕ → Float → Float
space_left inner gap n outer = inner ⊖ (gaps gap n ⊕ outer)

abbrev pub share_of : Line → ℕ → Sums → Share
share_of ln n s = record {
  growing = ln.growing;
  free = limited ln.initial s.factors (space_left ln.inner ln.gap n s.outer);
  weights = s.weights;
}

-- ---- a round in two passes, so that a flexed size, which takes a division, is worked out once

-- step 4c: an unfrozen item at its flexed size
abbrev pub sized : Share → Cell → Cell
sized sh c = record { item = c.item; frozen = c.frozen; target = cond c.frozen c.target (flexed sh c.item) }

-- steps 4d and 4e: the size that stands there is clamped, and the item frozen or not
abbrev pub settled : Float → Cell → Cell
settled sum c = cond c.frozen c (record {
  item = c.item;
  frozen =
      freezes sum (clamp c.item c.target ⊖ c.target);
  target = clamp c.item c.target;
})
