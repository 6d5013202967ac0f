-- The lines of the whole pass: what breaking asks, and what it gives, by the definition of the wrap modes. Only
-- contracts of parts cite it. Assumes nothing.
use Rattle.std.specs.Prelude.{List, ℕ}
use Rattle.grid.specs.Grid.{cleaned}
use Rattle.break_greedy.specs.Steps.{Breakable}
use Rattle.flex.specs.declared.Item.{Item}
use Rattle.flex_table.specs.Table.{Wide, items_in}
use Rattle.balance.specs.Calls as balance
use Rattle.pass_break.specs.Wrapping as wrapping
use Rattle.pass_break.specs.Parts.{WrapRoom}
use Rattle.pass_break.specs.Outer.{outer_sizes}
use Rattle.pass_container.specs.declared.Container.{Container}
use Rattle.pass_container.specs.Container.{limit_space, break_mode}

-- the items of a table, which the checks accepted, and room for their lines
pub record Breaks (c : Container) (n : ℕ) (t : List Item) (before : balance.BreakLent) : Type 0 where
  pub wide : Wide t n
  pub breakable : Breakable (limit_space c) (cleaned c.gap_main) (outer_sizes (items_in t 0 n))
  pub room : WrapRoom (break_mode c) n before

abbrev pub LinesBroken : Container → ℕ → List Item → balance.BreakLent → ℕ → balance.BreakLent → Type 0
LinesBroken c n t = wrapping.Wrapped (break_mode c) (limit_space c) (cleaned c.gap_main) c.minimum_lines
    (outer_sizes (items_in t 0 n))
