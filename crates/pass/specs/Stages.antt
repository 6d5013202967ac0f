-- What the stages of an accepted run ask and ensure. Only contracts of parts cite it. Assumes nothing.
use Rattle.std.specs.Prelude.{List, ℕ, ◌*◌, ◌≤◌, length, take, ℤ, Float}
use Rattle.grid.specs.Grid.{cleaned}
use Rattle.grid.specs.Values.{Length}
use Rattle.flex.specs.declared.Item.{Item}
use Rattle.flex.specs.Flex.{outer_sum}
use Rattle.flex_table.specs.Table.{items_in, Tabled, Held}
use Rattle.balance.specs.Calls as balance
use Rattle.pass_container.specs.declared.Container.{Container}
use Rattle.pass_container.specs.Columns.{column, main_lists}
use Rattle.pass_container.specs.Stages.{ItemLists}
use Rattle.pass_break.specs.BreakStage.{Breaks, LinesBroken}
use Rattle.pass_main.specs.Stage.{MainStage}
use Rattle.pass_cross.specs.CrossStage.{CrossReady, LinesPlaced, ItemsAcross}
use Rattle.pass.specs.Laid.{PassLent}

-- ---- the cross axis

pub record CrossAsked (n : ℕ) (x : List Float) (codes counts : List ℕ) (lines placed : List Float) : Type 0 where
  pub ready : CrossReady n x codes counts
  pub lines_room : 2 * n ≤ length lines
  pub placed_room : 8 * n ≤ length placed

-- the lines along it, and the items across each in the line's size
pub record CrossLaid (c : Container) (n : ℕ) (x : List Float) (codes counts : List ℕ) (inner : Float)
    (lines₀ placed₀ lines placed : List Float) : Type 0 where
  pub along : LinesPlaced c n x codes counts inner lines₀ lines
  pub across : ItemsAcross c n x codes counts (column n 0 lines) placed₀ placed

-- ---- the lines, and the main axis of each

-- what checks 1 to 6 show, once the items are read into the table
pub record MainAsked (c : Container) (n : ℕ) (t : List Item) (x : List Float) (codes : List ℕ)
    (placed : List Float) (counts rounds : List ℕ) (free : List ℤ) (work : List ℕ) (sums : List Float) : Type 0 where
  pub listed : ItemLists n x codes
  pub held : Held (main_lists n x codes) t
  pub tabled : Tabled t n
  pub inner_is : Length (cleaned c.inner_main)
  pub gap_is : Length (cleaned c.gap_main)
  pub breaks : Breaks c n t (balance.break_lent counts work sums)
  pub within : outer_sum (cleaned c.gap_main) (items_in t 0 n) ≤ 16777216
  pub placed_room : 8 * n ≤ length placed
  pub counts_room : n ≤ length counts
  pub rounds_room : n ≤ length rounds
  pub free_room : n ≤ length free

pub record MainLaid (c : Container) (n : ℕ) (t : List Item) (x : List Float) (codes : List ℕ)
    (placed₀ : List Float) (counts₀ rounds₀ : List ℕ) (free₀ : List ℤ) (work₀ : List ℕ) (sums₀ : List Float)
    (lines sum : ℕ)
    (placed : List Float) (counts rounds : List ℕ) (free : List ℤ) (work : List ℕ) (sums : List Float) : Type 0 where
  pub broken : LinesBroken c n t (balance.break_lent counts₀ work₀ sums₀) lines (balance.break_lent counts work sums)
  pub main : MainStage c n x codes (take lines counts) placed₀ free₀ rounds₀ sum placed free rounds

-- ---- an accepted run

pub record PassAccepted (c : Container) (n : ℕ) (t : List Item) (x : List Float) (codes : List ℕ)
    (b : PassLent) : Type 0 where
  pub main : MainAsked c n t x codes b.placed b.counts b.rounds b.free b.work b.sums
  pub lines_room : 2 * n ≤ length b.lines
