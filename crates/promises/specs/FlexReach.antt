-- The theorems of how far targets reach that docs/PROMISES.md names. No contract cites it; proofs/FlexReach.antt fills
-- it. Assumes nothing.
use Rattle.std.specs.Prelude.{List, ℕ, ◌<◌, get_or, Float}
use Rattle.std.specs.Float.{nan}
use Rattle.grid.specs.declared.Sixtyfourths.{Sixtyfourths}
use Rattle.checks.specs.Domain.{float}
use Rattle.checks.specs.Marks.{Fine}
use Rattle.checks.specs.declared.Kind.TheVariants.{Worked}
use Rattle.flex.specs.declared.Item.{Item}
use Rattle.flex.specs.Flex.{begun, line_of, targets, Runs}
use Rattle.flex.specs.Items.{Lists, count}
use Rattle.flex_line_call.specs.Call.{flexed, FlexedLine}
use Rattle.flex_reach.specs.Reach.{IsLine, Each, HandedOn}
use Rattle.flex_reach.proofs.Line.{Singles}

pub record Promised : Type 0 where
  -- every target of an accepted line is finite and at most 16,777,216 px
  pub reach : (inner gap : Float) (items : List Item) → IsLine inner gap items → (n : ℕ)
      → Runs (line_of inner gap items) (begun inner gap items) n → Each HandedOn (targets inner gap items n)
  -- so none of the checks refuses, as a worked-out number, a target that the call for one line hands on
  pub line_reach : (inner gap : Float) (ls : Lists) → Singles ls.grow (count ls) → Singles ls.shrink (count ls)
      → (free : Sixtyfourths) (rounds : ℕ) (old new : List Float) → FlexedLine inner gap ls (flexed free rounds) old new
      → (i : ℕ) → i < count ls → Fine (float Worked (get_or new i nan))
