-- What a call over many lines takes beside what a call for one does: the counts, a list of the items that each line
-- has. Assumes nothing.
use Rattle.std.specs.Prelude.{true, cond, List, [], ◌∷◌, ℕ, length, Float}
use Rattle.checks.specs.Domain.{Number, float, code, Input, Verdict, shape, then}
use Rattle.checks.specs.declared.Kind.TheVariants.{Size}
use Rattle.flex.specs.Items.{Lists, count}
use Rattle.lists.specs.ByLine.{divides}
use Rattle.flex_checks.specs.Input.{flex_shape, input_of}

-- the list of counts is an input list too; it is as long as there are lines
abbrev pub lines_shape : List ℕ → Lists → ℕ → Verdict
lines_shape counts ls room = then (shape (length counts) true) (flex_shape ls room)

-- Document 01's table has no row for counts that divide no n items. They are taken as one number of the container,
-- beside its inner size and gap, that is out of range: check 5, at the container, before any item's. It passes, as the
-- code 0 of 0, where the counts divide the items.
abbrev pub division : List ℕ → ℕ → Number
division counts n = code 0 (cond (divides counts n) 0 1)

abbrev pub lines_input : Float → Float → List ℕ → Lists → Input
lines_input inner gap counts ls = record {
  container = float Size inner ∷ float Size gap ∷ division counts (count ls) ∷ [];
  count = count ls;
  item = (input_of inner gap ls).item;
}
