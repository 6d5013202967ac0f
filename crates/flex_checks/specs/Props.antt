-- That none of the checks refuses a call's numbers has one proof at most, so that a struct can hold it. Only types of
-- parts cite it. Assumes nothing.
use Rattle.std.specs.Prelude.{List, [], ◌∷◌}
use mathlib.Core.Bool.{Bool-set}
use mathlib.Core.HLevel.{Unit-prop, ×_prop}
use Rattle.checks.specs.Domain.{Number, Input}
use Rattle.checks.specs.Marks.{Fine, AllFine, SoundInput}

Fine-prop : (x : Number) → IsProp (Fine x)
Fine-prop x a b i = record {
  finite = Bool-set _ _ a.finite b.finite i;
  grid = Bool-set _ _ a.grid b.grid i;
  range = Bool-set _ _ a.range b.range i;
}

AllFine-prop : (xs : List Number) → IsProp (AllFine xs)
AllFine-prop [] = Unit-prop
AllFine-prop (x ∷ xs) = ×_prop (Fine-prop x) (AllFine-prop xs)

pub SoundInput-prop : (input : Input) → IsProp (SoundInput input)
SoundInput-prop input a b i = record {
  container = AllFine-prop input.container a.container b.container i;
  items = λ k l. AllFine-prop (input.item k) (a.items k l) (b.items k l) i;
}
