-- A number that may be absent: "Only numbers the call takes are checked". Assumes nothing.
use Rattle.std.specs.Prelude.{Bool, true, false, List, [], ◌∷◌}
use Rattle.checks.specs.Domain.{Number}

-- the number where it is given, and none where it is not
abbrev pub optional : Bool → Number → List Number
optional true x = x ∷ []
optional false x = []
