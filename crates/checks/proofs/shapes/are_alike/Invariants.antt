-- What is answered, by the lengths passed and those to come.
use Rattle.std.proofs.Common.{◌≡◌, ◌&&◌, drop}
use Rattle.checks.specs.Shapes.{alike}
use Rattle.checks.proofs.shapes.are_alike.Given as goal

abbrev pub invariant-loop-length : goal.invariant-loop-length
invariant-loop-length l = (l.rest && alike l.n (drop l.length-index l.lengths)) ≡ alike l.n l.lengths
