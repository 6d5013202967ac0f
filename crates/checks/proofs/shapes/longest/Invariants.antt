-- What is answered, by the lengths passed and those to come.
use Rattle.std.proofs.Common.{◌≡◌, max, drop}
use Rattle.checks.specs.Shapes.{longest}
use Rattle.checks.proofs.shapes.longest.Given as goal

abbrev pub invariant-loop-length : goal.invariant-loop-length
invariant-loop-length l = max l.most (longest (drop l.length-index l.lengths)) ≡ longest l.lengths
