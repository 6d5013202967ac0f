-- What is answered, by the lengths passed and those to come.
use Rattle.std.proofs.Common.{◌≡◌, ◌&&◌, drop, true}
use Rattle.checks.specs.Shapes.{roomy}
use Rattle.checks.proofs.shapes.are_roomy.Given as goal

abbrev pub invariant-loop-room : goal.invariant-loop-room
invariant-loop-room l = (l.rest && roomy l.n (drop l.room-index l.rooms) true) ≡ roomy l.n l.rooms true
