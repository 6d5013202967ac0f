-- The reader has room for the bytes of all the turns to come, the most that they can be.
use Rattle.std.proofs.Common.{◌-◌, ◌*◌}
use Rattle.capture_feed.specs.Machine.{ReaderReady}
use Rattle.capture_program.proofs.main.Given as goal

abbrev pub invariant-loop : goal.invariant-loop
invariant-loop l = ReaderReady l.reader (65536 * (140737488355328 - l.counter))
