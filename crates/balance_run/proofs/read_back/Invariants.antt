-- What is read so far, with the choice for the rest, is the choice for all (ReadingLaws.antt).
use Rattle.std.proofs.Common.{◌-◌}
use Rattle.balance_run.proofs.ReadingLaws.{ReadSoFar}
use Rattle.balance_run.proofs.read_back.Given as goal

abbrev pub invariant-loop-i : goal.invariant-loop-i
invariant-loop-i l = ReadSoFar l.opts l.n l.line_count l.counts l.start (l.line_count - l.i) l.i
