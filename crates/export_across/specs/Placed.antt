-- The call that places items across a line, as it crosses to C: it is the call inside it, with its answer by the
-- paper's table. Assumes nothing.
use Rattle.std.specs.Prelude.{List, Float}
use Rattle.place_across_call.specs.AcrossCall.{AcrossResult}
use Rattle.export_answer.specs.declared.CAnswer.{CAnswer}
use Rattle.export_answer.specs.Crossing.{c_answer}

-- what the call leaves: its answer as it crosses, and its lent lists
pub record CAcross : Type 0 where
  pub answer : CAnswer
  pub sizes : List Float
  pub starts : List Float
  pub ends : List Float
  pub offsets : List Float

abbrev pub c_across : CAnswer → List Float → List Float → List Float → List Float → CAcross
c_across r z s e o = record { answer = r; sizes = z; starts = s; ends = e; offsets = o }

abbrev pub across_from_c : AcrossResult → CAcross
across_from_c a = c_across (c_answer a.answer) a.sizes a.starts a.ends a.offsets
