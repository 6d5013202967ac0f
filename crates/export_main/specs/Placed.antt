-- The call that places items along a line, as it crosses to C: it is the call inside it, with its answer by the paper's
-- table. Assumes nothing.
use Rattle.std.specs.Prelude.{List, Float}
use Rattle.place_main.specs.MainCall.{MainResult}
use Rattle.export_answer.specs.declared.CAnswer.{CAnswer}
use Rattle.export_answer.specs.Crossing.{c_answer}

-- what the call leaves: its answer as it crosses, and its lent lists
pub record CMain : Type 0 where
  pub answer : CAnswer
  pub offsets : List Float
  pub starts : List Float
  pub ends : List Float

abbrev pub c_main : CAnswer → List Float → List Float → List Float → CMain
c_main r o s e = record { answer = r; offsets = o; starts = s; ends = e }

abbrev pub main_from_c : MainResult → CMain
main_from_c m = c_main (c_answer m.answer) m.offsets m.starts m.ends
