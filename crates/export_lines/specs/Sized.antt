-- The calls that size a line and place lines, as they cross to C: each is the call inside it, with its answer by the
-- paper's table. Assumes nothing.
use Rattle.std.specs.Prelude.{List, Float}
use Rattle.std.specs.Float.{binary32}
use Rattle.std.specs.Float.Ieee.{of_bits}
use Rattle.checks.specs.Domain.{refusal_of}
use Rattle.std.specs.declared.result.Result.TheVariants.{Ok, Err}
use Rattle.place_size_call.specs.SizeCall.{SizeAnswer}
use Rattle.place_lines_call.specs.LinesCall.{LinesAnswer, LinesResult}
use Rattle.export_answer.specs.declared.CAnswer.{CAnswer}
use Rattle.export_answer.specs.Crossing.{crossed}
use Rattle.export_lines.specs.declared.CSized.{CSized}

-- ---- a size

abbrev pub c_size : Float → CSized
c_size x = record { number = 0; at = 0; place = 0; size = x }

-- a refusal, which has no size to tell of
abbrev pub c_nothing : CAnswer → CSized
c_nothing r = record { number = r.number; at = r.at; place = r.place; size = of_bits binary32 0 }

-- a line's cross size
abbrev pub c_line : SizeAnswer → CSized
c_line (Ok x) = c_size x
c_line (Err why) = c_nothing (crossed (refusal_of why))

-- a container's inner cross size
abbrev pub c_lines : LinesAnswer → CSized
c_lines told = c_line told

-- ---- a container's lines

-- what the call leaves: its answer as it crosses, and its lent lists
pub record CAligned : Type 0 where
  pub answer : CSized
  pub sizes : List Float
  pub offsets : List Float

abbrev pub c_aligned : CSized → List Float → List Float → CAligned
c_aligned r z o = record { answer = r; sizes = z; offsets = o }

abbrev pub lines_from_c : LinesResult → CAligned
lines_from_c l = c_aligned (c_lines l.answer) l.sizes l.offsets
