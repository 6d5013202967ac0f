-- The break limit as it crosses to C: codes for what is an enum inside, and the exported call as the call inside it.
-- Assumes nothing.
use Rattle.std.specs.Prelude.{Bool, List, [], ◌∷◌, ℕ, eqb, Float}
use Rattle.std.specs.Float.{binary32}
use Rattle.std.specs.Float.Ieee.{of_bits}
use Rattle.checks.specs.Domain.{Number, code, refusal_of}
use Rattle.keywords.specs.declared.AvailableSpace.{AvailableSpace}
use Rattle.keywords.specs.declared.AvailableSpace.TheVariants.{Definite, MinContent, MaxContent}
use Rattle.break_limit.specs.declared.Query.{Query}
use Rattle.keywords.specs.Space.{space_of, bound_of}
use Rattle.break_limit.specs.Limit.{BreakLimit, limit_verdict, limit_from}
use Rattle.export_answer.specs.declared.CAnswer.{CAnswer}
use Rattle.export_answer.specs.Crossing.{crossed}
use Rattle.export_limit.specs.declared.CLimit.{CLimit}
use Rattle.export_limit.specs.declared.Asked.{Asked}
use Rattle.std.specs.declared.result.Result.TheVariants.{Ok, Err}

-- a flag is 0 or 1
abbrev pub flag : ℕ → Bool
flag c = eqb c 1

abbrev pub asked_codes : Asked → List Number
asked_codes a = code 1 a.known ∷ (code 1 a.main ∷ (code 1 a.row ∷
    (code 2 a.kind ∷ (code 1 a.has_minimum ∷ (code 1 a.has_maximum ∷ [])))))

abbrev pub query_of : Asked → Query
query_of a = record {
  known_is_definite = flag a.known;
  main_is_definite = flag a.main;
  is_row = flag a.row;
  available = space_of a.kind a.available;
  minimum = bound_of a.has_minimum a.minimum;
  maximum = bound_of a.has_maximum a.maximum;
}

-- a limit as it crosses: its kind, and its number where it is definite
abbrev pub c_space : AvailableSpace → CLimit
c_space (Definite x) = record { number = 0; at = 0; place = 0; kind = 0; limit = x }
c_space MinContent = record { number = 0; at = 0; place = 0; kind = 1; limit = of_bits binary32 0 }
c_space MaxContent = record { number = 0; at = 0; place = 0; kind = 2; limit = of_bits binary32 0 }

-- a refusal has no limit to tell of: its kind, 3, names none, so that a breaking call that is handed it refuses too
abbrev pub c_refused : CAnswer → CLimit
c_refused r = record { number = r.number; at = r.at; place = r.place; kind = 3; limit = of_bits binary32 0 }

abbrev pub c_limit : BreakLimit → CLimit
c_limit (Ok space) = c_space space
c_limit (Err why) = c_refused (crossed (refusal_of why))

abbrev pub answered : Asked → BreakLimit
answered a = limit_from (limit_verdict (asked_codes a) (query_of a)) (query_of a)

abbrev pub limit_from_c : Asked → CLimit
limit_from_c a = c_limit (answered a)
