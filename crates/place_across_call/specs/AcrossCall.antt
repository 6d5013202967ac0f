-- The call for the items of one line across it: what it takes, checks and answers. Assumes nothing.
use Rattle.std.specs.Prelude.{not, List, [], ◌∷◌, ◌++◌, ℕ, eqb, length, Float}
use Rattle.std.specs.declared.result.Result.TheVariants.{Ok, Err}
use Rattle.checks.specs.Domain.{float, code, Input, Verdict, checked, then, Answer, done}
use Rattle.checks.specs.Shapes.{shape_of}
use Rattle.checks.specs.declared.Kind.TheVariants.{Worked}
use Rattle.place_size.specs.CrossSize.{CrossLists, count}
use Rattle.place_cross.specs.CrossAxis.{used_sizes, used_starts, used_ends, item_offsets}
use Rattle.place_checks.specs.Numbers.{across_numbers_at, item_lengths}

-- the container's numbers: the line's size, which an earlier step worked out, and the code of reversed wrapping
abbrev pub across_input : Float → ℕ → CrossLists → List ℕ → List ℕ → Input
across_input line reversed ls alignment auto-size = record {
  container = float Worked line ∷ code 1 reversed ∷ [];
  count = count ls;
  item = across_numbers_at ls alignment auto-size;
}

abbrev pub lengths : CrossLists → List ℕ → List ℕ → List ℕ
lengths ls alignment auto-size = item_lengths ls ++ (length alignment ∷ length auto-size ∷ [])

-- checks 1 to 5; "calls without main sizes .. never give 6"
unfoldable pub across_verdict : Float → ℕ → CrossLists → List ℕ → List ℕ → List ℕ → Verdict
across_verdict line reversed ls alignment auto-size rooms = then
    (shape_of (lengths ls alignment auto-size) rooms (count ls))
    (checked (across_input line reversed ls alignment auto-size) (Ok tt))

-- the call's answer, and its lent lists as it returns: used sizes, used start margins, used end margins, offsets
pub record AcrossResult : Type 0 where
  pub answer : Answer
  pub sizes : List Float
  pub starts : List Float
  pub ends : List Float
  pub offsets : List Float

abbrev pub across_result : Answer → List Float → List Float → List Float → List Float → AcrossResult
across_result r z s e o = record { answer = r; sizes = z; starts = s; ends = e; offsets = o }

-- a refusal changes no cell; the call works out no lines and no rounds
abbrev pub across_into : Verdict → Float → ℕ → CrossLists → List ℕ → List ℕ → List Float → List Float → List Float
    → List Float → AcrossResult
across_into (Err why) line reversed ls alignment auto-size z s e o =
    across_result (Err why) z s e o
across_into (Ok tt) line reversed ls alignment auto-size z s e o =
    let back = not (eqb reversed 0) in
    across_result (done 0 0) (used_sizes line back ls alignment auto-size z)
    (used_starts line back ls alignment auto-size s) (used_ends line back ls alignment auto-size e)
    (item_offsets line back ls alignment auto-size o)

-- THE CALL ("Cross axis"): it refuses by checks 1 to 5 and changes nothing, or it leaves the items' used sizes, used
-- margins and offsets
abbrev pub across_call : Float → ℕ → CrossLists → List ℕ → List ℕ → List Float → List Float → List Float → List Float
    → AcrossResult
across_call line reversed ls alignment auto-size z s e o = across_into
    (across_verdict line reversed ls alignment auto-size (length z ∷ length s ∷ length e ∷ length o ∷ [])) line reversed
    ls alignment auto-size z s e o
