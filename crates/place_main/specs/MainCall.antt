-- The call for the main axis of one line: what it takes, checks and answers. Assumes nothing.
use Rattle.std.specs.Prelude.{not, List, [], ◌∷◌, ◌++◌, ℕ, eqb, length, Float}
use Rattle.std.specs.declared.result.Result.TheVariants.{Ok, Err}
use Rattle.checks.specs.Domain.{Number, float, code, Input, Verdict, checked, then, Answer, done}
use Rattle.checks.specs.declared.Kind.TheVariants.{Size, Margin, Worked}
use Rattle.keywords.specs.Alignment.{content_of}
use Rattle.place_main.specs.MainAxis.{LineLists, count, placed_offsets, used_margins}
use Rattle.checks.specs.Shapes.{shape_of}
use Rattle.checks.specs.Lists.{float_at, beside_at}

-- the container's numbers: inner main size, gap, the codes of `justify-content` and of a reversed direction
abbrev pub main_container_numbers : Float → Float → ℕ → ℕ → List Number
main_container_numbers inner gap justify reversed =
    float Size inner ∷ float Size gap ∷ code 13 justify ∷ code 1 reversed ∷ []

abbrev pub main_input : Float → Float → ℕ → ℕ → LineLists → Input
main_input inner gap justify reversed l = record {
  container = main_container_numbers inner gap justify reversed;
  count = count l;
  item = λ i. float_at Worked l.targets i ++ (beside_at Margin 0 l.start l.auto_start i
      ++ beside_at Margin 0 l.end l.auto_end i);
}

abbrev pub lengths : LineLists → List ℕ
lengths l =
    length l.targets ∷ length l.start ∷ length l.end ∷ length l.auto_start ∷ length l.auto_end ∷ []

-- checks 1 to 5; "calls .. on worked-out targets, never give 6"
unfoldable pub main_verdict : Float → Float → ℕ → ℕ → LineLists → List ℕ → Verdict
main_verdict inner gap justify reversed l rooms =
    then (shape_of (lengths l) rooms (count l)) (checked (main_input inner gap justify reversed l) (Ok tt))

-- the call's answer, and its lent lists as it returns: offsets, used start margins, used end margins
pub record MainResult : Type 0 where
  pub answer : Answer
  pub offsets : List Float
  pub starts : List Float
  pub ends : List Float

abbrev pub main_result : Answer → List Float → List Float → List Float → MainResult
main_result r o s e = record { answer = r; offsets = o; starts = s; ends = e }

-- a refusal changes no cell; the call works out no lines and no rounds
abbrev pub main_into : Verdict → Float → Float → ℕ → ℕ → LineLists → List Float → List Float → List Float → MainResult
main_into (Err why) inner gap justify reversed l o s e = main_result (Err why) o s e
main_into (Ok tt) inner gap justify reversed l o s e =
    main_result (done 0 0) (placed_offsets inner gap (content_of justify) (not (eqb reversed 0)) l o)
    (used_margins inner gap l l.auto_start l.start s) (used_margins inner gap l l.auto_end l.end e)

-- THE CALL ("Main axis"): it refuses by checks 1 to 5 and changes nothing, or it leaves the items' offsets and used
-- margins
abbrev pub main_call : Float → Float → ℕ → ℕ → LineLists → List Float → List Float → List Float → MainResult
main_call inner gap justify reversed l o s e = main_into (main_verdict inner gap justify reversed l
    (length o ∷ length s ∷ length e ∷ [])) inner gap justify reversed l o s e
