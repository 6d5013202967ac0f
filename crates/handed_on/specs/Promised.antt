-- The theorems that what a call hands on is what a later one takes, which docs/PROMISES.md names. No contract cites it;
-- proofs/Promised.antt fills it. Assumes nothing.
use Rattle.std.specs.Prelude.{◌≡◌, true, List, [], ◌∷◌, ℕ, ◌<◌, get_or, ℤ, Float}
use Rattle.std.specs.Float.{nan}
use Rattle.std.specs.declared.result.Result.TheVariants.{Ok}
use Rattle.checks.specs.Domain.{float, out_of_range, done}
use Rattle.checks.specs.Marks.{Fine}
use Rattle.checks.specs.declared.Kind.TheVariants.{Worked}
use Rattle.flex.specs.Items.{Lists, count}
use Rattle.flex_lines_call.specs.Lines.{FlexedByLine}
use Rattle.flex_reach.proofs.Line.{Singles}
use Rattle.place_size.specs.CrossSize.{CrossLists}
use Rattle.place_checks.specs.declared.numbers.CrossNumbers.{CrossNumbers}
use Rattle.place_size_call.specs.SizeCall.{size_call}
use Rattle.place_lines_call.specs.LinesCall.{lines_result, lines_call}
use Rattle.pass_container.specs.declared.Container.{Container}
use Rattle.pass_container.specs.Columns.{column}
use Rattle.handed_on.specs.Beyond.{px, minus, container}
use Rattle.pass.specs.Laid.{PassLent, placed_main_size}
use Rattle.pass.specs.Pass.{laid_out, PassCall}

pub record Promised : Type 0 where
  -- none of the checks refuses, as a worked-out number, a target that the call over many lines hands on
  pub lines_reach : (inner gap : Float) (counts : List ℕ) (ls : Lists) → Singles ls.grow (count ls)
      → Singles ls.shrink (count ls) → (k sum : ℕ) (t₀ : List Float) (f₀ : List ℤ) (r₀ : List ℕ)
      (t : List Float) (f : List ℤ) (r : List ℕ) → FlexedByLine inner gap counts ls (done k sum) t₀ f₀ r₀ t f r
      → (i : ℕ) → i < count ls → Fine (float Worked (get_or t i nan))
  -- nor a main size that an accepted pass leaves
  pub pass_reach : (c : Container) (n : ℕ) (x : List Float) (codes : List ℕ) (before : PassLent)
      → Singles (column n 4 x) n → Singles (column n 5 x) n → (lines sum : ℕ) (inner : Float) (after : PassLent)
      → PassCall c n x codes before (laid_out lines sum inner) after
      → (i : ℕ) → i < n → Fine (float Worked (get_or (placed_main_size n after) i nan))
  -- nor the cross size that the call for a line's size answers
  pub size_reach : (c : CrossNumbers) (ls : CrossLists) (size : Float) → size_call c ls ≡ Ok size
      → Fine (float Worked size)
  -- it is not so of the sizes that the call for a container's lines leaves, which takes any that were worked out: two
  -- lines of 2^24 and -2^24 px leave 262,144 px free, stretched (code 10) each gains half of it, and the first is then
  -- more than a later step takes
  pub stretched : lines_call container 10 (px 16777216 ∷ minus 16777216 ∷ []) (px 0 ∷ px 0 ∷ []) (px 0 ∷ px 0 ∷ [])
      ≡ lines_result (Ok (px 262144)) (px 16908288 ∷ minus 16646144 ∷ []) (px 0 ∷ px 0 ∷ [])
  pub not_taken : out_of_range (float Worked (px 16908288)) ≡ true
