-- The theorems of the call over many lines that docs/PROMISES.md names. No contract cites it; proofs/FlexLinesCall.antt
-- fills it. Assumes nothing.
use Rattle.std.specs.Prelude.{◌≡◌, List, ℕ, ◌+◌, ◌<◌, length, get_or, ℤ, Float}
use Rattle.lists.specs.ByLine.{line_start}
use Rattle.checks.specs.Domain.{Answer, done}
use Rattle.flex.specs.Items.{Lists, item_at}
use Rattle.flex_lines.specs.Alone.{SameFlexed}
use Rattle.flex_lines_call.specs.Lines.{FlexedByLine}

pub record Promised : Type 0 where
  -- the contract of `flex_lines` leaves no choice
  pub lines_determined : (inner gap : Float) (counts : List ℕ) (ls : Lists) (targets₀ : List Float) (free₀ : List ℤ)
      (rounds₀ : List ℕ) (r s : Answer) (a b : List Float) (f g : List ℤ) (m n : List ℕ)
      → FlexedByLine inner gap counts ls r targets₀ free₀ rounds₀ a f m
      → FlexedByLine inner gap counts ls s targets₀ free₀ rounds₀ b g n
      → (r ≡ s) × (a ≡ b) × (f ≡ g) × (m ≡ n)
  -- two accepted calls in the same container that agree on the range of line j and on its items, and on nothing else,
  -- say the same of it
  pub line_independent : (inner gap : Float) (ls ls' : Lists) (counts counts' : List ℕ) (k k' sum sum' : ℕ)
      (targets₀ targets₀' : List Float) (free₀ free₀' : List ℤ) (rounds₀ rounds₀' : List ℕ)
      (targets targets' : List Float) (free free' : List ℤ) (rounds rounds' : List ℕ)
      → FlexedByLine inner gap counts ls (done k sum) targets₀ free₀ rounds₀ targets free rounds
      → FlexedByLine inner gap counts' ls' (done k' sum') targets₀' free₀' rounds₀' targets' free' rounds'
      → (j : ℕ) → j < length counts → j < length counts' → line_start counts j ≡ line_start counts' j
      → get_or counts j 0 ≡ get_or counts' j 0
      → ((i : ℕ) → i < get_or counts j 0 → item_at ls (line_start counts j + i) ≡ item_at ls' (line_start counts j + i))
      → SameFlexed counts counts' j j targets targets' free free' rounds rounds'
