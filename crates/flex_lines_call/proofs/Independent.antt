-- In accepted runs a line's free space, targets and rounds depend only on the container, the line's range and its own items; and the contract of
-- the call over many lines leaves no choice. By the same of lines. Assumes nothing.
use mathlib.Core.Path.{◌≡◌, sym, ap, ap₂, ◌∙◌}
use mathlib.Core.List.{List}
use Prim.Native.Nat.{ℕ, ◌+◌, ◌<◌}
use lib.ListN.{length, get_or}
use lib.IntN.{ℤ}
use lib.Ieee.{Float}
use Rattle.grid.specs.Grid.{cleaned}
use Rattle.std.specs.declared.result.Result.TheVariants.{Ok, Err}
use Rattle.checks.specs.Domain.{Answer, done, checked, summed}
use Rattle.checks.proofs.Verdicts.{not_both, same_why}
use Rattle.checks.proofs.Checks.{accepted, then_passed}
use Rattle.flex.specs.declared.Item.{Item}
use Rattle.flex.specs.Flex.{outer_sum}
use Rattle.lists.specs.Cells.{each}
use Rattle.flex.specs.Items.{Lists, count, item_at, items_of}
use Rattle.lists.specs.ByLine.{line_start}
use Rattle.flex_checks.specs.Counts.{lines_shape, lines_input}
use Rattle.flex_lines_call.specs.Lines.{room_of, lines_verdict, FlexedByLine}
use Rattle.lists.proofs.Each.{each_ext}
use Rattle.flex_lines.specs.Alone.{SameFlexed}
use Rattle.flex_lines.proofs.Alone.{flexed_alone, one-flexed}
use Rattle.flex_checks.proofs.Division.{division-fine}

-- ---- a line by itself

same_items : (item item' : ℕ → Item) (s s' c c' : ℕ) → s ≡ s' → c ≡ c' → ((i : ℕ) → i < c → item (s + i) ≡ item' (s + i)) → each c (λ i. item (s + i)) ≡ each c' (λ i. item' (s' + i))
same_items item item' s s' c c' es ec h = each_ext c (λ i. item (s + i)) (λ i. item' (s + i)) h ∙ ap₂ (λ (a b : ℕ). each b (λ i. item' (a + i))) es ec

-- two accepted calls in the same container that agree on the range of line j and on its items, and on nothing else, say the same of it
module _ (inner gap : Float) (ls ls' : Lists) (counts counts' : List ℕ) (k k' sum sum' : ℕ) (targets₀ targets₀' : List Float) (free₀ free₀' : List ℤ) (rounds₀ rounds₀' : List ℕ) (targets targets' : List Float) (free free' : List ℤ) (rounds rounds' : List ℕ) where
  pub line_independent : FlexedByLine inner gap counts ls (done k sum) targets₀ free₀ rounds₀ targets free rounds → FlexedByLine inner gap counts' ls' (done k' sum') targets₀' free₀' rounds₀' targets' free' rounds'
      → (j : ℕ) → j < length counts → j < length counts' → line_start counts j ≡ line_start counts' j → get_or counts j 0 ≡ get_or counts' j 0
      → ((i : ℕ) → i < get_or counts j 0 → item_at ls (line_start counts j + i) ≡ item_at ls' (line_start counts j + i))
      → SameFlexed counts counts' j j targets targets' free free' rounds rounds'
  line_independent p q j l l' es ec h = flexed_alone p.2 q.2 j j l l' (same_items (item_at ls) (item_at ls') (line_start counts j) (line_start counts' j) (get_or counts j 0) (get_or counts' j 0) es ec h)

-- ---- no choice

-- accepted counts are those of the items
whole_of : (inner gap : Float) (counts : List ℕ) (ls : Lists) (room : ℕ) → lines_verdict inner gap counts ls room ≡ Ok tt → line_start counts (length counts) ≡ count ls
unfolding lines_verdict
whole_of inner gap counts ls room e =
    let rest = summed (outer_sum (cleaned gap) (items_of ls)) in
    let p = then_passed (lines_shape counts ls room) (checked (lines_input inner gap counts ls) rest) e in
    (division-fine counts (count ls) (accepted (lines_input inner gap counts ls) rest p.1).0.container.1.1.0).0

-- any two results that the contract allows are equal
pub lines_determined : (inner gap : Float) (counts : List ℕ) (ls : Lists) (targets₀ : List Float) (free₀ : List ℤ) (rounds₀ : List ℕ) (r s : Answer) (a b : List Float) (f g : List ℤ) (m n : List ℕ)
    → FlexedByLine inner gap counts ls r targets₀ free₀ rounds₀ a f m → FlexedByLine inner gap counts ls s targets₀ free₀ rounds₀ b g n → (r ≡ s) × (a ≡ b) × (f ≡ g) × (m ≡ n)
lines_determined inner gap counts ls targets₀ free₀ rounds₀ (Err w) (Err x) a b f g m n p q = (ap Err (same_why p.0 q.0), p.1 ∙ sym q.1, p.2 ∙ sym q.2, p.3 ∙ sym q.3)
lines_determined inner gap counts ls targets₀ free₀ rounds₀ (Err w) (Ok d) a b f g m n p q = absurd (not_both q.0 p.0)
lines_determined inner gap counts ls targets₀ free₀ rounds₀ (Ok d) (Err w) a b f g m n p q = absurd (not_both p.0 q.0)
lines_determined inner gap counts ls targets₀ free₀ rounds₀ (Ok d) (Ok d') a b f g m n p q =
    let e = one-flexed counts (whole_of inner gap counts ls (room_of targets₀ free₀ rounds₀) p.0) p.2 q.2 in
    (ap₂ (λ (x y : ℕ). done x y) (p.1 ∙ sym q.1) e.sums, e.targets, e.free, e.rounds)
