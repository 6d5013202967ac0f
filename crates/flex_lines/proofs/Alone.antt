-- A line's free space, rounds and targets depend only on the container and its own items; and lines flexed leave no choice. By the same of
-- one line. Assumes nothing.
use mathlib.Core.Path.{◌≡◌, refl, sym, ap, ap₂, ◌∙◌}
use mathlib.Core.Logic.{◌⊎◌, inl, inr}
use mathlib.Core.Bool.{Bool, true, false}
use mathlib.Core.List.{List, [], ◌++◌}
use Prim.Native.Nat.{ℕ, ◌≤◌, ◌<◌}
use lib.Dec.{ltb}
use lib.ListN.{length, get_or, take, take-append-drop}
use lib.Seq.{ext_get_or}
use lib.IntN.{ℤ, pos}
use lib.Ieee.{Float}
use borrow.Author.Tests.{ltb-true, ltb-false}
use Rattle.lists.proofs.UpTo.{sum_ext}
use Rattle.flex.specs.declared.Item.{Item}
use Rattle.flex.proofs.Determined.{same_answer}
use Rattle.lists.specs.ByLine.{line_start}
use Rattle.flex_lines.specs.Lines.{line_items, Beyond, FlexedLines}
use Rattle.flex_lines.specs.Alone.{SameFlexed}
use Rattle.lists.proofs.ByLine.{by_parts}
use Rattle.flex_lines.proofs.Going.{flexed_as}

-- ---- a line by itself

pub flexed_alone : {inner gap : Float} {item item' : ℕ → Item} {n n' : ℕ} {counts counts' : List ℕ} {sum sum' : ℕ} {t₀ t t₀' t' : List Float} {f₀ f f₀' f' : List ℤ} {r₀ r r₀' r' : List ℕ}
    → FlexedLines inner gap item n counts sum t₀ f₀ r₀ t f r → FlexedLines inner gap item' n' counts' sum' t₀' f₀' r₀' t' f' r'
    → (j j' : ℕ) → j < length counts → j' < length counts' → line_items item counts j ≡ line_items item' counts' j' → SameFlexed counts counts' j j' t t' f f' r r'
flexed_alone {inner} {gap} {item' = item'} {counts' = counts'} p q j j' h h' e =
    let a = flexed_as inner gap _ _ _ _ _ _ [] [] _ _ e refl refl refl refl (p.line j h) in
    let s = same_answer inner gap (line_items item' counts' j') [] a (q.line j' h') in
    record { free_same = s.0; rounds_same = s.1; targets_same = s.2 }

-- ---- lists, by their lines

split : (j k : ℕ) → (j < k) ⊎ (k ≤ j)
split j k = go (ltb j k) refl
  where
    go : (b : Bool) → ltb j k ≡ b → (j < k) ⊎ (k ≤ j)
    go true e = inl (ltb-true j k e)
    go false e = inr (ltb-false j k e)

-- a list by line, by its lines and what lies beyond
by_line : {A : Type 0} (none : A) (k n : ℕ) (old a b : List A) → Beyond none k n old a → Beyond none k n old b → ((j : ℕ) → j < k → get_or a j none ≡ get_or b j none) → a ≡ b
by_line none k n old a b p q h = ext_get_or none a b (p.long ∙ sym q.long) (λ j l. below j (split j k) (split j n))
  where
    below : (j : ℕ) → (j < k) ⊎ (k ≤ j) → (j < n) ⊎ (n ≤ j) → get_or a j none ≡ get_or b j none
    below j (inl l) m = h j l
    below j (inr l) (inl m) = p.zeros j l m ∙ sym (q.zeros j l m)
    below j (inr l) (inr m) = p.kept j m ∙ sym (q.kept j m)

-- ---- no choice

pub record OneFlexed (sum sum' : ℕ) (t t' : List Float) (f f' : List ℤ) (r r' : List ℕ) : Type 0 where
  pub sums : sum ≡ sum'
  pub targets : t ≡ t'
  pub free : f ≡ f'
  pub rounds : r ≡ r'

pub one-flexed : {inner gap : Float} {item : ℕ → Item} {n : ℕ} (counts : List ℕ) {t₀ : List Float} {f₀ : List ℤ} {r₀ : List ℕ} {sum sum' : ℕ} {t t' : List Float} {f f' : List ℤ} {r r' : List ℕ}
    → line_start counts (length counts) ≡ n → FlexedLines inner gap item n counts sum t₀ f₀ r₀ t f r → FlexedLines inner gap item n counts sum' t₀ f₀ r₀ t' f' r' → OneFlexed sum sum' t t' f f' r r'
one-flexed {n = n} counts {t₀} {f₀} {r₀} {sum} {sum'} {t} {t'} {f} {f'} {r} {r'} w p q =
    let c : ℕ = length counts in
    let same : (j : ℕ) → j < c → SameFlexed counts counts j j t t' f f' r r' = λ j h. flexed_alone p q j j h h refl in
    let cells : take n t ≡ take n t' = ap (λ (i : ℕ). take i t) (sym w) ∙ by_parts counts c t t' (λ j h. (same j h).targets_same) ∙ ap (λ (i : ℕ). take i t') w in
    record {
      sums = p.sum_is ∙ sum_ext (λ j. get_or r j 0) (λ j. get_or r' j 0) c (λ j h. (same j h).rounds_same) ∙ sym q.sum_is;
      targets = sym (take-append-drop n t) ∙ ap₂ (λ (x y : List Float). x ++ y) cells (p.past ∙ sym q.past) ∙ take-append-drop n t';
      free = by_line (pos 0) c n f₀ f f' p.free_past q.free_past (λ j h. (same j h).free_same);
      rounds = by_line 0 c n r₀ r r' p.rounds_past q.rounds_past (λ j h. (same j h).rounds_same);
    }
