-- A round freezes an item: where one is unfrozen, fewer are unfrozen after it. So the rounds end, after no more of them than there are items, and their number is one. Assumes nothing.
use mathlib.Core.Path.{◌≡◌, refl, sym, ap, ◌∙◌, subst}
use mathlib.Core.Logic.{◌⊎◌, inl, inr}
use mathlib.Core.Bool.{Bool, true, false, cond, true≢false}
use mathlib.Core.List.{List, [], ◌∷◌, map}
use Prim.Native.Nat.{ℕ, zero, suc, ◌+◌, ◌≤◌, ◌<◌, zero-le}
use native.Mathlib.Nat.{le_trans, le_antisymm, lt_irrefl, lt_of_not-le, le_of_suc-le-suc}
use borrow.Author.Count.{below_more, below_none as below-no}
use native.Mathlib.Omega.{arith}
use lib.ListN.{length}
use lib.Ieee.{Float, lt}
use Rattle.flex.specs.declared.Line.{Line}
use Rattle.flex.specs.declared.Share.{Share}
use Rattle.grid.specs.Floats.{nought}
use Rattle.flex.specs.Flex.{Cell, total, left, unfrozen, share, violation, freezes, settle, round, after, Runs}
use Rattle.flex.proofs.Signs.{Not, All, above_none, none_above, below_none, none_below, not_total, not_nought}

-- ---- one cell

left_pass : (c : Cell) (l : List Cell) → c.frozen ≡ true → left (c ∷ l) ≡ left l
unfolding left
left_pass c l e = rw e

left_skip : (c : Cell) (l : List Cell) → c.frozen ≡ true → unfrozen (c ∷ l) ≡ unfrozen l
left_skip c l e = ap length (left_pass c l e)

left_keep : (c : Cell) (l : List Cell) → c.frozen ≡ false → left (c ∷ l) ≡ c ∷ left l
unfolding left
left_keep c l e = rw e

settle_frozen : (sh : Share) (t : Float) (c : Cell) → c.frozen ≡ true → (settle sh t c).frozen ≡ true
unfolding settle
settle_frozen sh t c e = rw e

settle_open : (sh : Share) (t : Float) (c : Cell) → c.frozen ≡ false → (settle sh t c).frozen ≡ freezes t (violation sh c.item)
unfolding settle
settle_open sh t c e = rw e

-- ---- all cells

abbrev Keeps : Share → Float → Cell → Type 0
Keeps sh t c = freezes t (violation sh c.item) ≡ false

-- fewer are unfrozen, unless none of the unfrozen freezes
abbrev Fewer : Share → Float → List Cell → Type 0
Fewer sh t l = (unfrozen (map (settle sh t) l) < unfrozen l) ⊎ ((unfrozen (map (settle sh t) l) ≡ unfrozen l) × All (Keeps sh t) (left l))

below : (a b : ℕ) → a < b → a < suc b
below a b h = omega arith

next : (a b : ℕ) → a ≡ b → a < suc b
next a b h = omega arith

above : (a b : ℕ) → a < b → suc a < suc b
above a b h = omega arith

fewer : (sh : Share) (t : Float) (l : List Cell) → Fewer sh t l
unfolding left
fewer sh t [] = inr (refl, tt)
fewer sh t (c ∷ l) = go c.frozen refl (freezes t (violation sh c.item)) refl (fewer sh t l)
  where
    m : List Cell
    m = map (settle sh t) l

    skip : c.frozen ≡ true → unfrozen (settle sh t c ∷ m) ≡ unfrozen m
    skip e = left_skip (settle sh t c) m (settle_frozen sh t c e)

    most : Fewer sh t l → unfrozen m < suc (unfrozen l)
    most (inl h) = below (unfrozen m) (unfrozen l) h
    most (inr h) = next (unfrozen m) (unfrozen l) h.0

    up : unfrozen m < unfrozen l → suc (unfrozen m) < suc (unfrozen l)
    up h = above (unfrozen m) (unfrozen l) h

    go : (b : Bool) → c.frozen ≡ b → (d : Bool) → freezes t (violation sh c.item) ≡ d → Fewer sh t l → Fewer sh t (c ∷ l)
    go true e d f (inl h) = inl (subst (λ (n : ℕ). n < unfrozen (c ∷ l)) (sym (skip e)) (subst (λ (n : ℕ). unfrozen m < n) (sym (left_skip c l e)) h))
    go true e d f (inr h) = inr (skip e ∙ h.0 ∙ sym (left_skip c l e), subst (λ (k : List Cell). All (Keeps sh t) k) (sym (left_pass c l e)) h.1)
    go false e true f h = inl (subst (λ (n : ℕ). n < unfrozen (c ∷ l)) (sym (left_skip (settle sh t c) m (settle_open sh t c e ∙ f))) (subst (λ (k : List Cell). unfrozen m < length k) (sym (left_keep c l e)) (most h)))
    go false e false f (inl h) =
        inl (subst (λ (k : List Cell). length k < unfrozen (c ∷ l)) (sym (left_keep (settle sh t c) m (settle_open sh t c e ∙ f))) (subst (λ (k : List Cell). suc (unfrozen m) < length k) (sym (left_keep c l e)) (up h)))
    go false e false f (inr h) = inr (
      ap length (left_keep (settle sh t c) m (settle_open sh t c e ∙ f)) ∙ ap suc h.0 ∙ sym (ap length (left_keep c l e)),
      subst (λ (k : List Cell). All (Keeps sh t) k) (sym (left_keep c l e)) (f, h.1),
    )

-- ---- some item freezes

pub all_map : {A : Type 0} {P Q : A → Type 0} → ((a : A) → P a → Q a) → (l : List A) → All P l → All Q l
all_map f [] h = tt
all_map f (a ∷ l) h = (f a h.0, all_map f l h.1)

stuck : (sh : Share) (t : Float) (l : List Cell) → t ≡ total (λ c. violation sh c.item) l → 0 < length l → All (Keeps sh t) l → ⊥
unfolding freezes
stuck sh t l e n h = go (lt nought t) refl (lt t nought) refl
  where
    v : Cell → Float
    v c = violation sh c.item

    first : (l : List Cell) → 0 < length l → All (λ c. true ≡ false) l → ⊥
    first [] n h = lt_irrefl 0 n
    first (c ∷ l) n h = true≢false h.0

    go : (p : Bool) → lt nought t ≡ p → (q : Bool) → lt t nought ≡ q → ⊥
    go true a q b =
        true≢false (sym a ∙ none_above t (subst (λ (x : Float). Not true x) (sym e) (not_total true (λ c. violation sh c.item) nought l (not_nought true)
        (all_map (λ c k. above_none (violation sh c.item) (subst (λ (x : Bool). cond x (lt nought (violation sh c.item)) (cond (lt t nought) (lt (violation sh c.item) nought) true) ≡ false) a k)) l h))))
    go false a true b =
        true≢false (sym b ∙ none_below t (subst (λ (x : Float). Not false x) (sym e) (not_total false (λ c. violation sh c.item) nought l (not_nought false)
        (all_map (λ c k. below_none (violation sh c.item) (subst (λ (x : Bool). cond x (lt (violation sh c.item) nought) true ≡ false) b (subst (λ (x : Bool). cond x (lt nought (violation sh c.item)) (cond (lt t nought) (lt (violation sh c.item) nought) true) ≡ false) a k))) l h))))
    go false a false b =
        first l n (all_map (λ c k. subst (λ (x : Bool). cond x (lt (violation sh c.item) nought) true ≡ false) b (subst (λ (x : Bool). cond x (lt nought (violation sh c.item)) (cond (lt t nought) (lt (violation sh c.item) nought) true) ≡ false) a k)) l h)

pub falls : (ln : Line) (l : List Cell) → 0 < unfrozen l → unfrozen (round ln l) < unfrozen l
unfolding round
falls ln l n = go (fewer (share ln l) (total (λ c. violation (share ln l) c.item) (left l)) l)
  where
    go : Fewer (share ln l) (total (λ c. violation (share ln l) c.item) (left l)) l → unfrozen (map (settle (share ln l) (total (λ c. violation (share ln l) c.item) (left l))) l) < unfrozen l
    go (inl h) = h
    go (inr h) = absurd (stuck (share ln l) (total (λ c. violation (share ln l) c.item) (left l)) (left l) refl n h.1)

-- ---- the number of rounds

left_most : (l : List Cell) → unfrozen l ≤ length l
unfolding left
left_most [] = zero-le
left_most (c ∷ l) = go c.frozen (left_most l)
  where
    go : (b : Bool) → unfrozen l ≤ length l → length (cond b (left l) (c ∷ left l)) ≤ suc (length l)
    go true h = omega arith
    go false h = omega arith

-- each round has one fewer
pub rounds_left : (ln : Line) (l : List Cell) (n : ℕ) → ((k : ℕ) → k < n → 0 < unfrozen (after ln k l)) → n + unfrozen (after ln n l) ≤ length l
unfolding after
rounds_left ln l zero h = le_trans {m = unfrozen l} (omega arith) (left_most l)
rounds_left ln l (suc n) h = step (rounds_left ln l n (λ k m. h k (omega arith))) (falls ln (after ln n l) (h n (omega arith)))
  where
    step : {a b c : ℕ} → n + a ≤ c → b < a → suc n + b ≤ c
    step p q = omega arith

pub rounds_few : (ln : Line) (l : List Cell) (n : ℕ) → Runs ln l n → n ≤ length l
rounds_few ln l n r = omega (arith, rounds_left ln l n r.needed)

-- the rounds end
abbrev Ends : Line → List Cell → Type 0
Ends ln l = (n : ℕ) × Runs ln l n

choose : (ln : Line) (l : List Cell) (n : ℕ) → ((k : ℕ) → k < n → 0 < unfrozen (after ln k l)) → (u : ℕ) → unfrozen (after ln n l) ≡ u → (0 < unfrozen (after ln n l) → Ends ln l) → Ends ln l
choose ln l n h zero e f = (n, record { needed = h; over = e })
choose ln l n h (suc u) e f = f (omega arith)

end_from : (ln : Line) (l : List Cell) (fuel n : ℕ) → ((k : ℕ) → k < n → 0 < unfrozen (after ln k l)) → length l < fuel + n → Ends ln l
end_from ln l zero n h f = absurd (over (unfrozen (after ln n l)) (length l) (rounds_left ln l n h) f)
  where
    over : (a c : ℕ) → n + a ≤ c → c < 0 + n → ⊥
    over a c p q = omega arith
end_from ln l (suc fuel) n h f = choose ln l n h (unfrozen (after ln n l)) refl (λ p. end_from ln l fuel (n + 1) (below_more (λ (k : ℕ). 0 < unfrozen (after ln k l)) n h p) (omega arith))

pub rounds_end : (ln : Line) (l : List Cell) → Ends ln l
rounds_end ln l = end_from ln l (suc (length l)) 0 (below-no (λ (k : ℕ). 0 < unfrozen (after ln k l))) (omega arith)

-- and their number is one
not_before : (ln : Line) (l : List Cell) (m n : ℕ) → Runs ln l m → Runs ln l n → m < n → ⊥
not_before ln l m n p q h = omega (arith, q.needed m h, p.over)

le_of_not_lt : (m n : ℕ) → (m < n → ⊥) → n ≤ m
le_of_not_lt m n h = le_of_suc-le-suc (lt_of_not-le h)

pub rounds_one : (ln : Line) (l : List Cell) (m n : ℕ) → Runs ln l m → Runs ln l n → m ≡ n
rounds_one ln l m n p q = le_antisymm (le_of_not_lt n m (not_before ln l n m q p)) (le_of_not_lt m n (not_before ln l m n p q))
