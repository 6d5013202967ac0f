-- How many items a line takes: by the line's running size, as code counts it, and by what fits, as a reader says it.
-- Induction on the items that are left; the line grows at its end. Assumes nothing.
use mathlib.Core.Path.{◌≡◌, refl, sym, ap, ap₂, ◌∙◌, subst}
use mathlib.Core.Bool.{Bool, true, false, cond}
use mathlib.Core.List.{List, [], ◌∷◌, ◌++◌, append_assoc}
use Prim.Native.Nat.{ℕ, zero, suc, ◌≤◌, ◌<◌, zero-le, suc-le-suc}
use native.Mathlib.Nat.{le_of_suc-le-suc, not-suc-le-zero, zero-lt-suc}
use lib.ListN.{length, take}
use lib.IntN.{ℤ, ◌+ℤ◌, +ℤ_comm, +ℤ_assoc}
use Rattle.break_greedy.specs.Breaking.{Limit, fits, line_size, taken}

-- ---- a line's size

-- one item more: its size and a gap
pub line_more : (gap y : ℤ) (l : List ℤ) (x : ℤ) → line_size gap ((y ∷ l) ++ (x ∷ [])) ≡ line_size gap (y ∷ l) +ℤ (x +ℤ gap)
unfolding line_size
line_more gap y [] x = ap (λ (z : ℤ). y +ℤ z) (+ℤ_comm gap x)
line_more gap y (z ∷ l) x =
    ap (λ (w : ℤ). y +ℤ (gap +ℤ w)) (line_more gap z l x)
    ∙ ap (λ (w : ℤ). y +ℤ w) (sym (+ℤ_assoc gap (line_size gap (z ∷ l)) (x +ℤ gap)))
    ∙ sym (+ℤ_assoc y (gap +ℤ line_size gap (z ∷ l)) (x +ℤ gap))

pub line_one : (gap x : ℤ) → line_size gap (x ∷ []) ≡ x
unfolding line_size
line_one gap x = refl

-- ---- the number taken, step by step

module _ (limit : Limit) (gap : ℤ) where
  pub taken_none : (line : List ℤ) → taken limit gap line [] ≡ 0
  unfolding taken
  taken_none line = refl

  pub taken-fits : (line : List ℤ) (x : ℤ) (rest : List ℤ) → fits limit (line_size gap (line ++ (x ∷ []))) ≡ true → taken limit gap line (x ∷ rest) ≡ suc (taken limit gap (line ++ (x ∷ [])) rest)
  unfolding taken
  taken-fits line x rest e = ap (λ (b : Bool). cond b (suc (taken limit gap (line ++ (x ∷ [])) rest)) 0) e

  pub taken_full : (line : List ℤ) (x : ℤ) (rest : List ℤ) → fits limit (line_size gap (line ++ (x ∷ []))) ≡ false → taken limit gap line (x ∷ rest) ≡ 0
  unfolding taken
  taken_full line x rest e = ap (λ (b : Bool). cond b (suc (taken limit gap (line ++ (x ∷ [])) rest)) 0) e

  -- the same by the line's size
  unfoldable pub running : ℤ → List ℤ → ℕ
  running size [] = 0
  running size (x ∷ rest) = cond (fits limit (size +ℤ (x +ℤ gap))) (suc (running (size +ℤ (x +ℤ gap)) rest)) 0

  pub taken_running : (y : ℤ) (l rest : List ℤ) → taken limit gap (y ∷ l) rest ≡ running (line_size gap (y ∷ l)) rest
  unfolding taken running
  taken_running y l [] = refl
  taken_running y l (x ∷ rest) =
      ap₂ (λ (s : ℤ) (n : ℕ). cond (fits limit s) (suc n) 0) (line_more gap y l x)
      (taken_running y (l ++ (x ∷ [])) rest ∙ ap (λ (s : ℤ). running s rest) (line_more gap y l x))

  pub taken-le : (line rest : List ℤ) → taken limit gap line rest ≤ length rest
  unfolding taken
  taken-le line [] = zero-le
  taken-le line (x ∷ rest) = go (fits limit (line_size gap (line ++ (x ∷ [])))) (taken-le (line ++ (x ∷ [])) rest)
    where
      go : (b : Bool) {n m : ℕ} → n ≤ m → cond b (suc n) 0 ≤ suc m
      go true h = suc-le-suc h
      go false h = zero-le

  -- ---- the number taken, by what fits

  -- a line that has `line` takes k of `rest`: it fits with each of them, and not with one more
  pub record Takes (line rest : List ℤ) (k : ℕ) : Type 0 where
    pub inside : k ≤ length rest
    pub fit : (j : ℕ) → j < k → fits limit (line_size gap (line ++ take (suc j) rest)) ≡ true
    pub full : k < length rest → fits limit (line_size gap (line ++ take (suc k) rest)) ≡ false

  further : (line : List ℤ) (x : ℤ) (rest : List ℤ) (j : ℕ) → line_size gap ((line ++ (x ∷ [])) ++ take j rest) ≡ line_size gap (line ++ take (suc j) (x ∷ rest))
  further line x rest j = ap (line_size gap) (append_assoc line (x ∷ []) (take j rest))

  pub takes : (line rest : List ℤ) → Takes line rest (taken limit gap line rest)
  takes line [] = subst (Takes line []) (sym (taken_none line)) (record { inside = zero-le; fit = λ j h. absurd (not-suc-le-zero h); full = λ h. absurd (not-suc-le-zero h) })
  takes line (x ∷ rest) = go (fits limit (line_size gap (line ++ (x ∷ [])))) refl (takes (line ++ (x ∷ [])) rest)
    where
      go : (b : Bool) → fits limit (line_size gap (line ++ (x ∷ []))) ≡ b → Takes (line ++ (x ∷ [])) rest (taken limit gap (line ++ (x ∷ [])) rest) → Takes line (x ∷ rest) (taken limit gap line (x ∷ rest))
      go false e t = subst (Takes line (x ∷ rest)) (sym (taken_full line x rest e)) (record { inside = zero-le; fit = λ j h. absurd (not-suc-le-zero h); full = λ h. e })
      go true e t = subst (Takes line (x ∷ rest)) (sym (taken-fits line x rest e)) (record { inside = suc-le-suc t.inside; fit = each; full = λ h. sym (ap (fits limit) (further line x rest (suc (taken limit gap (line ++ (x ∷ [])) rest)))) ∙ t.full (le_of_suc-le-suc h) })
        where
          each : (j : ℕ) → j < suc (taken limit gap (line ++ (x ∷ [])) rest) → fits limit (line_size gap (line ++ take (suc j) (x ∷ rest))) ≡ true
          each zero h = e
          each (suc j) h = sym (ap (fits limit) (further line x rest (suc j))) ∙ t.fit j (le_of_suc-le-suc h)

  -- and there is one such number
  pub takes_one : (line rest : List ℤ) (k : ℕ) → Takes line rest k → taken limit gap line rest ≡ k
  takes_one line [] zero t = taken_none line
  takes_one line [] (suc k) t = absurd (not-suc-le-zero t.inside)
  takes_one line (x ∷ rest) zero t = taken_full line x rest (t.full (zero-lt-suc (length rest)))
  takes_one line (x ∷ rest) (suc k) t = taken-fits line x rest (t.fit 0 (zero-lt-suc k)) ∙ ap suc (takes_one (line ++ (x ∷ [])) rest k less)
    where
      less : Takes (line ++ (x ∷ [])) rest k
      less = record {
        inside = le_of_suc-le-suc t.inside;
        fit = λ j h. ap (fits limit) (further line x rest (suc j)) ∙ t.fit (suc j) (suc-le-suc h);
        full = λ h. ap (fits limit) (further line x rest (suc k)) ∙ t.full (suc-le-suc h);
      }
