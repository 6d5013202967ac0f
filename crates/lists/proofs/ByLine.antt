-- A line's cells: those of an earlier line outlive a later line's, and lists whose lines' parts are the same are the same. Assumes nothing.
use mathlib.Core.Path.{◌≡◌, refl, sym, ap, ap₂, ◌∙◌}
use mathlib.Core.List.{List, [], ◌∷◌, ◌++◌}
use Prim.Native.Nat.{ℕ, zero, suc, ◌+◌, ◌-◌, ◌≤◌, ◌<◌}
use native.Mathlib.Omega.{arith}
use lib.ListN.{length, get_or, take, drop}
use lib.Seq.{take-add, take-take, take_at, drop_at, drop-drop, length-take-le}
use borrow.Rule.Slice.PartMut.{put_mid, post_of, same_len_mid, mid_len, take_put}
use Rattle.lists.specs.Cells.{sum_up_to}
use Rattle.lists.specs.ByLine.{line_start, part}

module _ {A : Type 0} where
  part_of : (s c a : ℕ) (l : List A) → s + c ≤ a → s ≤ length l → take c (drop s l) ≡ drop s (take (s + c) (take a l))
  part_of s c a l h k = sym (ap (λ (x : List A). drop s x) (take-take (s + c) a l h ∙ take-add s c l) ∙ drop_at (take s l) (take c (drop s l)) s (length-take-le s l k))

  -- those of an earlier line are as they were, and those of this one are its part
  pub other_cells : (s c a e : ℕ) (l cells : List A) → s + c ≤ a → a ≤ e → e ≤ length l → length cells ≡ e - a → take c (drop s (put_mid a (e - a) l cells)) ≡ take c (drop s l)
  other_cells s c a e l cells h k r q =
      let m = same_len_mid a (e - a) l cells (q ∙ sym (mid_len a e l r)) in
      part_of s c a (put_mid a (e - a) l cells) h (omega (arith, m))
      ∙ ap (λ (x : List A). drop s (take (s + c) x)) (take_put a (e - a) l cells (omega arith))
      ∙ sym (part_of s c a l h (omega arith))

  pub own_cells : (a c e : ℕ) (l cells : List A) → e ≡ a + c → e ≤ length l → length cells ≡ e - a → take c (drop a (put_mid a (e - a) l cells)) ≡ cells
  own_cells a c e l cells h r q =
      ap (λ (x : List A). take c x) (drop_at (take a l) (cells ++ post_of a (e - a) l) a (length-take-le a l (omega arith)))
      ∙ take_at cells (post_of a (e - a) l) c (omega arith)

  pub later : (a e : ℕ) (l m : List A) → a ≤ e → drop a l ≡ drop a m → drop e l ≡ drop e m
  later a e l m h p =
      let k : a + (e - a) ≡ e = omega arith in
      sym (drop-drop (e - a) a l ∙ ap (λ (i : ℕ). drop i l) k) ∙ ap (λ (x : List A). drop (e - a) x) p ∙ drop-drop (e - a) a m ∙ ap (λ (i : ℕ). drop i m) k

-- a list by item, by its lines' parts
pub by_parts : {A : Type 0} (counts : List ℕ) (k : ℕ) (a b : List A) → ((j : ℕ) → j < k → part counts j a ≡ part counts j b) → take (line_start counts k) a ≡ take (line_start counts k) b
unfolding sum_up_to
by_parts {A} counts zero a b h = nothing a ∙ sym (nothing b)
  where
    nothing : (l : List A) → take 0 l ≡ []
    nothing [] = refl
    nothing (x ∷ l) = refl
by_parts {A} counts (suc k) a b h =
    take-add (line_start counts k) (get_or counts k 0) a
    ∙ ap₂ (λ (x y : List A). x ++ y) (by_parts counts k a b (λ j l. h j (omega arith))) (h k (omega arith))
    ∙ sym (take-add (line_start counts k) (get_or counts k 0) b)
