-- The four lent lists of the items across a line, written from the front together. Assumes nothing.
use mathlib.Core.Path.{◌≡◌, refl, ap}
use mathlib.Core.Bool.{Bool}
use mathlib.Core.List.{List}
use Prim.Native.Nat.{ℕ, ◌+◌, ◌≤◌, ◌<◌}
use native.Mathlib.Omega.{arith}
use lib.ListN.{length, set, length-set}
use lib.Ieee.{Float}
use Rattle.keywords.specs.declared.SelfAlignment.{SelfAlignment}
use Rattle.place_size.specs.declared.cross_size.CrossItem.{CrossItem}
use Rattle.place_cross.specs.declared.cross_axis.CrossPlace.{CrossPlace}
use Rattle.lists.specs.Cells.{overwritten}
use Rattle.place_cross.specs.CrossAxis.{placed_item}
use Rattle.place_cross.specs.Parts.{AcrossRoom}
use Rattle.lists.proofs.Each.{written_none, written_turn, written_length}

pub placed_same : (reversed auto-size : Bool) {x y : Float} {a b : CrossItem} {s t : SelfAlignment} → x ≡ y → a ≡ b → s ≡ t → placed_item x reversed a s auto-size ≡ placed_item y reversed b t auto-size
placed_same reversed auto-size p q r = rw (p, q, r)

-- the first i items are placed, and the lists are as long as they were
pub record Writing (p : ℕ → CrossPlace) (sizes₀ starts₀ ends₀ offsets₀ sizes starts ends offsets : List Float) (i : ℕ) : Type 0 where
  pub sizes_are : sizes ≡ overwritten i (λ k. (p k).size) sizes₀
  pub starts_are : starts ≡ overwritten i (λ k. (p k).start) starts₀
  pub ends_are : ends ≡ overwritten i (λ k. (p k).end) ends₀
  pub offsets_are : offsets ≡ overwritten i (λ k. (p k).offset) offsets₀
  pub sizes_long : length sizes ≡ length sizes₀
  pub starts_long : length starts ≡ length starts₀
  pub ends_long : length ends ≡ length ends₀
  pub offsets_long : length offsets ≡ length offsets₀

module _ (p : ℕ → CrossPlace) (sizes₀ starts₀ ends₀ offsets₀ : List Float) where
  pub writing_none : Writing p sizes₀ starts₀ ends₀ offsets₀ sizes₀ starts₀ ends₀ offsets₀ 0
  writing_none = record { sizes_are = written_none _ sizes₀; starts_are = written_none _ starts₀; ends_are = written_none _ ends₀; offsets_are = written_none _ offsets₀; sizes_long = refl; starts_long = refl; ends_long = refl; offsets_long = refl }

  module _ {n : ℕ} (room : AcrossRoom n sizes₀ starts₀ ends₀ offsets₀) {sizes starts ends offsets : List Float} {i : ℕ} (w : Writing p sizes₀ starts₀ ends₀ offsets₀ sizes starts ends offsets i) where
    pub writing_turn : {v : CrossPlace} → i < n → v ≡ p i → Writing p sizes₀ starts₀ ends₀ offsets₀ (set sizes i v.size) (set starts i v.start) (set ends i v.end) (set offsets i v.offset) (i + 1)
    writing_turn h e = record {
      sizes_are = written_turn (λ k. (p k).size) i sizes₀ (omega (arith, h, room.sizes_room)) w.sizes_are (ap (λ (x : CrossPlace). x.size) e);
      starts_are = written_turn (λ k. (p k).start) i starts₀ (omega (arith, h, room.starts_room)) w.starts_are (ap (λ (x : CrossPlace). x.start) e);
      ends_are = written_turn (λ k. (p k).end) i ends₀ (omega (arith, h, room.ends_room)) w.ends_are (ap (λ (x : CrossPlace). x.end) e);
      offsets_are = written_turn (λ k. (p k).offset) i offsets₀ (omega (arith, h, room.offsets_room)) w.offsets_are (ap (λ (x : CrossPlace). x.offset) e);
      sizes_long = simp length-set w.sizes_long;
      starts_long = simp length-set w.starts_long;
      ends_long = simp length-set w.ends_long;
      offsets_long = simp length-set w.offsets_long;
    }

-- the lists are as long as they were
pub record Long (sizes₀ starts₀ ends₀ offsets₀ sizes starts ends offsets : List Float) : Type 0 where
  pub sizes_long : length sizes ≡ length sizes₀
  pub starts_long : length starts ≡ length starts₀
  pub ends_long : length ends ≡ length ends₀
  pub offsets_long : length offsets ≡ length offsets₀

-- the first i of n items are placed
module _ (n : ℕ) (p : ℕ → CrossPlace) (sizes₀ starts₀ ends₀ offsets₀ : List Float) (room : AcrossRoom n sizes₀ starts₀ ends₀ offsets₀) {sizes starts ends offsets : List Float} {i : ℕ} (inside : i ≤ n)
    (sizes_are : sizes ≡ overwritten i (λ k. (p k).size) sizes₀) (starts_are : starts ≡ overwritten i (λ k. (p k).start) starts₀) (ends_are : ends ≡ overwritten i (λ k. (p k).end) ends₀) (offsets_are : offsets ≡ overwritten i (λ k. (p k).offset) offsets₀) where
  pub writing_long : Long sizes₀ starts₀ ends₀ offsets₀ sizes starts ends offsets
  writing_long = record {
    sizes_long = written_length i (λ k. (p k).size) sizes₀ (omega (arith, inside, room.sizes_room)) sizes_are;
    starts_long = written_length i (λ k. (p k).start) starts₀ (omega (arith, inside, room.starts_room)) starts_are;
    ends_long = written_length i (λ k. (p k).end) ends₀ (omega (arith, inside, room.ends_room)) ends_are;
    offsets_long = written_length i (λ k. (p k).offset) offsets₀ (omega (arith, inside, room.offsets_room)) offsets_are;
  }
