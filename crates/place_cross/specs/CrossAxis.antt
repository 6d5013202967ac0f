-- Document 01, "Cross axis", second half: the items of one line across it; auto margins by CSS-FLEX 9.6, as document
-- 02, Three, asks. Assumes nothing.
use Rattle.std.specs.Prelude.{◌≡◌, Bool, true, false, cond, not, ◌&&◌, ◌||◌, List, ℕ, get_or, Float}
use Rattle.std.specs.Float.Ieee.{lt}
use Rattle.grid.specs.Grid.{cleaned}
use Rattle.keywords.specs.declared.SelfAlignment.{SelfAlignment}
use Rattle.keywords.specs.declared.SelfAlignment.TheVariants.{Unsafe, Safe, Stretch}
use Rattle.place_size.specs.declared.cross_size.CrossItem.{CrossItem}
use Rattle.place_cross.specs.declared.cross_axis.CrossPlace.{CrossPlace}
use Rattle.grid.specs.Floats.{◌⊕◌, ◌⊖◌, ◌⊘◌, nought, two}
use Rattle.keywords.specs.Alignment.{self_of}
use Rattle.place_align.specs.Align.{self_offset}
use Rattle.lists.specs.Cells.{overwritten}
use Rattle.place_size.specs.CrossSize.{cross_clamp, hypothetical_cross, margins, CrossLists, count, cross_item_at, yes}

abbrev pub is_stretch : SelfAlignment → Bool
is_stretch (Unsafe p) = false
is_stretch (Safe p) = false
is_stretch Stretch = true

-- an item with an auto margin on either side
abbrev pub has_auto : CrossItem → Bool
has_auto it = it.auto_start || it.auto_end

-- "Stretched items with auto size and no auto cross margin"
unfoldable pub is_stretched : CrossItem → SelfAlignment → Bool → Bool
is_stretched it alignment auto-size = is_stretch alignment && not (has_auto it) && auto-size

-- ".. take the line less margins, clamped"; the others keep their clamped measured size
unfoldable pub used_size : Float → CrossItem → Bool → Float
used_size line it stretched = cond stretched (cross_clamp it (line ⊖ margins it)) (hypothetical_cross it)

-- what the line has left beside the item and its margins
unfoldable pub free_cross : Float → CrossItem → Float → Float
free_cross line it size = line ⊖ (size ⊕ margins it)

-- CSS-FLEX 9.6: "If its outer cross size .. is less than the cross size of its flex line, distribute the difference in
-- those sizes equally to the auto margins. ..
unfoldable pub auto_margin : Float → CrossItem → Float
auto_margin free it = cond (it.auto_start && it.auto_end) (free ⊘ two) free

-- .. Otherwise, if the block-start or inline-start margin .. is auto, set it to zero. ..
unfoldable pub start_margin : Float → CrossItem → Float
start_margin free it = cond it.auto_start (cond (lt free nought) nought (auto_margin free it)) it.start

-- .. Set the opposite margin so that the outer cross size of the item equals the cross size of its flex line." Document
-- 02: "the negative rest is added to the opposite margin. Where only the end margin is auto it takes the negative rest
-- too." At exactly 0 both agree: auto margins 0, given ones as given
unfoldable pub end_margin : Float → CrossItem → Float
end_margin free it =
    cond it.auto_end
    (cond (lt free nought) free (auto_margin free it))
    (cond (it.auto_start && lt free nought) (it.end ⊕ free) it.end)

-- "(offset 0) .. Else the item is placed .. by its alignment"
unfoldable pub cross_offset : Float → Bool → CrossItem → SelfAlignment → Float
cross_offset free reversed it alignment = cond (has_auto it) nought (self_offset free reversed alignment)

-- one item's answers
unfoldable pub placed_item : Float → Bool → CrossItem → SelfAlignment → Bool → CrossPlace
placed_item line reversed it alignment auto-size =
    let size = used_size line it (is_stretched it alignment auto-size) in
    let free = free_cross line it size in
    record {
      size = cleaned size;
      start = cleaned (start_margin free it);
      end = cleaned (end_margin free it);
      offset = cleaned (cross_offset free reversed it alignment);
    }

-- ---- the items in lists

abbrev pub placed_at : Float → Bool → CrossLists → List ℕ → List ℕ → ℕ → CrossPlace
placed_at line reversed ls alignment auto-size i =
    placed_item (cleaned line) reversed (cross_item_at ls i) (self_of (get_or alignment i 0)) (yes auto-size i)

-- ---- the answers: lent cells as the call leaves them

abbrev pub used_sizes : Float → Bool → CrossLists → List ℕ → List ℕ → List Float → List Float
used_sizes line reversed ls alignment auto-size =
    overwritten (count ls) (λ i. (placed_at line reversed ls alignment auto-size i).size)

abbrev pub used_starts : Float → Bool → CrossLists → List ℕ → List ℕ → List Float → List Float
used_starts line reversed ls alignment auto-size =
    overwritten (count ls) (λ i. (placed_at line reversed ls alignment auto-size i).start)

abbrev pub used_ends : Float → Bool → CrossLists → List ℕ → List ℕ → List Float → List Float
used_ends line reversed ls alignment auto-size =
    overwritten (count ls) (λ i. (placed_at line reversed ls alignment auto-size i).end)

abbrev pub item_offsets : Float → Bool → CrossLists → List ℕ → List ℕ → List Float → List Float
item_offsets line reversed ls alignment auto-size =
    overwritten (count ls) (λ i. (placed_at line reversed ls alignment auto-size i).offset)

-- the lent cells after the call, beside those before it
pub record Across (line : Float) (reversed : Bool) (ls : CrossLists) (alignment auto-size : List ℕ)
    (sizes₀ starts₀ ends₀ offsets₀ sizes starts ends offsets : List Float) : Type 0 where
  pub sizes_are : sizes ≡ used_sizes line reversed ls alignment auto-size sizes₀
  pub starts_are : starts ≡ used_starts line reversed ls alignment auto-size starts₀
  pub ends_are : ends ≡ used_ends line reversed ls alignment auto-size ends₀
  pub offsets_are : offsets ≡ item_offsets line reversed ls alignment auto-size offsets₀
