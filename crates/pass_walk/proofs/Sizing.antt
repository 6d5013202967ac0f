-- The lines' cross sizes, line by line: what the walk lends of the items, and the walk; and that a line's size depends on its own items alone. Assumes nothing.
use mathlib.Core.Path.{◌≡◌, refl, sym, ap, ◌∙◌}
use mathlib.Core.List.{List}
use Prim.Native.Nat.{ℕ, ◌+◌, ◌≤◌, ◌<◌, zero-le}
use native.Mathlib.Omega.{arith}
use lib.ListN.{length, get_or, set, take, drop}
use lib.Seq.{take_at}
use lib.Ieee.{Float}
use Rattle.lists.specs.ByLine.{line_start}
use Rattle.place_size.specs.declared.container.Cross.{Cross}
use Rattle.lists.specs.Cells.{each, overwritten}
use Rattle.place_size.specs.CrossSize.{CrossLists, cross_lists, count, cross_line_size}
use Rattle.place_size.specs.Lists.{part}
use Rattle.lists.proofs.Each.{length-each, each_at, written_none, written_turn, written_length, written_all}
use Rattle.pass_walk.specs.Sizes.{cross_line, cross_sizes}
use Rattle.pass_walk.specs.SizeParts.{SizesReady}
use Rattle.lists.proofs.Walk.{Here, start_none, start_next, ends-within, lent_is}

-- ---- one line

pub same_items : {m m' l l' h h' e e' s s' t t' : List Float} {k k' p p' q q' : List ℕ} → m ≡ m' → l ≡ l' → h ≡ h' → k ≡ k' → e ≡ e' → s ≡ s' → t ≡ t' → p ≡ p' → q ≡ q' → cross_lists m l h k e s t p q ≡ cross_lists m' l' h' k' e' s' t' p' q'
same_items a b c d f g i j o = rw (a, b, c, d, f, g, i, j, o)

-- the part of the items that a line is lent
pub part_is : {counts : List ℕ} {from to j : ℕ} (ls : CrossLists) → Here counts from to j → part from to ls ≡ cross_line counts j ls
part_is ls h = same_items (lent_is h ls.measured) (lent_is h ls.minimum) (lent_is h ls.maximum) (lent_is h ls.capped) (lent_is h ls.edges) (lent_is h ls.start) (lent_is h ls.end) (lent_is h ls.auto_start) (lent_is h ls.auto_end)

-- what a turn may use: the line's range lies inside the lists
pub record Inside (ls : CrossLists) (from to : ℕ) : Type 0 where
  pub forward : from ≤ to
  pub counted : to ≤ count ls
  pub few : to ≤ 1024

-- ---- the walk

-- the lines before line j have their sizes
pub record Sizing (c : Cross) (counts : List ℕ) (ls : CrossLists) (sizes₀ sizes : List Float) (from j : ℕ) : Type 0 where
  pub here : from ≡ line_start counts j
  pub inside : j ≤ length counts
  pub sizes_are : sizes ≡ overwritten j (λ i. cross_line_size c (cross_line counts i ls)) sizes₀

module _ (c : Cross) (counts : List ℕ) (ls : CrossLists) (sizes₀ : List Float) where
  pub sizing_none : Sizing c counts ls sizes₀ sizes₀ 0 0
  sizing_none = record { here = start_none counts; inside = zero-le; sizes_are = written_none _ sizes₀ }

  module _ (ready : SizesReady counts ls sizes₀) {sizes : List Float} {from j : ℕ} (g : Sizing c counts ls sizes₀ sizes from j) where
    pub sizing_long : length sizes ≡ length sizes₀
    sizing_long = written_length j (λ i. cross_line_size c (cross_line counts i ls)) sizes₀ (omega (arith, g.inside, ready.room)) g.sizes_are

    module _ (h : j < length counts) where
      abbrev to : ℕ
      to = from + get_or counts j 0

      at_line : Here counts from to j
      at_line = record { starts = g.here; ends = refl }

      pub sizing_inside : Inside ls from to
      sizing_inside = let w = ends-within ready.division h at_line in record { forward = omega arith; counted = w; few = omega (arith, ready.even.few) }

      -- one line more
      pub sizing_next : {x : Float} → x ≡ cross_line_size c (part from to ls) → Sizing c counts ls sizes₀ (set sizes j x) to (j + 1)
      sizing_next e = record {
        here = start_next counts at_line;
        inside = omega arith;
        sizes_are = written_turn (λ i. cross_line_size c (cross_line counts i ls)) j sizes₀ (omega (arith, ready.room)) g.sizes_are (e ∙ ap (cross_line_size c) (part_is ls at_line));
      }

    -- all lines
    pub sizing_all : length counts ≤ j → sizes ≡ cross_sizes c counts ls sizes₀
    sizing_all h = written_all (λ i. cross_line_size c (cross_line counts i ls)) sizes₀ g.inside h g.sizes_are

-- ---- the list of sizes, and a line by itself

module _ (c : Cross) (counts : List ℕ) (ls : CrossLists) (sizes₀ : List Float) where
  -- the sizes of the lines alone
  pub sizes_front : take (length counts) (cross_sizes c counts ls sizes₀) ≡ each (length counts) (λ j. cross_line_size c (cross_line counts j ls))
  sizes_front = take_at (each (length counts) (λ j. cross_line_size c (cross_line counts j ls))) (drop (length counts) sizes₀) (length counts) (length-each (length counts) (λ j. cross_line_size c (cross_line counts j ls)))

  pub size_at : (d : Float) (j : ℕ) → j < length counts → get_or (cross_sizes c counts ls sizes₀) j d ≡ cross_line_size c (cross_line counts j ls)
  size_at d j h = each_at (length counts) (λ i. cross_line_size c (cross_line counts i ls)) (drop (length counts) sizes₀) d j h

-- two walks in the same container that agree on the items of a line, and on nothing else, give it the same size
pub sizes_independent : (c : Cross) (counts counts' : List ℕ) (ls ls' : CrossLists) (sizes₀ sizes₀' : List Float) (d : Float) (j j' : ℕ) → j < length counts → j' < length counts' → cross_line counts j ls ≡ cross_line counts' j' ls'
    → get_or (cross_sizes c counts ls sizes₀) j d ≡ get_or (cross_sizes c counts' ls' sizes₀') j' d
sizes_independent c counts counts' ls ls' sizes₀ sizes₀' d j j' h h' e = size_at c counts ls sizes₀ d j h ∙ ap (cross_line_size c) e ∙ sym (size_at c counts' ls' sizes₀' d j' h')
