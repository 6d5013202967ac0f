-- Document 01, "Cross axis", first half: the size of a line from its items. Assumes nothing.
use Rattle.std.specs.Prelude.{Bool, cond, not, List, ℕ, zero, suc, eqb, length, get_or, Float}
use Rattle.std.specs.Float.{nan}
use Rattle.grid.specs.Grid.{cleaned}
use Rattle.grid.specs.Floats.{◌⊕◌, nought, lowered, raised}
use Rattle.place_size.specs.declared.container.Cross.{Cross}
use Rattle.place_size.specs.declared.cross_size.CrossItem.{CrossItem}
use Rattle.keywords.specs.Wrapping.{is_single_line}
use Rattle.place_size.specs.Container.{read_cross, inner_size, or_bounded}

-- ---- an item

-- lowered to the maximum, where there is one, raised to the minimum, then to padding plus border
unfoldable pub cross_clamp : CrossItem → Float → Float
cross_clamp it x = raised (raised (cond it.capped (lowered x it.maximum) x) it.minimum) it.edges

-- "measured sizes first clamped by their item's bounds"
abbrev pub hypothetical_cross : CrossItem → Float
hypothetical_cross it = cross_clamp it it.measured

-- auto margins as 0
abbrev pub or_nought : Bool → Float → Float
or_nought auto x = cond auto nought x

-- "line less margins", "outer cross size": start + end
unfoldable pub margins : CrossItem → Float
margins it = or_nought it.auto_start it.start ⊕ or_nought it.auto_end it.end

unfoldable pub outer_size : CrossItem → Float
outer_size it = hypothetical_cross it ⊕ margins it

abbrev pub read_item : CrossItem → CrossItem
read_item it = record {
  measured = cleaned it.measured;
  minimum = cleaned it.minimum;
  maximum = cleaned it.maximum;
  capped = it.capped;
  edges = cleaned it.edges;
  start = cleaned it.start;
  end = cleaned it.end;
  auto_start = it.auto_start;
  auto_end = it.auto_end;
}

-- ---- the items of a line in lists

pub record CrossLists : Type 0 where
  pub measured : List Float
  pub minimum : List Float
  pub maximum : List Float
  pub capped : List ℕ
  pub edges : List Float
  pub start : List Float
  pub end : List Float
  pub auto_start : List ℕ
  pub auto_end : List ℕ

abbrev pub cross_lists : List Float → List Float → List Float → List ℕ → List Float → List Float → List Float → List ℕ
    → List ℕ → CrossLists
cross_lists m l h k e s t p q = record {
  measured = m;
  minimum = l;
  maximum = h;
  capped = k;
  edges = e;
  start = s;
  end = t;
  auto_start = p;
  auto_end = q;
}

abbrev pub count : CrossLists → ℕ
count ls = length ls.measured

-- a code is yes where it is not 0
abbrev pub yes : List ℕ → ℕ → Bool
yes codes i = not (eqb (get_or codes i 0) 0)

abbrev pub raw_at : CrossLists → ℕ → CrossItem
raw_at ls i = record {
  measured = get_or ls.measured i nan;
  minimum = get_or ls.minimum i nan;
  maximum = get_or ls.maximum i nan;
  capped = yes ls.capped i;
  edges = get_or ls.edges i nan;
  start = get_or ls.start i nan;
  end = get_or ls.end i nan;
  auto_start = yes ls.auto_start i;
  auto_end = yes ls.auto_end i;
}

abbrev pub cross_item_at : CrossLists → ℕ → CrossItem
cross_item_at ls i = read_item (raw_at ls i)

-- ---- the line

-- "the largest .. and zero" of the first n
unfoldable pub largest : (ℕ → Float) → ℕ → Float
largest f zero = nought
largest f (suc n) = raised (largest f n) (f n)

abbrev pub largest_outer : CrossLists → Float
largest_outer ls = largest (λ i. outer_size (cross_item_at ls i)) (count ls)

-- "Line size is the inner cross size for a single-line definite container, else the largest outer cross size .. and
-- zero, clamped by the container's inner cross bounds if single-line"
unfoldable pub line_cross_size : Cross → Float → Float
line_cross_size c x = cleaned (cond (is_single_line c.wrap) (or_bounded c (inner_size c) x) x)

abbrev pub cross_line_size : Cross → CrossLists → Float
cross_line_size c ls = line_cross_size (read_cross c) (largest_outer ls)
