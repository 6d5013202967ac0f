-- Auto margins in numbers, where the definition computes: an item of 40 on lines of 24, 60 and 40, whether wrapping is reversed or not.
-- Assumes nothing.
use mathlib.Core.Path.{◌≡◌, refl}
use mathlib.Core.Bool.{Bool, true, false}
use Prim.Native.Nat.{ℕ}
use lib.Ieee.{Float, of_bits, of_int, add, sub, div, lt}
use Rattle.grid.specs.Floats.{◌⊖◌, nought, counted}
use Rattle.grid.specs.Grid.{cleaned}
use Rattle.keywords.specs.declared.SelfAlignment.TheVariants.{Stretch}
use Rattle.place_size.specs.CrossSize.{margins, cross_clamp}
use Rattle.place_size.specs.declared.cross_size.CrossItem.{CrossItem}
use Rattle.place_cross.specs.declared.cross_axis.CrossPlace.{CrossPlace}
use Rattle.place_cross.specs.CrossAxis.{used_size, is_stretched, free_cross, auto_margin, start_margin, end_margin, cross_offset, placed_item}

-- pixels, of either sign
abbrev pub px : ℕ → Float
px = counted

unfoldable pub less : ℕ → Float
less n = nought ⊖ counted n

-- an auto margin, and a given one
pub data Margin : Type 0 where
  auto : Margin
  given : Float → Margin

unfoldable pub is_auto : Margin → Bool
is_auto auto = true
is_auto (given x) = false

-- the number beside an auto margin does not count: 3
unfoldable pub number : Margin → Float
number auto = px 3
number (given x) = x

unfoldable pub item : Margin → Margin → CrossItem
item s e = record { measured = px 40; minimum = nought; maximum = nought; capped = false; edges = nought; start = number s; end = number e; auto_start = is_auto s; auto_end = is_auto e }

abbrev pub Placed : ℕ → Margin → Margin → Float → Float → Type 0
Placed line s e start end = (reversed : Bool) → placed_item (px line) reversed (item s e) Stretch true ≡ record { size = px 40; start = start; end = end; offset = nought }

-- a case by itself: together they take more steps than one definition may
module _ (reversed : Bool) where
  abbrev both_placed : CrossPlace
  both_placed = placed_item (px 24) reversed (item auto auto) Stretch true

  both_size : both_placed.size ≡ px 40
  unfolding less is_auto number item placed_item used_size is_stretched cross_clamp margins free_cross start_margin end_margin auto_margin cross_offset cleaned of_bits of_int add sub div lt
  both_size = refl

  both_start : both_placed.start ≡ nought
  unfolding less is_auto number item placed_item used_size is_stretched cross_clamp margins free_cross start_margin end_margin auto_margin cross_offset cleaned of_bits of_int add sub div lt
  both_start = refl

  both_end : both_placed.end ≡ less 16
  unfolding less is_auto number item placed_item used_size is_stretched cross_clamp margins free_cross start_margin end_margin auto_margin cross_offset cleaned of_bits of_int add sub div lt
  both_end = refl

  both_offset : both_placed.offset ≡ nought
  unfolding less is_auto number item placed_item used_size is_stretched cross_clamp margins free_cross start_margin end_margin auto_margin cross_offset cleaned of_bits of_int add sub div lt
  both_offset = refl

both_worked : Placed 24 auto auto nought (less 16)
both_worked r = place (both_size r) (both_start r) (both_end r) (both_offset r)
  where
    place : {p q : CrossPlace} → p.size ≡ q.size → p.start ≡ q.start → p.end ≡ q.end → p.offset ≡ q.offset → p ≡ q
    place {p} {q} a b c d = rw (a, b, c, d)

end_given_0_worked : Placed 24 auto (given nought) nought (less 16)
unfolding less is_auto number item placed_item used_size is_stretched cross_clamp margins free_cross start_margin end_margin auto_margin cross_offset cleaned of_bits of_int add sub div lt
end_given_0_worked r = refl

end_given_6_worked : Placed 24 auto (given (px 6)) nought (less 16)
unfolding less is_auto number item placed_item used_size is_stretched cross_clamp margins free_cross start_margin end_margin auto_margin cross_offset cleaned of_bits of_int add sub div lt
end_given_6_worked r = refl

start_given_5_worked : Placed 24 (given (px 5)) auto (px 5) (less 21)
unfolding less is_auto number item placed_item used_size is_stretched cross_clamp margins free_cross start_margin end_margin auto_margin cross_offset cleaned of_bits of_int add sub div lt
start_given_5_worked r = refl

end_given_minus_6_worked : Placed 24 auto (given (less 6)) nought (less 16)
unfolding less is_auto number item placed_item used_size is_stretched cross_clamp margins free_cross start_margin end_margin auto_margin cross_offset cleaned of_bits of_int add sub div lt
end_given_minus_6_worked r = refl

long_worked : Placed 60 auto auto (px 10) (px 10)
unfolding less is_auto number item placed_item used_size is_stretched cross_clamp margins free_cross start_margin end_margin auto_margin cross_offset cleaned of_bits of_int add sub div lt
long_worked r = refl

long_end_given_6_worked : Placed 60 auto (given (px 6)) (px 14) (px 6)
unfolding less is_auto number item placed_item used_size is_stretched cross_clamp margins free_cross start_margin end_margin auto_margin cross_offset cleaned of_bits of_int add sub div lt
long_end_given_6_worked r = refl

long_start_given_5_worked : Placed 60 (given (px 5)) auto (px 5) (px 15)
unfolding less is_auto number item placed_item used_size is_stretched cross_clamp margins free_cross start_margin end_margin auto_margin cross_offset cleaned of_bits of_int add sub div lt
long_start_given_5_worked r = refl

exact_worked : Placed 40 auto auto nought nought
unfolding less is_auto number item placed_item used_size is_stretched cross_clamp margins free_cross start_margin end_margin auto_margin cross_offset cleaned of_bits of_int add sub div lt
exact_worked r = refl

pub record Worked : Type 0 where
  pub both : Placed 24 auto auto nought (less 16)
  pub end_given_0 : Placed 24 auto (given nought) nought (less 16)
  pub end_given_6 : Placed 24 auto (given (px 6)) nought (less 16)
  pub start_given_5 : Placed 24 (given (px 5)) auto (px 5) (less 21)
  pub end_given_minus_6 : Placed 24 auto (given (less 6)) nought (less 16)
  pub long : Placed 60 auto auto (px 10) (px 10)
  pub long_end_given_6 : Placed 60 auto (given (px 6)) (px 14) (px 6)
  pub long_start_given_5 : Placed 60 (given (px 5)) auto (px 5) (px 15)
  pub exact : Placed 40 auto auto nought nought

pub worked : Worked
worked = record {
  both = both_worked;
  end_given_0 = end_given_0_worked;
  end_given_6 = end_given_6_worked;
  start_given_5 = start_given_5_worked;
  end_given_minus_6 = end_given_minus_6_worked;
  long = long_worked;
  long_end_given_6 = long_end_given_6_worked;
  long_start_given_5 = long_start_given_5_worked;
  exact = exact_worked;
}
