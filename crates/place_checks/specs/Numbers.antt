-- The cross axis in numbers: how the container's are read, and what a call checks of them and of a line's items.
-- Assumes nothing.
use Rattle.std.specs.Prelude.{List, [], ◌∷◌, ◌++◌, ℕ, eqb, length, Float}
use Rattle.checks.specs.Domain.{Number, float, code}
use Rattle.checks.specs.Optional.{optional}
use Rattle.checks.specs.Lists.{float_at, code_at, beside_at}
use Rattle.checks.specs.declared.Kind.TheVariants.{Size, Margin}
use Rattle.keywords.specs.Space.{bound_of}
use Rattle.place_size.specs.declared.container.Cross.{Cross}
use Rattle.place_checks.specs.declared.numbers.CrossNumbers.{CrossNumbers}
use Rattle.keywords.specs.Wrapping.{wrap_of}
use Rattle.place_size.specs.CrossSize.{CrossLists}

-- ---- the container

unfoldable pub cross_of : CrossNumbers → Cross
cross_of c = record {
  inner = bound_of c.has_inner c.inner;
  minimum = bound_of c.has_minimum c.minimum;
  maximum = bound_of c.has_maximum c.maximum;
  gap = c.gap;
  wrap = wrap_of c.wrap;
}

-- the code, and the number where it is given
abbrev pub coded_bound : ℕ → Float → List Number
coded_bound given x = code 1 given ∷ optional (eqb given 1) (float Size x)

-- the inner size, its bounds, and the rest
abbrev pub bounds_numbers : CrossNumbers → List Number → List Number
bounds_numbers c rest = coded_bound c.has_inner c.inner
    ++ (coded_bound c.has_minimum c.minimum ++ (coded_bound c.has_maximum c.maximum ++ rest))

-- what lines along the cross axis turn on
abbrev pub cross_numbers : CrossNumbers → List Number
cross_numbers c = bounds_numbers c (float Size c.gap ∷ code 4 c.wrap ∷ [])

-- what the size of one line turns on: no gap
abbrev pub sizing_numbers : CrossNumbers → List Number
sizing_numbers c = bounds_numbers c (code 4 c.wrap ∷ [])

-- ---- the items of a line

-- item i: measured size, minimum, padding plus border, the maximum where there is one, and the margins that are not
-- auto
abbrev pub cross_numbers_at : CrossLists → ℕ → List Number
cross_numbers_at ls i = float_at Size ls.measured i ++ (float_at Size ls.minimum i
    ++ (float_at Size ls.edges i ++ (beside_at Size 1 ls.maximum ls.capped i
    ++ (beside_at Margin 0 ls.start ls.auto_start i ++ beside_at Margin 0 ls.end ls.auto_end i))))

-- and the codes of `align-self`, and of an auto cross size
abbrev pub across_numbers_at : CrossLists → List ℕ → List ℕ → ℕ → List Number
across_numbers_at ls alignment auto-size i = cross_numbers_at ls i ++ (code_at 10 alignment i ++ code_at 1 auto-size i)

-- the lengths of a line's lists
abbrev pub item_lengths : CrossLists → List ℕ
item_lengths ls =
    length ls.measured ∷ length ls.minimum ∷ length ls.maximum ∷ length ls.capped ∷ length ls.edges ∷
    length ls.start ∷ length ls.end ∷ length ls.auto_start ∷ length ls.auto_end ∷ []
