-- What a call that flexes takes, and so checks (document 01, "Domain and refusal numbers" and "Flexible lengths").
-- Assumes nothing.
use Rattle.std.specs.Prelude.{List, [], ◌∷◌, ◌++◌, ℕ, length, get_or, Float}
use Rattle.std.specs.Float.{nan}
use Rattle.checks.specs.Domain.{Number, float, Input, Verdict}
use Rattle.checks.specs.Lists.{beside_at}
use Rattle.checks.specs.Shapes as shapes
use Rattle.checks.specs.declared.Kind.TheVariants.{Size, Margin, Factor}
use Rattle.flex.specs.Items.{Lists, count}

-- ---- checks 1 and 2

abbrev pub lengths : Lists → List ℕ
lengths ls =
    length ls.base ∷ length ls.minimum ∷ length ls.maximum ∷ length ls.has_maximum ∷ length ls.edges ∷
    length ls.grow ∷ length ls.shrink ∷ length ls.start ∷ length ls.end ∷ length ls.auto_start ∷
    length ls.auto_end ∷ []

-- the lists are of one length, and there are as many cells for the targets
abbrev pub flex_shape : Lists → ℕ → Verdict
flex_shape ls room = shapes.shape_of (lengths ls) (room ∷ []) (count ls)

-- ---- checks 3, 4 and 5: the numbers that are taken

-- of item i those that are always there: base, minimum, padding plus border, grow and shrink
abbrev pub plain_at : List Float → List Float → List Float → List Float → List Float → ℕ → List Number
plain_at b l e g s i = float Size (get_or b i nan) ∷ float Size (get_or l i nan) ∷ float Size (get_or e i nan) ∷
    float Factor (get_or g i nan) ∷ float Factor (get_or s i nan) ∷ []

-- and the maximum and the margins, each beside its code
abbrev pub input_of : Float → Float → Lists → Input
input_of inner gap ls = record {
  container = float Size inner ∷ float Size gap ∷ [];
  count = count ls;
  item = λ i. plain_at ls.base ls.minimum ls.edges ls.grow ls.shrink i
      ++ (beside_at Size 1 ls.maximum ls.has_maximum i ++
      (beside_at Margin 0 ls.start ls.auto_start i ++ beside_at Margin 0 ls.end ls.auto_end i));
}
