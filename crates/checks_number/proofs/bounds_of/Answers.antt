-- `checks_number::bounds_of` meets its contract: the code's numbers, by their bits, are the table's. Assumes nothing.
use mathlib.Core.Path.{◌≡◌, refl, sym, ap, ◌∙◌}
use mathlib.Core.Bool.{true, false}
use lib.Ieee.{binary32, neg, of_int, of_bits}
use Rattle.checks.specs.declared.Kind.{Kind}
use Rattle.checks.specs.declared.Kind.TheVariants.{Length, Margin, Size, Factor, Worked}
use Rattle.checks_number.specs.declared.Bounds.{Bounds}
use Rattle.checks_number.specs.Bounds.{between, bounds_of}
use Rattle.checks_number.proofs.bounds_of.Goals as goal

abbrev written : Kind → Bounds
written Length = between (neg (of_bits binary32 1216348160)) (of_bits binary32 1216348160) false
written Margin = between (neg (of_bits binary32 1207959552)) (of_bits binary32 1207959552) false
written Size = between (of_bits binary32 0) (of_bits binary32 1216348160) false
written Factor = between (of_bits binary32 0) (of_bits binary32 1149239296) true
written Worked = between (neg (of_bits binary32 1266679808)) (of_bits binary32 1266679808) true

same : (kind : Kind) → written kind ≡ bounds_of kind
unfolding of_bits of_int
same Length = refl
same Margin = refl
same Size = refl
same Factor = refl
same Worked = refl

is : (kind known : Kind) → kind ≡ known → written known ≡ bounds_of kind
is kind known e = same known ∙ ap bounds_of (sym e)

pub returns-in-Length : goal.returns-in-Length
returns-in-Length c = c.between.ensures ∙ is c.args.kind Length c.in-Length.is

pub returns-in-Margin : goal.returns-in-Margin
returns-in-Margin c = c.between-in-Margin.ensures ∙ is c.args.kind Margin c.in-Margin.is

pub returns-in-Size : goal.returns-in-Size
returns-in-Size c = c.between-in-Size.ensures ∙ is c.args.kind Size c.in-Size.is

pub returns-in-Factor : goal.returns-in-Factor
returns-in-Factor c = c.between-in-Factor.ensures ∙ is c.args.kind Factor c.in-Factor.is

pub returns-in-Worked : goal.returns-in-Worked
returns-in-Worked c = c.between-in-Worked.ensures ∙ is c.args.kind Worked c.in-Worked.is
