-- The contracts of the exported calls leave no choice: any two results that one allows, cells included, are equal. Each is an equation, and its right side the
-- call's inputs alone. Assumes nothing.
use mathlib.Core.Path.{◌≡◌, sym, ap, ◌∙◌}
use mathlib.Core.List.{List}
use lib.Ieee.{Float}
use Rattle.place_size_call.specs.SizeCall.{SizeAnswer}
use Rattle.place_lines_call.specs.LinesCall.{LinesResult}
use Rattle.export_lines.specs.declared.CSized.{CSized}
use Rattle.export_lines.specs.Sized.{c_line, CAligned, c_aligned, lines_from_c}

pub one_size : (a : SizeAnswer) (r r' : CSized) → r ≡ c_line a → r' ≡ c_line a → r ≡ r'
one_size a r r' p q = p ∙ sym q

pub one_lines : (l : LinesResult) (r r' : CSized) (z z' o o' : List Float) → c_aligned r z o ≡ lines_from_c l → c_aligned r' z' o' ≡ lines_from_c l → (r ≡ r') × (z ≡ z') × (o ≡ o')
one_lines l r r' z z' o o' p q =
    let d = p ∙ sym q in
    (ap (λ (x : CAligned). x.answer) d, ap (λ (x : CAligned). x.sizes) d, ap (λ (x : CAligned). x.offsets) d)
