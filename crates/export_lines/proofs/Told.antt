-- What a call inside leaves, with its answer told as it crosses, is what the exported call leaves. Assumes nothing.
use mathlib.Core.Path.{◌≡◌, ap, ◌∙◌}
use mathlib.Core.List.{List}
use Prim.Native.Nat.{ℕ}
use lib.Ieee.{Float}
use Rattle.place_checks.specs.declared.numbers.CrossNumbers.{CrossNumbers}
use Rattle.place_size.specs.CrossSize.{CrossLists}
use Rattle.place_size_call.specs.SizeCall.{SizeAnswer}
use Rattle.place_lines_call.specs.LinesCall.{LinesAnswer}
use Rattle.place_size_call.specs.SizeCall as size
use Rattle.place_lines_call.specs.LinesCall as lines
use Rattle.export_lines.specs.declared.CSized.{CSized}
use Rattle.export_lines.specs.Sized.{c_line, c_lines, c_aligned, lines_from_c}

pub size_told : (c : CrossNumbers) (ls : CrossLists) {r : CSized} {a : SizeAnswer} → a ≡ size.size_call c ls → r ≡ c_line a → r ≡ c_line (size.size_call c ls)
size_told c ls q t = t ∙ ap c_line q

pub lines_told : (c : CrossNumbers) (k : ℕ) (l z₀ o₀ : List Float) {r : CSized} {a : LinesAnswer} {z o : List Float} → lines.lines_result a z o ≡ lines.lines_call c k l z₀ o₀ → r ≡ c_lines a
    → c_aligned r z o ≡ lines_from_c (lines.lines_call c k l z₀ o₀)
lines_told c k l z₀ o₀ {r} {a} {z} {o} q t = ap (λ (x : CSized). c_aligned x z o) t ∙ ap lines_from_c q
