-- What a call inside leaves, with its answer told as it crosses, is what the exported call leaves. Assumes nothing.
use mathlib.Core.Path.{◌≡◌, ap, ◌∙◌}
use mathlib.Core.List.{List}
use lib.Ieee.{Float}
use Rattle.checks.specs.Domain.{Answer}
use Rattle.place_main.specs.MainCall as main
use Rattle.export_answer.specs.declared.CAnswer.{CAnswer}
use Rattle.export_answer.specs.Crossing.{c_answer}
use Rattle.export_main.specs.Placed.{c_main, main_from_c}

pub main_told : {r : CAnswer} {a : Answer} {o s e : List Float} {m : main.MainResult} → r ≡ c_answer a → main.main_result a o s e ≡ m → c_main r o s e ≡ main_from_c m
main_told {r} {a} {o} {s} {e} p q = ap (λ (x : CAnswer). c_main x o s e) p ∙ ap main_from_c q
