-- The call for the cross size of one line: what it takes, checks and answers. Assumes nothing.
use Rattle.std.specs.Prelude.{[], Float}
use Rattle.std.specs.declared.result.Result.{Result}
use Rattle.std.specs.declared.result.Result.TheVariants.{Ok, Err}
use Rattle.checks.specs.declared.Refusal.{Refusal}
use Rattle.checks.specs.Domain.{Input, Verdict, checked, then}
use Rattle.checks.specs.Shapes.{shape_of}
use Rattle.place_checks.specs.declared.numbers.CrossNumbers.{CrossNumbers}
use Rattle.place_size.specs.CrossSize.{CrossLists, count, cross_line_size}
use Rattle.place_checks.specs.Numbers.{cross_of, sizing_numbers, cross_numbers_at, item_lengths}

-- "Only numbers the call takes": the size of one line turns on no gap
abbrev pub size_input : CrossNumbers → CrossLists → Input
size_input c ls = record { container = sizing_numbers c; count = count ls; item = cross_numbers_at ls }

-- checks 1 to 5; "calls without main sizes .. never give 6"
unfoldable pub size_verdict : CrossNumbers → CrossLists → Verdict
size_verdict c ls = then (shape_of (item_lengths ls) [] (count ls)) (checked (size_input c ls) (Ok tt))

-- the line's size, or why it is refused
abbrev pub SizeAnswer : Type 0
SizeAnswer = Result Float Refusal

abbrev pub size_into : Verdict → CrossNumbers → CrossLists → SizeAnswer
size_into (Err why) c ls = Err why
size_into (Ok tt) c ls = Ok (cross_line_size (cross_of c) ls)

-- THE CALL ("Cross axis"): it refuses by checks 1 to 5, or it answers with the line's size
abbrev pub size_call : CrossNumbers → CrossLists → SizeAnswer
size_call c ls = size_into (size_verdict c ls) c ls
