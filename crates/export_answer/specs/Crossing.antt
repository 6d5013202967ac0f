-- What crosses to C: an answer's number, place, lines and rounds, by the paper's table of refusals. Assumes nothing.
use Rattle.std.specs.Prelude.{ℕ}
use Rattle.checks.specs.Domain.{Where, nowhere, at_container, at_item, Paper, Answer, paper}
use Rattle.export_answer.specs.declared.CAnswer.{CAnswer}

-- where: 0 nowhere, 1 the container, 2 the item or line `place`
abbrev pub where_code : Where → ℕ
where_code nowhere = 0
where_code at_container = 1
where_code (at_item i) = 2

abbrev pub where_index : Where → ℕ
where_index nowhere = 0
where_index at_container = 0
where_index (at_item i) = i

-- an answer's number, place, lines and rounds
abbrev pub crossed : Paper → CAnswer
crossed p = record {
  number = p.number;
  at = where_code p.place;
  place = where_index p.place;
  lines = p.lines;
  rounds = p.rounds;
}

abbrev pub c_answer : Answer → CAnswer
c_answer a = crossed (paper a)
