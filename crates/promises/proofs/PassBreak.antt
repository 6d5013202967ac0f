-- The promises of the lines by wrap mode, filled. Assumes nothing.
use Rattle.pass_break.proofs.Division.{lines_divide, read_back}
use Rattle.pass_break.proofs.Given.{table-units}
use Rattle.promises.specs.PassBreak.{Promised}

pub promised : Promised
promised = record {
  lines_divide = lines_divide;
  read_back = read_back;
  table-units = λ t n gap tabled within. table-units t n gap tabled within;
}
