-- The promises of flexing a line, filled. Assumes nothing.
use Rattle.flex.proofs.InOrder.{in_order}
use Rattle.flex.proofs.Determined.{some_answer}
use Rattle.flex.proofs.Sign.{overfull}
use Rattle.promises.specs.Flex.{Promised}

pub promised : Promised
promised = record {
  some_answer = some_answer;
  overfull = overfull;
  in_order = in_order;
}
