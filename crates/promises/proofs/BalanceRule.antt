-- The promises of balanced breaking's rule, filled. Assumes nothing.
use Rattle.balance_rule.proofs.Unique.{balanced_one}
use Rattle.balance_rule.proofs.Bridge.{none_balanced, balanced_some}
use Rattle.balance_rule.proofs.Ones.{min_content_ones, many_ones, min_as_many}
use Rattle.balance_rule.proofs.Totals.{totals_exact}
use Rattle.promises.specs.BalanceRule.{Promised}

pub promised : Promised
promised = record {
  balanced_one = balanced_one;
  balanced_some = balanced_some;
  none_balanced = none_balanced;
  min_content_ones = min_content_ones;
  many_ones = many_ones;
  min_as_many = min_as_many;
  totals_exact = totals_exact;
}
