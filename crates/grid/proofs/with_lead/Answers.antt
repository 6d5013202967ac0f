-- `grid::with_lead` meets its contract. Assumes nothing.
use Rattle.grid.proofs.Fields.{with_lead}
use Rattle.grid.proofs.with_lead.Goals as goal

pub returns : goal.returns
returns c = with_lead c.args.b
