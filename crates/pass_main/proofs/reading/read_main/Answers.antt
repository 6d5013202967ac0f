-- The lists are the columns of the main axis. Assumes nothing.
use Rattle.std.proofs.Common.{◌≡◌, ℕ, sym, ap, ◌∙◌, subst, arith}
use Rattle.flex.specs.Items.{Lists, lists_of, count}
use Rattle.flex.specs.Accepted.{Even}
use Rattle.flex_table.specs.Table.{Wide, Held, Kept}
use Rattle.pass_checks.proofs.Taken.{number_length, even_main, of_items}
use Rattle.pass_main.proofs.reading.read_main.Goals as goal
use Rattle.pass_main.proofs.reading.read_main.Goals.{After-main}

many : (c : After-main) → count (lists_of c.main.result) ≡ c.args.items.count
many c = ap count c.main.ensures ∙ number_length (of_items c.args.items) 0 (omega arith)

pub read_items-requires : goal.read_items-requires
read_items-requires c =
    (subst Even (sym c.main.ensures) (even_main (of_items c.args.items)), subst (Wide c.args.table.now) (sym (many (goal.at.read_items-requires c).After-main)) c.requires)

pub returns : goal.returns
returns c =
    let r = c.read_items in
    record {
      held = subst (λ (l : Lists). Held l r.new.table) c.main.ensures r.ensures.held;
      kept = subst (λ (k : ℕ). Kept k c.args.table.now r.new.table) (many (goal.at.returns c).After-main) r.ensures.kept;
    }
