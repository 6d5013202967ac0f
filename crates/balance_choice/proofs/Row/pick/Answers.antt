-- `balance_choice::Row::pick` meets its contract: by whether an end that no zero item follows is left (`pick_some`, `pick-none` of Steps.antt).
use Rattle.balance_choice.proofs.Steps.{pick-none, pick_some}
use Rattle.balance_choice.proofs.Row.pick.Goals as goal

pub returns-then-first-stop : goal.returns-then-first-stop
returns-then-first-stop c =
    let st = c.requires in
    pick_some st.0 st.1 (rw c.max-from.ensures at c.skip_zeros-first.ensures) c.min-stop.ensures c.min-far.ensures
    (rw st.2 at c.least-near.ensures) (rw st.2 at c.choose-end.ensures)

pub returns-else-first-stop : goal.returns-else-first-stop
returns-else-first-stop c =
    let st = c.requires in
    pick-none st.0 st.1 (rw c.max-from.ensures at c.skip_zeros-first.ensures) c.min-stop.ensures c.min-far.ensures c.if-first-stop.false
