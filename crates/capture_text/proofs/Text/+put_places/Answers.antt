-- `capture_text::Text::put_places` meets its contract: the number without its last digit goes first.
use Rattle.std.proofs.Common.{arith, ◌-◌, ◌/◌}
use Rattle.capture_text.proofs.Puts.{places, number_none, number_one, number_more}
use Rattle.capture_text.proofs.Text.+put_places.Goals as goal

pub returns-then-places-eq0 : goal.returns-then-places-eq0
returns-then-places-eq0 t c = number_none _ _ c.if-places-eq0.true

pub returns-then-n-lt10 : goal.returns-then-n-lt10
returns-then-n-lt10 t c = number_one _ _ (omega (arith, c.if-places-eq0.false)) c.if-n-lt10.true c.put_byte.ensures

pub put_byte-requires-2 : goal.put_byte-requires-2
put_byte-requires-2 t c =
    let a = c.args in
    let e = c.put_places.ensures in
    omega (arith, e.past, e.as_long, places (a.places - 1) (a.n / 10))

pub returns : goal.returns
returns t c = number_more _ _ (omega arith) (omega arith) c.put_places.ensures c.put_byte-2.ensures
