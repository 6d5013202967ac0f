-- `capture_program::main` is safe: each turn leaves the reader room for the turns to come. Assumes nothing.
use Rattle.std.proofs.Common.{sym, subst, ◌+◌, ◌-◌, ◌*◌, arith}
use Rattle.capture_feed.specs.Machine.{ReaderReady}
use Rattle.capture_feed.specs.declared.Reader.{Reader}
use Rattle.capture_feed.proofs.Sound.{ready_less}
use Rattle.capture_feed.proofs.Whole.{started_sound}
use Rattle.capture_program.proofs.Turns.{turn_ready}
use Rattle.capture_program.proofs.main.Goals as goal

pub loop-init : goal.loop-init
loop-init c =
    subst (λ (r : Reader). ReaderReady r (65536 * 140737488355328)) (sym c.start-reader.ensures)
    (record { sound = started_sound; room = omega arith })

pub read_some-requires : goal.read_some-requires
read_some-requires c =
    ready_less 65536 (65536 * (140737488355328 - c.loop.counter)) (omega arith) c.loop.invariant

pub loop-preserved : goal.loop-preserved
loop-preserved c =
    let rest = 65536 * (140737488355328 - (c.loop.counter + 1)) in
    turn_ready _ _ _ _ _ c.read_some.ensures rest
    (ready_less (65536 + rest) (65536 * (140737488355328 - c.loop.counter)) (omega arith) c.loop.invariant)
