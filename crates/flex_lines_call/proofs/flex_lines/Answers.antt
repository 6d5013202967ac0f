-- The call over many lines: what it answers is what its checks say, in their order. Assumes nothing.
use Rattle.std.proofs.Common.{rules}
use mathlib.Core.Path.{◌≡◌, sym, ap, ◌∙◌}
use mathlib.Core.List.{List}
use Prim.Native.Nat.{ℕ, min}
use lib.ListN.{length}
use lib.IntN.{ℤ}
use lib.Ieee.{Float}
use Rattle.checks.specs.Domain.{Verdict, then}
use Rattle.checks.specs.Marks.{least_mark, judged}
use Rattle.flex.specs.Items.{Lists, lists_of}
use Rattle.flex_checks.specs.Counts.{lines_shape, lines_input}
use Rattle.flex_lines_call.specs.Lines.{room_of}
use Rattle.flex_lines_call.proofs.ManyLines.{shown, answered_refused, answered_passed}
use Rattle.flex_lines_call.proofs.flex_lines.Goals as goal

-- what checks 1 to 5 said, by the room
said : (inner gap : Float) (counts : List ℕ) (ls : Lists) (targets : List Float) (free : List ℤ) (rounds : List ℕ) (m k : ℕ) (v : Verdict) → m ≡ min (length free) (length rounds) → k ≡ min (length targets) m
    → v ≡ then (lines_shape counts ls k) (judged (least_mark (lines_input inner gap counts ls)))
    → then (lines_shape counts ls (room_of targets free rounds)) (judged (least_mark (lines_input inner gap counts ls))) ≡ v
said inner gap counts ls targets free rounds m k v p q e =
    ap (λ (k : ℕ). then (lines_shape counts ls k) (judged (least_mark (lines_input inner gap counts ls))))
    (sym (q ∙ ap (min (length targets)) p)) ∙ sym e

pub invariant_of-lines : goal.invariant_of-lines
invariant_of-lines c =
    let a = c.args in
    let p = shown a.inner a.gap a.counts.now (lists_of a.items) _ _ _
    (said a.inner a.gap a.counts.now (lists_of a.items) _ _ _ _ _ _ c.min.ensures c.min-room.ensures
    c.in_ok-check_lines.ensures) in
    record { even = p.even; sound = p.sound; whole = p.whole; positive = p.positive }

pub flex-requires : goal.flex-requires
flex-requires c =
    let a = c.args in
    (shown a.inner a.gap a.counts.now (lists_of a.items) _ _ _
    (said a.inner a.gap a.counts.now (lists_of a.items) _ _ _ _ _ _ c.min.ensures c.min-room.ensures
    c.in_ok-check_lines.ensures)).roomy

pub returns-in_err-check_lines : goal.returns-in_err-check_lines
returns-in_err-check_lines c =
    let a = c.args in
    answered_refused a.inner a.gap a.counts.now (lists_of a.items) a.targets.now a.free.now a.rounds.now _ _
    (said a.inner a.gap a.counts.now (lists_of a.items) a.targets.now a.free.now a.rounds.now _ _ _ c.min.ensures
    c.min-room.ensures c.in_err-check_lines.ensures)
    (search rules)

pub returns : goal.returns
returns c =
    let a = c.args in
    let f = c.flex in
    answered_passed a.inner a.gap a.counts.now (lists_of a.items) a.targets.now a.free.now a.rounds.now f.result
    f.new.targets f.new.free f.new.rounds
    (said a.inner a.gap a.counts.now (lists_of a.items) a.targets.now a.free.now a.rounds.now _ _ _ c.min.ensures
    c.min-room.ensures c.in_ok-check_lines.ensures)
    f.ensures
