-- What checks 1 to 5 show of a pass. Only contracts of parts cite it. Assumes nothing.
use Rattle.std.specs.Prelude.{◌≡◌, List, ℕ, length, Float}
use Rattle.checks.specs.Domain.{shape}
use Rattle.checks.specs.Marks.{SoundInput}
use Rattle.std.specs.declared.result.Result.TheVariants.{Ok}
use Rattle.pass_container.specs.declared.Container.{Container}
use Rattle.pass_container.specs.Container.{break_mode}
use Rattle.pass_checks.specs.Checks.{pass_room, pass_input}
use Rattle.pass.specs.Laid.{PassLent}

-- what checks 1 to 5 show
pub record PassChecked (c : Container) (n : ℕ) (x : List Float) (codes : List ℕ) (b : PassLent) : Type 0 where
  pub room : shape n (pass_room n (break_mode c) (length x) (length codes) (length b.placed) (length b.lines)
      (length b.counts) (length b.rounds) (length b.free) (length b.work) (length b.sums)) ≡ Ok tt
  pub sound : SoundInput (pass_input c n x codes)
