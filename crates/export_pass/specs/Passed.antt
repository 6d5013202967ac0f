-- The pass as it crosses to C: its answer, and the call on a slice of items. Assumes nothing.
use Rattle.std.specs.Prelude.{◌≡◌, List, ℕ, Float}
use Rattle.std.specs.Float.{binary32}
use Rattle.std.specs.Float.Ieee.{of_bits}
use Rattle.checks.specs.Domain.{refusal_of}
use Rattle.pass_container.specs.declared.Container.{Container}
use Rattle.std.specs.declared.result.Result.TheVariants.{Ok, Err}
use Rattle.pass.specs.Laid.{PassLent}
use Rattle.pass.specs.Pass.{PassAnswer, PassCall}
use Rattle.export_answer.specs.Crossing.{crossed}
use Rattle.export_answer.specs.declared.CAnswer.{CAnswer}
use Rattle.export_pass.specs.declared.CPassed.{CPassed}

-- "Every refusal returns number, place, 0 lines, 0 rounds"; it has no inner cross size to tell of either
abbrev pub c_refused : CAnswer → CPassed
c_refused r = record {
  number = r.number;
  at = r.at;
  place = r.place;
  lines = 0;
  rounds = 0;
  inner_cross = of_bits binary32 0;
}

abbrev pub c_passed : PassAnswer → CPassed
c_passed (Ok l) = record {
  number = 0;
  at = 0;
  place = 0;
  lines = l.lines;
  rounds = l.rounds;
  inner_cross = l.inner_cross;
}
c_passed (Err why) = c_refused (crossed (refusal_of why))

-- THE CALL: the pass inside it, on so many items, and its answer as it crosses
pub record PassedFromC (c : Container) (n : ℕ) (numbers : List Float) (codes : List ℕ) (before : PassLent) (r : CPassed)
    (after : PassLent) : Type 0 where
  pub inside : PassAnswer
  pub told : r ≡ c_passed inside
  pub passed : PassCall c n numbers codes before inside after
