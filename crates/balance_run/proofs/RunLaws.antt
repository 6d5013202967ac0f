-- From the sums to a run's sizes. Assumes nothing.
use mathlib.Core.Path.{◌≡◌, sym, ap, ◌∙◌}
use mathlib.Core.List.{List, ◌++◌}
use Prim.Native.Nat.{ℕ, ◌-◌}
use native.Mathlib.Omega.{arith}
use lib.ListN.{length, take, replicate}
use lib.Seq.{length-take-le}
use Rattle.std.specs.declared.option.Option.{Option}
use Rattle.balance_sums.specs.declared.Units.{Units}
use lib.Ieee.{Float}
use Rattle.balance_tables.specs.Pixels.{AddOut}
use Rattle.balance_run.specs.Run.{BalanceIn, BalanceOut, RunIn, RunOut}

abbrev pub run_in : (sizes : List Float) (gap : Float) (limit : Option Units) (sums : List Float) → AddOut sizes gap sums → RunIn sizes gap limit → BalanceIn sums gap limit
run_in sizes gap limit sums A I = record { L = I.L; g = I.g; xs = I.xs; sums_are = A.sums_are I.g I.xs I.sizes_are; limit_is = I.limit_is }

pub run_out : (sizes : List Float) (gap : Float) (limit : Option Units) (sums : List Float) (minimum r : ℕ) (counts counts' : List ℕ) → AddOut sizes gap sums
    → length sums ≡ length sizes → length counts ≡ length sizes → counts' ≡ take r counts ++ replicate (length sizes - r) 0
    → BalanceOut sums gap limit minimum r counts → RunOut sizes gap limit minimum r counts'
run_out sizes gap limit sums minimum r counts counts' A s n e O =
    let l : length (take r counts) ≡ r = length-take-le r counts (omega (arith, O.few)) in
    record {
      division = take r counts;
      balanced = λ I. O.balanced (run_in sizes gap limit sums A I);
      lines = sym l;
      counts_are = e ∙ ap (λ (k : ℕ). take r counts ++ replicate k 0) (let q : length sizes - r ≡ length sizes - length (take r counts) = omega arith in q);
    }
