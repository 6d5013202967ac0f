-- `export_pass::finishing::finish` meets its contract: the pass takes the first 14 · m numbers and 8 · m codes, and its answer crosses. Assumes nothing.
use mathlib.Core.Path.{sym}
use Prim.Native.Nat.{◌*◌}
use lib.Seq.{length-take-le}
use Rattle.export_pass.proofs.finishing.finish.Goals as goal

pub slice_bounds-pass-end : goal.slice_bounds-pass-end
slice_bounds-pass-end c = sym (length-take-le (14 * c.args.m) c.args.nums.now c.requires.0)

pub slice_bounds-pass-end-2 : goal.slice_bounds-pass-end-2
slice_bounds-pass-end-2 c = sym (length-take-le (8 * c.args.m) c.args.codes.now c.requires.1)

pub returns-clause-passed : goal.returns-clause-passed
returns-clause-passed c = let called = c.pass in record { inside = called.result; told = c.into.ensures; passed = called.ensures.called }
