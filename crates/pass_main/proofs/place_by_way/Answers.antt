-- The lists of n cells that a run leaves, stored. Assumes nothing.
use mathlib.Core.Path.{sym}
use lib.ListN.{drop}
use lib.Seq.{length-take-le}
use Rattle.pass_main.proofs.StageLaws.{targets_long, offsets_long, starts_long, ends_long, stage_of, first_cells, first_long, first_inside, four_inside}
use Rattle.pass_main.proofs.place_by_way.Goals as goal

pub slice_bounds-run_main-end-2 : goal.slice_bounds-run_main-end-2
slice_bounds-run_main-end-2 c = sym (length-take-le _ _ c.requires.n_in_bounds.0)

pub slice_bounds-run_main-end-4 : goal.slice_bounds-run_main-end-4
slice_bounds-run_main-end-4 c = sym (length-take-le _ _ c.requires.n_in_bounds.1)

pub slice_bounds-run_main-end-6 : goal.slice_bounds-run_main-end-6
slice_bounds-run_main-end-6 c = sym (length-take-le _ _ c.requires.n_in_bounds.2)

pub slice_bounds-run_main-end-8 : goal.slice_bounds-run_main-end-8
slice_bounds-run_main-end-8 c = sym (length-take-le _ _ c.requires.n_in_bounds.3)

pub run_main-sum-requires : goal.run_main-sum-requires
run_main-sum-requires c = record { main_stage_ready = c.requires.main_stage_ready.0; targets_len = (length-take-le _ _ c.requires.n_in_bounds.0, length-take-le _ _ c.requires.n_in_bounds.1, length-take-le _ _ c.requires.n_in_bounds.2, length-take-le _ _ c.requires.n_in_bounds.3) }

pub slice_bounds-store_four-end : goal.slice_bounds-store_four-end
slice_bounds-store_four-end c = let r = c.run_main-sum in first_inside _ r.new.targets (drop c.args.items.count c.args.targets.now) (targets_long r.ensures)

pub slice_bounds-store_four-end-2 : goal.slice_bounds-store_four-end-2
slice_bounds-store_four-end-2 c = let r = c.run_main-sum in sym (first_long _ r.new.targets (drop c.args.items.count c.args.targets.now) (targets_long r.ensures))

pub slice_bounds-store_four-end-3 : goal.slice_bounds-store_four-end-3
slice_bounds-store_four-end-3 c = let r = c.run_main-sum in first_inside _ r.new.offsets (drop c.args.items.count c.args.offsets.now) (offsets_long r.ensures)

pub slice_bounds-store_four-end-4 : goal.slice_bounds-store_four-end-4
slice_bounds-store_four-end-4 c = let r = c.run_main-sum in sym (first_long _ r.new.offsets (drop c.args.items.count c.args.offsets.now) (offsets_long r.ensures))

pub slice_bounds-store_four-end-5 : goal.slice_bounds-store_four-end-5
slice_bounds-store_four-end-5 c = let r = c.run_main-sum in first_inside _ r.new.starts (drop c.args.items.count c.args.starts.now) (starts_long r.ensures)

pub slice_bounds-store_four-end-6 : goal.slice_bounds-store_four-end-6
slice_bounds-store_four-end-6 c = let r = c.run_main-sum in sym (first_long _ r.new.starts (drop c.args.items.count c.args.starts.now) (starts_long r.ensures))

pub slice_bounds-store_four-end-7 : goal.slice_bounds-store_four-end-7
slice_bounds-store_four-end-7 c = let r = c.run_main-sum in first_inside _ r.new.ends (drop c.args.items.count c.args.ends.now) (ends_long r.ensures)

pub slice_bounds-store_four-end-8 : goal.slice_bounds-store_four-end-8
slice_bounds-store_four-end-8 c = let r = c.run_main-sum in sym (first_long _ r.new.ends (drop c.args.items.count c.args.ends.now) (ends_long r.ensures))

pub store_four-requires : goal.store_four-requires
store_four-requires c = let r = c.run_main-sum in let e = c.run_main-sum.ensures in (four_inside _ _ c.requires.main_stage_ready.0.listed.few c.requires.main_stage_ready.1, first_long _ r.new.targets (drop c.args.items.count c.args.targets.now) (targets_long e), first_long _ r.new.offsets (drop c.args.items.count c.args.offsets.now) (offsets_long e), first_long _ r.new.starts (drop c.args.items.count c.args.starts.now) (starts_long e), first_long _ r.new.ends (drop c.args.items.count c.args.ends.now) (ends_long e))

pub returns : goal.returns
returns c = let r = c.run_main-sum in let e = c.run_main-sum.ensures in stage_of e _ _ _ _ _ _ (first_cells _ r.new.targets (drop c.args.items.count c.args.targets.now) (targets_long e)) (first_cells _ r.new.offsets (drop c.args.items.count c.args.offsets.now) (offsets_long e)) (first_cells _ r.new.starts (drop c.args.items.count c.args.starts.now) (starts_long e)) (first_cells _ r.new.ends (drop c.args.items.count c.args.ends.now) (ends_long e)) c.store_four.ensures
