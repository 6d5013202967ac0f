-- The lines' sizes by their items, and then the lines along the axis. Assumes nothing.
use mathlib.Core.Path.{◌≡◌, sym, ap, ◌∙◌}
use native.Mathlib.Nat.{le_trans, le_of_eq}
use lib.ListN.{length, take}
use Rattle.pass_container.specs.Columns.{cross_items}
use Rattle.pass_container.specs.Container.{cross_axis}
use Rattle.pass_cross.proofs.CrossLaws.{aligned_as, asked_are, front_long}
use Rattle.pass_cross.proofs.align_sized.Goals as goal
use Rattle.pass_cross.proofs.align_sized.Goals.{After-size_lines}

-- the lines' sizes: as long as the list of counts
asked-long : (c : After-size_lines) → let a = c.args in length (take (length a.counts.now) c.size_lines.new.sizes) ≡ length a.counts.now
asked-long c =
    front_long (length c.args.counts.now) c.size_lines.new.sizes (le_trans {m = c.args.items.count} c.requires.0.few (le_trans {m = 1024} c.requires.0.listed.few (le_of_eq (sym c.size_lines.auto.sizes))))

pub slice_bounds-align_lines-end : goal.slice_bounds-align_lines-end
slice_bounds-align_lines-end c = sym (asked-long (goal.at.slice_bounds-align_lines-end c).After-size_lines)

pub align_lines-requires : goal.align_lines-requires
align_lines-requires c = let k = le_trans {m = length c.args.counts.now} (le_of_eq (asked-long (goal.at.align_lines-requires c).After-size_lines)) c.requires.0.few in
    (le_trans {m = c.args.items.count} k c.requires.1, le_trans {m = c.args.items.count} k c.requires.2, le_trans {m = c.args.items.count} k c.requires.0.listed.few)

pub returns : goal.returns
returns c = let a = c.args in
    let l = cross_items a.items.count a.items.numbers.now a.items.codes.now in
    aligned_as c.cross_axis.ensures c.content_of.ensures (ap (take (length a.counts.now)) c.size_lines.ensures ∙ asked_are (cross_axis a.c) a.counts.now l _) c.align_lines.ensures
