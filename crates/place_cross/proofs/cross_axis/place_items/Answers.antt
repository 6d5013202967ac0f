-- `place_cross::cross_axis::place_items` meets its contract: the four lists are written from the front. Assumes nothing.
use Rattle.std.proofs.Common.{refl, ◌∙◌}
use Rattle.place_size.specs.Lists.{lists_of}
use Rattle.place_size.specs.CrossSize.{yes}
use Rattle.place_cross.specs.CrossAxis.{placed_at}
use Rattle.lists.proofs.Each.{written_all}
use Rattle.place_cross.proofs.AcrossLaws.{placed_same, writing_none, writing_turn}
use Rattle.place_cross.proofs.cross_axis.place_items.Goals as goal

pub loop-i-init : goal.loop-i-init
loop-i-init c = record {
  written = writing_none _ _ _ _ _;
  same_cells = record { sizes = refl; starts = refl; ends = refl; offsets = refl };
}

pub loop-i-preserved : goal.loop-i-preserved
loop-i-preserved c =
    let s = c.args in
    let same = c.loop-i.invariant.same_cells in
    record {
      written =
          writing_turn _ _ _ _ _ c.requires.across_room c.loop-i.invariant.written c.loop-i-test.true
          (c.place_item-p.ensures ∙ placed_same s.reversed (yes s.items.auto_size.now c.loop-i.i) c.clean-height.ensures c.item_at.ensures c.self_of.ensures);
      same_cells = record { sizes = same.sizes; starts = same.starts; ends = same.ends; offsets = same.offsets };
    }

pub returns-clause-placed : goal.returns-clause-placed
returns-clause-placed c =
    let s = c.args in
    let p = placed_at s.line s.reversed (lists_of s.items.cross) s.items.alignment.now s.items.auto_size.now in
    let old = s.cells.now in
    let w = c.loop-i.invariant.written in
    record {
      sizes_are = written_all (λ k. (p k).size) old.sizes.now c.loop-i.auto.i-end c.loop-i-test.false w.sizes_are;
      starts_are = written_all (λ k. (p k).start) old.used_start.now c.loop-i.auto.i-end c.loop-i-test.false w.starts_are;
      ends_are = written_all (λ k. (p k).end) old.used_end.now c.loop-i.auto.i-end c.loop-i-test.false w.ends_are;
      offsets_are = written_all (λ k. (p k).offset) old.offsets.now c.loop-i.auto.i-end c.loop-i-test.false w.offsets_are;
    }
