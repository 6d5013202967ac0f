-- The lists in which a line's items are lent, as the record that the definitions speak of. Assumes nothing.
use Rattle.std.specs.Prelude.{ℕ, slice_range}
use Rattle.place_main.specs.MainAxis.{LineLists, line_lists}
use Rattle.place_main.specs.declared.LineLists as lent

abbrev pub lists_of : lent.LineLists → LineLists
lists_of l = line_lists l.targets.now l.start.now l.end.now l.auto_start.now l.auto_end.now

-- the items from one up to another
abbrev pub part : ℕ → ℕ → LineLists → LineLists
part from to l = line_lists (slice_range l.targets from to) (slice_range l.start from to) (slice_range l.end from to)
    (slice_range l.auto_start from to) (slice_range l.auto_end from to)
