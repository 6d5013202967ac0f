-- The lists in which a line's items are lent, as the record that the definitions speak of. Assumes nothing.
use Rattle.std.specs.Prelude.{ℕ, slice_range}
use Rattle.place_size.specs.CrossSize.{CrossLists, cross_lists}
use Rattle.place_size.specs.declared.CrossLists as lent

abbrev pub lists_of : lent.CrossLists → CrossLists
lists_of l = cross_lists l.measured.now l.minimum.now l.maximum.now l.capped.now l.edges.now l.start.now l.end.now
    l.auto_start.now l.auto_end.now

-- the items from one up to another
abbrev pub part : ℕ → ℕ → CrossLists → CrossLists
part from to l = cross_lists (slice_range l.measured from to) (slice_range l.minimum from to)
    (slice_range l.maximum from to) (slice_range l.capped from to) (slice_range l.edges from to)
    (slice_range l.start from to) (slice_range l.end from to) (slice_range l.auto_start from to)
    (slice_range l.auto_end from to)
