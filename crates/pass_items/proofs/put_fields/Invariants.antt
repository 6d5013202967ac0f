-- So many fields are stored, and the next one's place is in the next column.
use Rattle.std.proofs.Common.{◌≡◌, ◌+◌, ◌*◌, take}
use Rattle.pass_items.specs.Parts.{stored}
use Rattle.pass_items.proofs.put_fields.Given as goal

abbrev pub invariant-loop-field : goal.invariant-loop-field
invariant-loop-field g l = (l.at ≡ l.field-index * l.m + l.i) × (l.cells ≡ stored l.m l.initial.cells l.i (take l.field-index l.fields))
