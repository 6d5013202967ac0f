-- The lists that a pass is lent, as the record that the definitions speak of. Assumes nothing.
use Rattle.std.specs.Prelude.{◌≡◌, length}
use Rattle.pass_checks.specs.declared.LentLengths.{LentLengths}
use Rattle.pass.specs.declared.Lent.{Lent}
use Rattle.pass.specs.Laid.{PassLent, pass_lent}

abbrev pub lent_of : Lent → PassLent
lent_of l = pass_lent l.placed.now l.lines.now l.counts.now l.rounds.now l.free.now l.work.now l.sums.now

abbrev pub lengths_of : PassLent → LentLengths
lengths_of b = record {
  placed = length b.placed;
  lines = length b.lines;
  counts = length b.counts;
  rounds = length b.rounds;
  free = length b.free;
  work = length b.work;
  sums = length b.sums;
}

-- they are the lists that were lent, whatever their cells are now
pub record SameLists (before after : Lent) : Type 0 where
  pub placed : after.placed.ghost_name ≡ before.placed.ghost_name
  pub lines : after.lines.ghost_name ≡ before.lines.ghost_name
  pub counts : after.counts.ghost_name ≡ before.counts.ghost_name
  pub rounds : after.rounds.ghost_name ≡ before.rounds.ghost_name
  pub free : after.free.ghost_name ≡ before.free.ghost_name
  pub work : after.work.ghost_name ≡ before.work.ghost_name
  pub sums : after.sums.ghost_name ≡ before.sums.ghost_name
