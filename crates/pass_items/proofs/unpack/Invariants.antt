-- i items are stored (Laid.antt).
use Rattle.std.proofs.Common.{◌≡◌}
use Rattle.pass_items.proofs.Laid.{numbers_laid, codes_laid}
use Rattle.pass_items.proofs.unpack.Given as goal

abbrev pub invariant-loop-i : goal.invariant-loop-i
invariant-loop-i l = (l.nums ≡ numbers_laid l.m l.fn.items l.initial.nums l.i) × (l.codes ≡ codes_laid l.m l.fn.items l.initial.codes l.i)
