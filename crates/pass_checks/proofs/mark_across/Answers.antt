-- The lists are the columns of the cross axis. Assumes nothing.
use Rattle.std.proofs.Common.{ap, ◌∙◌, arith}
use Rattle.place_size.specs.CrossSize.{count}
use Rattle.pass_checks.proofs.Taken.{number_length, lengths_cross, of_items}
use Rattle.pass_checks.proofs.PassMarks.{lengths_as, across_as}
use Rattle.pass_checks.proofs.mark_across.Goals as goal

pub mark_across-requires : goal.mark_across-requires
mark_across-requires c = let e = c.across.ensures in lengths_as e.cross e.alignment e.auto_size (lengths_cross (of_items c.args.items))

pub returns : goal.returns
returns c = let e = c.across.ensures in across_as e.cross e.alignment e.auto_size (ap count e.cross ∙ number_length (of_items c.args.items) 8 (omega arith)) c.mark_across.ensures
