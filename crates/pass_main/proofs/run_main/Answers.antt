-- Flexing and the main axis, each asked what the checks show. Assumes nothing.
use Rattle.std.proofs.Common.{◌∙◌}
use Rattle.pass_main.proofs.StageLaws.{flex_asked, flexed_of, main_asked, spaced_of}
use Rattle.pass_main.proofs.run_main.Goals as goal

pub flex_all-sum-requires : goal.flex_all-sum-requires
flex_all-sum-requires c = flex_asked c.requires.main_stage_ready _ _ _ c.clean-inner.ensures c.clean-gap.ensures c.requires.targets_len.0

pub main_by_line-requires : goal.main_by_line-requires
main_by_line-requires c = main_asked c.requires.main_stage_ready _ _ _ _ c.spaced.ensures (c.flex_all-sum.ensures.long ∙ c.requires.targets_len.0) c.requires.targets_len.1 c.requires.targets_len.2 c.requires.targets_len.3

pub returns : goal.returns
returns c =
    let f = c.flex_all-sum in
    let m = c.main_by_line in
    record {
      flexed = flexed_of c.requires.main_stage_ready _ _ _ _ _ _ _ c.clean-inner.ensures c.clean-gap.ensures c.requires.targets_len.0 f.ensures;
      spaced = spaced_of c.args.c _ _ _ _ _ _ _ _ _ _ _ _ _ c.spaced.ensures (f.ensures.long ∙ c.requires.targets_len.0) c.content_of.ensures c.is_reversed.ensures c.requires.targets_len.1 c.requires.targets_len.2 c.requires.targets_len.3 m.ensures;
    }
