-- All items stored are `numbers_of` and `codes_of` (Laid.antt). Assumes nothing.
use Rattle.std.proofs.Common.{◌≡◌, ◌<◌, ℕ, sym, ap, ◌∙◌, arith, length-take-le}
use lib.Seq.{get_or-take}
use Rattle.pass_items.specs.Parts.{numbers_in, codes_in}
use Rattle.pass_items.proofs.Columns.{laid_next}
use Rattle.pass_items.proofs.Laid.{blank, numbers_laid, codes_laid, all_numbers, all_codes}
use Rattle.pass_items.proofs.unpack.Goals as goal

pub loop-i-preserved : goal.loop-i-preserved
loop-i-preserved c =
    let a = c.args in
    let l = c.loop-i in
    let h : l.i < a.m = c.loop-i-test.true in
    let e = sym (get_or-take a.m a.items.now l.i blank h) in (
      laid_next a.m a.items.now numbers_in blank a.nums.now l.i _ _ _ h l.invariant.0 (c.numbers.ensures ∙ ap numbers_in e) c.put_fields.ensures,
      laid_next a.m a.items.now codes_in blank a.codes.now l.i _ _ _ h l.invariant.1 (c.codes.ensures ∙ ap codes_in e) c.put_fields-in-loop-i.ensures,
    )

pub returns : goal.returns
returns c = let s = c.args in
    let w = c.loop-i.invariant in
    let e : c.loop-i.i ≡ s.m = omega (arith, length-take-le s.m s.items.now c.requires.0) in (
      w.0 ∙ ap (λ (j : ℕ). numbers_laid s.m s.items.now s.nums.now j) e ∙ all_numbers s.m s.items.now s.nums.now c.requires.0 c.requires.1.0,
      w.1 ∙ ap (λ (j : ℕ). codes_laid s.m s.items.now s.codes.now j) e ∙ all_codes s.m s.items.now s.codes.now c.requires.0 c.requires.1.1,
    )
