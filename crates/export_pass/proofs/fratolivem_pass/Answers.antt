-- What the pass says of the items that are held it says of them all. Assumes nothing.
use Rattle.std.proofs.Common.{rules, ◌≡◌, List, ℕ, ℤ, Float, subst, length}
use Rattle.pass_items.specs.Items.{numbers_of, codes_of}
use Rattle.pass.specs.Laid.{PassLent, pass_lent}
use Rattle.export_pass.specs.Passed.{PassedFromC}
use Rattle.pass.specs.Lent.{lent_of}
use Rattle.export_pass.proofs.Seen.{seen}
use Rattle.export_pass.proofs.fratolivem_pass.Goals as goal

-- the same, list by list
same_lent : {p l s p' l' s' : List Float} {k r w k' r' w' : List ℕ} {f f' : List ℤ} → p ≡ p' → l ≡ l' → k ≡ k' → r ≡ r' → f ≡ f' → w ≡ w' → s ≡ s' → pass_lent p l k r f w s ≡ pass_lent p' l' k' r' f' w' s'
same_lent q1 q2 q3 q4 q5 q6 q7 = cc

pub returns : goal.returns
returns c =
    let a = c.args in
    let xs = a.items.now in
    let before = pass_lent a.placed.now a.lines.now a.counts.now a.rounds.now a.free.now a.work.now a.sums.now in
    let h = rw (c.unpack.ensures.0, c.unpack.ensures.1, c.held-m.ensures) at c.finish.ensures.passed in
    let r = seen a.c xs before c.finish.result (lent_of c.finish.new.lent) _ _ h in
    subst (λ (after : PassLent). PassedFromC a.c (length xs) (numbers_of xs) (codes_of xs) before c.finish.result after)
    (same_lent (search rules) (search rules) (search rules) (search rules) (search rules) (search rules) (search rules)) r
