-- The flexed sizes: the unfrozen cells before i are at theirs, those from i on as they were, and the sum so far is of
-- the violations before i. Assumes nothing.
use mathlib.Core.Path.{◌≡◌, sym, ap, ap₂, ◌∙◌}
use mathlib.Core.Bool.{false, cond}
use Rattle.std.proofs.Common.{rules}
use lib.ListN.{length}
use lib.Ieee.{Float}
use Rattle.grid.specs.Floats.{◌⊖◌}
use Rattle.flex.specs.declared.Item.{Item}
use Rattle.flex.specs.declared.Share.{Share}
use Rattle.flex.specs.Flex.{Cell, clamp, flexed, violation}
use Rattle.flex_table.specs.Table.{item_in}
use Rattle.flex_rounds.specs.Cells.{cell_at}
use Rattle.flex.specs.Steps.{sized}
use Rattle.lists.proofs.Each.{map_each}
use Rattle.flex_table.proofs.Each.{left-none, left_turn, left_pass, put, turned_size}
use Rattle.flex_rounds.proofs.Loop.{rewritten_all}
use Rattle.flex_rounds.proofs.rounds.flex_sizes.Goals as goal

sized-next : (sh : Share) (d : Cell) (x : Float) → d.frozen ≡ false → x ≡ flexed sh d.item
    → put d.item d.frozen x ≡ sized sh d
sized-next sh d x e p =
    ap (put d.item d.frozen) p
    ∙ ap (λ b. put d.item d.frozen (cond b d.target (flexed sh d.item))) (sym e)

violation-is : (sh : Share) (it : Item) (x y : Float) → y ≡ flexed sh it → x ≡ clamp it y → x ⊖ y ≡ violation sh it
unfolding violation
violation-is sh it x y p q = ap₂ (λ a b. a ⊖ b) (q ∙ ap (clamp it) p) p

pub loop-i-init : goal.loop-i-init
loop-i-init c =
    let a = c.args in
    let g = cell_at a.items.now a.frozen.now a.targets.now in
    record {
      turned = search rules;
      sum_is = sym (left-none (λ d. violation a.sh d.item) g);
    }

pub loop-i-preserved-then-frozen-i : goal.loop-i-preserved-then-frozen-i
loop-i-preserved-then-frozen-i c =
    let a = c.args in
    let l = c.loop-i in
    let g = cell_at a.items.now a.frozen.now a.targets.now in
    record {
      turned = search rules;
      sum_is = left_pass (λ d. violation a.sh d.item) g l.i l.sum c.if-frozen-i.true l.invariant.sum_is;
    }

pub loop-i-preserved : goal.loop-i-preserved
loop-i-preserved c =
    let a = c.args in
    let l = c.loop-i in
    let g = cell_at a.items.now a.frozen.now a.targets.now in
    let f = c.flexed_size-size in
    let free = c.if-frozen-i.false in
    record {
      turned =
          turned_size l.invariant.turned c.loop-i-test.true c.requires.room f.result
          (sized-next a.sh (g l.i) f.result free f.ensures);
      sum_is =
          left_turn (λ d. violation a.sh d.item) g l.i l.sum (c.clamped.result ⊖ f.result) free l.invariant.sum_is
          (violation-is a.sh (item_in a.items.now l.i) c.clamped.result f.result f.ensures c.clamped.ensures);
    }

pub returns-clause-rewritten : goal.returns-clause-rewritten
returns-clause-rewritten c =
    let a = c.args in
    rewritten_all (map_each (sized a.sh) (length a.items.now) (cell_at a.items.now a.frozen.now a.targets.now))
    c.loop-i.invariant.turned c.loop-i-test.false
