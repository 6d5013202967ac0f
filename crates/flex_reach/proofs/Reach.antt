-- Every target of an accepted line is finite and at most 16,777,216 px, so a later step takes it: what the rounds keep, from their start to
-- the round that freezes the last item. Assumes nothing.
use mathlib.Core.Path.{◌≡◌, refl, sym, ◌∙◌, subst}
use mathlib.Core.Logic.{◌⊎◌, inl, inr}
use mathlib.Core.Bool.{Bool, true, false, cond, true≢false}
use mathlib.Core.List.{List, [], ◌∷◌, map}
use Prim.Native.Nat.{ℕ, zero, suc, ◌*◌}
use native.Mathlib.Nat.{suc-ne-zero, mul-le-mul_right}
use lib.Dec.{lit≤}
use lib.ListN.{length}
use lib.Ieee.{Float}
use Rattle.flex.proofs.Falls.{all_map}
use Rattle.grid.specs.Grid.{cleaned}
use Rattle.flex.specs.declared.Item.{Item}
use Rattle.flex.specs.declared.Line.{Line}
use Rattle.flex.specs.declared.Share.{Share}
use Rattle.grid.specs.Floats.{gaps}
use Rattle.flex.specs.Flex.{Cell, left, unfrozen, settle, round, after, begun, line_of, Runs, targets}
use Rattle.flex_reach.specs.Reach.{IsLine, Each, HandedOn}
use Rattle.flex.proofs.Signs.{All}
use Rattle.flex_reach.proofs.Units.{px}
use Rattle.flex_reach.proofs.Clamp.{Upto}
use Rattle.flex_reach.proofs.Space.{Sound, haves, useds}
use Rattle.flex_reach.proofs.Settled.{settled, all_both}
use Rattle.flex_reach.proofs.Turn.{upto_more}
use Rattle.flex_reach.proofs.Step.{Fixed, Kept, Done, step}
use Rattle.flex_reach.proofs.Domain.{handed_on}
use Rattle.flex_reach.proofs.Start.{fixed, start}

-- frozen cells stay as they are
done_map : (sh : Share) (t : Float) (l : List Cell) → All Done l → All Done (map (settle sh t) l)
done_map sh t [] h = tt
done_map sh t (c ∷ l) h = (
  settled sh t c Done (λ e. h.0) (λ e d. absurd (true≢false (sym h.0.frozen ∙ e))) (λ e d. absurd (true≢false (sym h.0.frozen ∙ e))),
  done_map sh t l h.1,
)

done_round : (ln : Line) (l : List Cell) → All Done l → All Done (round ln l)
unfolding round
done_round ln l h = done_map _ _ l h

rounds : (ln : Line) (n have used : ℕ) → Fixed ln n → (cells : List Cell) → Kept ln n have used cells → (k : ℕ) → Kept ln n have used (after ln k cells) ⊎ All Done (after ln k cells)
unfolding after
rounds ln n have used fx cells kp zero = inl kp
rounds ln n have used fx cells kp (suc k) = go (rounds ln n have used fx cells kp k)
  where
    go : Kept ln n have used (after ln k cells) ⊎ All Done (after ln k cells) → Kept ln n have used (round ln (after ln k cells)) ⊎ All Done (round ln (after ln k cells))
    go (inl h) = step ln n have used fx (after ln k cells) h
    go (inr h) = inr (done_round ln (after ln k cells) h)

all_frozen : (l : List Cell) → unfrozen l ≡ 0 → All (λ c. c.frozen ≡ true) l
unfolding left
all_frozen [] e = tt
all_frozen (c ∷ l) e = go c.frozen refl e (λ (d : unfrozen l ≡ 0). all_frozen l d)
  where
    go : (b : Bool) → c.frozen ≡ b → length (cond b (left l) (c ∷ left l)) ≡ 0 → (unfrozen l ≡ 0 → All (λ c. c.frozen ≡ true) l) → All (λ c. c.frozen ≡ true) (c ∷ l)
    go true f e r = (f, r e)
    go false f e r = absurd (suc-ne-zero (length (left l)) e)

-- where the rounds are over, each target is at most 16,777,216 px
ended : (ln : Line) (n have used : ℕ) (l : List Cell) → unfrozen l ≡ 0 → Kept ln n have used l ⊎ All Done l → All (λ c. Upto (16777216 * px) c.target) l
ended ln n have used l e (inr h) = all_map (λ c d. d.target) l h
ended ln n have used l e (inl h) = all_map (λ c (r : Sound ln.growing c × (c.frozen ≡ true)). upto_more (mul-le-mul_right px (lit≤ tt)) (subst (λ (b : Bool). Upto (262144 * px) (cond b c.target c.item.base)) r.1 r.0.size)) l
    (all_both (Sound ln.growing) (λ c. c.frozen ≡ true) l h.sound (all_frozen l e))

handed : (l : List Cell) → All (λ c. Upto (16777216 * px) c.target) l → Each HandedOn (map (λ c. cleaned c.target) l)
handed [] h = tt
handed (c ∷ l) h = (handed_on h.0, handed l h.1)

pub reach : (inner gap : Float) (items : List Item) → IsLine inner gap items → (n : ℕ) → Runs (line_of inner gap items) (begun inner gap items) n → Each HandedOn (targets inner gap items n)
reach inner gap items line n runs =
    let have = haves inner (begun inner gap items) in
    let used = useds (gaps gap (length items)) (begun inner gap items) in
    let cells = after (line_of inner gap items) n (begun inner gap items) in
    handed cells (ended (line_of inner gap items) (length items) have used cells runs.over
    (rounds (line_of inner gap items) (length items) have used (fixed inner gap items line) (begun inner gap items) (start inner gap items line) n))
