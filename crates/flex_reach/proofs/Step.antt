-- What the rounds keep: every frozen target but the last round's is at most 262,144 px, and the line's sizes, hypothetical where not frozen, stay near
-- what the container gives (`Level`), or little is shared out from there on (`Tame`). So the last round's targets are at most 16,777,216 px. Assumes nothing.
use mathlib.Core.Path.{◌≡◌, refl, sym, ap, ap₂, ◌∙◌, subst}
use mathlib.Core.Logic.{◌⊎◌, inl, inr}
use mathlib.Core.Bool.{Bool, true, false, not, cond, true≢false}
use mathlib.Core.List.{List, [], ◌∷◌, map}
use Prim.Native.Nat.{ℕ, suc, ◌+◌, ◌*◌, ◌≤◌, ◌<◌, zero-le}
use native.Mathlib.Nat.{le_refl, le_trans, le_of_eq, lt_of_le_of_lt, mul-le-mul_right}
use native.Mathlib.Omega.{arith}
use lib.Dec.{lit≤}
use lib.ListN.{length}
use lib.Ieee.{Float}
use Rattle.flex.proofs.Falls.{all_map}
use Rattle.flex.specs.declared.Item.{Item}
use Rattle.flex.specs.declared.Line.{Line}
use Rattle.flex.specs.declared.Share.{Share}
use Rattle.grid.specs.Floats.{gaps, nought}
use Rattle.flex.specs.Flex.{Cell, left, total, factor, weight, remaining, share, flexed, violation, freezes, settle, round}
use Rattle.flex.proofs.Signs.{All}
use Rattle.flex_reach.proofs.Units.{px, Num, far, held_num, one_side}
use Rattle.flex_reach.proofs.Times.{product, product_mono, product_within, product_zero}
use Rattle.flex_reach.proofs.Clamp.{Upto, bounded, bounded-under}
use Rattle.flex_reach.proofs.Totals.{count, count_map, count_same, count_long, count-one, Above}
use Rattle.flex_reach.proofs.Turn.{Fine, far_off, part, part_most, Shares}
use Rattle.flex_reach.proofs.Parts.{parts}
use Rattle.flex_reach.proofs.Space.{margin, Sound, Room, room, haves, useds, sizes}
use Rattle.flex_reach.proofs.Limits.{Limited, limited_num, all_left, left_short, factors, weights, weights_big}
use Rattle.flex_reach.proofs.Settled.{all_both, left_all, Sign, up, down, level, sign, sized, settled, TurnOf, turns, violations, conserved}
use Rattle.flex_reach.proofs.Levels.{ground, final, based, sizes_based, based_grows, based_shrinks, Up, sounds_up, sounds_down, grounds_up, grounds_down, out_ground, out_final, out_each, back_ground, back_final, back_each, back_based, out_conserved, back_conserved}
use Rattle.flex_reach.proofs.Fewer.{fewer_factors}

-- ---- what is kept

-- the initial free space is nearly on the side that the line flexes to
abbrev pub Lean : Bool → Float → Type 0
Lean true i = far true i ≤ far false i + 2228224 * px
Lean false i = far false i ≤ far true i + 2228224 * px

-- what holds of the line in every round
pub record Fixed (ln : Line) (n : ℕ) : Type 0 where
  pub few : n ≤ 1024
  pub inner : Upto (262144 * px) ln.inner
  pub gaps_are : Upto (262145 * px) (gaps ln.gap n)
  pub initial : Num ln.initial
  pub initial_most : far false ln.initial + far true ln.initial ≤ 2147483648 * px
  pub lean : Lean ln.growing ln.initial

-- the sizes against what is there for them: not far below; where the line grows, not far above either
abbrev pub Level : Bool → ℕ → ℕ → ℕ → Type 0
Level true have used grounds = (have ≤ used + grounds + 2097152 * px) × (used + grounds ≤ have + 2097152 * px)
Level false have used grounds = have ≤ used + grounds + 2097152 * px

abbrev factor_sum : Line → List Cell → ℕ
factor_sum ln cells = far false (total (λ c. factor ln.growing c.item) (left cells))

-- the factors sum below 1, and leave little of the initial free space
pub record Tame (ln : Line) (cells : List Cell) : Type 0 where
  pub below : far false (total (λ c. factor ln.growing c.item) (left cells)) < px
  pub little : product (far false ln.initial) (far false (total (λ c. factor ln.growing c.item) (left cells))) + product (far true ln.initial) (far false (total (λ c. factor ln.growing c.item) (left cells))) ≤ 4194304 * px

pub record Kept (ln : Line) (n have used : ℕ) (cells : List Cell) : Type 0 where
  pub long : length cells ≡ n
  pub have_is : haves ln.inner cells ≡ have
  pub used_is : useds (gaps ln.gap n) cells ≡ used
  pub sound : All (Sound ln.growing) cells
  pub state : Tame ln cells ⊎ Level ln.growing have used (count ground cells)

pub record Done (c : Cell) : Type 0 where
  pub frozen : c.frozen ≡ true
  pub target : Upto (16777216 * px) c.target

-- ---- a round

settle_item : (sh : Share) (t : Float) (c : Cell) → (settle sh t c).item ≡ c.item
settle_item sh t c = settled sh t c (λ d. d.item ≡ c.item) (λ e. refl) (λ e d. refl) (λ e d. refl)

items_same : (sh : Share) (t : Float) (q : Item → ℕ) (l : List Cell) → count (λ c. q c.item) (map (settle sh t) l) ≡ count (λ c. q c.item) l
items_same sh t q l = count_map (λ c. q c.item) (settle sh t) l ∙ count_same (λ c. q (settle sh t c).item) (λ c. q c.item) l (λ c. ap q (settle_item sh t c))

long_map : (sh : Share) (t : Float) (l : List Cell) → length (map (settle sh t) l) ≡ length l
long_map sh t [] = refl
long_map sh t (c ∷ l) = ap suc (long_map sh t l)

module _ (ln : Line) (n have used : ℕ) (fx : Fixed ln n) (cells : List Cell) (kp : Kept ln n have used cells) where
  short : length cells ≤ 1024
  short = le_trans (le_of_eq kp.long) fx.few

  space : Room have used (count based cells) (remaining ln.inner ln.gap cells)
  space = subst (λ (k : ℕ). Room have used k (remaining ln.inner ln.gap cells)) (sizes_based cells)
      (subst (λ (k : ℕ). Room have k (sizes cells) (remaining ln.inner ln.gap cells)) (ap (λ (k : ℕ). useds (gaps ln.gap k) cells) kp.long ∙ kp.used_is)
      (subst (λ (k : ℕ). Room k (useds (gaps ln.gap (length cells)) cells) (sizes cells) (remaining ln.inner ln.gap cells)) kp.have_is
      (room ln.growing ln.inner (gaps ln.gap (length cells)) cells fx.inner (subst (λ (k : ℕ). Upto (262145 * px) (gaps ln.gap k)) (sym kp.long) fx.gaps_are) kp.sound short)))

  limit : Limited ln.initial (total (λ c. factor ln.growing c.item) (left cells)) (remaining ln.inner ln.gap cells) (share ln cells).free
  unfolding share
  limit =
      let f = factors ln.growing cells kp.sound short in
      limited_num fx.initial (le_trans fx.initial_most (far_off 2147483648 (lit≤ tt))) f.num f.none space.num

  weighed : Above (65536 * px) weights_big (λ c. weight ln.growing c.item) nought (left cells) (share ln cells).weights
  unfolding share
  weighed = weights ln.growing cells kp.sound short

  free_most : far false (share ln cells).free + far true (share ln cells).free ≤ 1073741824 * px
  free_most = le_trans limit.under (go (one_side space.num true) (space.most false) (space.most true))
    where
      go : (far true (remaining ln.inner ln.gap cells) ≡ 0) ⊎ (far false (remaining ln.inner ln.gap cells) ≡ 0) → far false (remaining ln.inner ln.gap cells) ≤ 1073741824 * px → far true (remaining ln.inner ln.gap cells) ≤ 1073741824 * px → far false (remaining ln.inner ln.gap cells) + far true (remaining ln.inner ln.gap cells) ≤ 1073741824 * px
      go (inl e) h k = omega arith
      go (inr e) h k = omega arith

  by_side : (g : Bool) (x : Float) (k : ℕ) → far false x + far true x ≤ k → far g x ≤ k
  by_side false x k l = omega arith
  by_side true x k l = omega arith

  shares : (g : Bool) → far (not g) (share ln cells).free ≡ 0 → Shares g (share ln cells)
  shares g e = record {
    free = limit.num;
    other = e;
    most = by_side g (share ln cells).free (1073741824 * px) free_most;
    weights = weighed.num;
    weights_above = weighed.none;
  }

  each-weight : All (λ c. far false (weight (share ln cells).growing c.item) ≤ far false (share ln cells).weights) (left cells)
  unfolding share
  each-weight = weighed.each

  weights_near : 16777216 * count (λ c. far false (weight (share ln cells).growing c.item)) (left cells) ≤ 16777216 * far false (share ln cells).weights + length (left cells) * far false (share ln cells).weights
  unfolding share
  weights_near = go (far false nought) (count (λ c. far false (weight ln.growing c.item)) (left cells)) (far false W) (count (λ c. far false W) (left cells)) (length (left cells) * far false W) weighed.nearly (count_long (far false W) (left cells))
    where
      W : Float
      W = total (λ c. weight ln.growing c.item) (left cells)

      go : (o s w c m : ℕ) → 16777216 * (o + s) ≤ 16777216 * w + c → c ≡ m → 16777216 * s ≤ 16777216 * w + m
      go o s w c m h e = omega arith

  abbrev sh : Share
  sh = share ln cells

  abbrev t : Float
  t = total (λ c. violation (share ln cells) c.item) (left cells)

  abbrev cells' : List Cell
  cells' = map (settle (share ln cells) (total (λ c. violation (share ln cells) c.item) (left cells))) cells

  open_ok : All (λ c. Sound ln.growing c × (c.frozen ≡ false)) (left cells)
  open_ok = all_left (Sound ln.growing) cells kp.sound

  left_few : length (left cells) ≤ 1024
  left_few = le_trans (left_short cells) short

  -- ---- what the round gives

  kept : All (Sound ln.growing) cells' → Tame ln cells' ⊎ Level ln.growing have used (count ground cells') → Kept ln n have used cells'
  kept ok s = record {
    long = long_map sh t cells ∙ kp.long;
    have_is = ap (λ (k : ℕ). far false ln.inner + k) (items_same sh t (λ it. far true (margin it)) cells) ∙ kp.have_is;
    used_is = ap (λ (k : ℕ). far false (gaps ln.gap n) + k) (items_same sh t (λ it. far false (margin it)) cells) ∙ kp.used_is;
    sound = ok;
    state = s;
  }

  tamer : Tame ln cells → Tame ln cells'
  tamer m =
      let le = fewer_factors ln.growing sh t cells kp.sound short in
      record {
        below = lt_of_le_of_lt le m.below;
        little = le_trans (add (product_mono (far false ln.initial) (factor_sum ln cells') (far false ln.initial) (factor_sum ln cells) (le_refl (far false ln.initial)) le)
            (product_mono (far true ln.initial) (factor_sum ln cells') (far true ln.initial) (factor_sum ln cells) (le_refl (far true ln.initial)) le)) m.little;
      }
    where
      add : {a b c d : ℕ} → a ≤ b → c ≤ d → a + c ≤ b + d
      add h k = native.Mathlib.Nat.add-le-add h k

  done : ((v : Float) → freezes t v ≡ true) → All (λ c. c.frozen ≡ false → Upto (16777216 * px) (sized sh c.item)) cells → All Done cells'
  done f h = go cells kp.sound h
    where
      wide : {x : Float} → Upto (262144 * px) x → Upto (16777216 * px) x
      wide u = record { num = u.num; above = u.above; most = le_trans u.most (mul-le-mul_right px (lit≤ tt)) }

      go : (l : List Cell) → All (Sound ln.growing) l → All (λ c. c.frozen ≡ false → Upto (16777216 * px) (sized sh c.item)) l → All Done (map (settle sh t) l)
      go [] ok h = tt
      go (c ∷ l) ok h = (
        settled sh t c Done
            (λ e. record { frozen = e; target = wide (subst (λ (b : Bool). Upto (262144 * px) (cond b c.target c.item.base)) e ok.0.size) })
            (λ e d. record { frozen = refl; target = h.0 e })
            (λ e d. absurd (true≢false (sym (f (violation sh c.item)) ∙ d))),
        go l ok.1 h.1,
      )

  -- ---- the side of the free space

  module _ (g : Bool) (e : far (not g) (share ln cells).free ≡ 0) where
    open_turns : All (TurnOf g sh) (left cells)
    open_turns = turns g ln.growing sh (shares g e) (left cells) open_ok each-weight

    all_turns : All (λ c. c.frozen ≡ false → TurnOf g sh c) cells
    all_turns = left_all (TurnOf g sh) cells open_turns

    parts_near : 4096 * count (λ c. part g sh c.item) (left cells) ≤ 4097 * far g sh.free + 4096 * px
    parts_near = parts g sh (shares g e) (left cells) left_few weights_near

    parts_most : count (λ c. part g sh c.item) (left cells) ≤ far g sh.free + 262145 * px
    parts_most = go (count (λ c. part g sh c.item) (left cells)) (far g sh.free) px parts_near (shares g e).most
      where
        go : (s f p : ℕ) → 4096 * s ≤ 4097 * f + 4096 * p → f ≤ 1073741824 * p → s ≤ f + 262145 * p
        go s f p h k = omega arith

    total_num : Num t
    total_num = (violations g sh (shares g e) (left cells) left_few open_turns parts_near).num

    keeps : far g t ≡ 0
        → count (λ c. far g (sized sh c.item)) (left cells) + count (λ c. far (not g) c.item.base) (left cells) ≤ count (λ c. far (not g) (sized sh c.item)) (left cells) + count (λ c. far g c.item.base) (left cells) + count (λ c. part g sh c.item) (left cells) + 917504 * px
    keeps z = conserved g sh (shares g e) (left cells) left_few open_turns parts_near z

    each_part : All (λ c. part g sh c.item ≤ far g sh.free) (left cells)
    each_part = all_map (λ c (r : (Sound ln.growing c × (c.frozen ≡ false)) × (far false (weight sh.growing c.item) ≤ far false sh.weights)). part_most g sh (shares g e) c.item r.0.0.item r.1) (left cells)
        (all_both (λ c. Sound ln.growing c × (c.frozen ≡ false)) (λ c. far false (weight sh.growing c.item) ≤ far false sh.weights) (left cells) open_ok each-weight)

    -- little is shared out: no target is large
    few_shared : far g sh.free ≤ 4194304 * px → All (λ c. c.frozen ≡ false → Upto (16777216 * px) (sized sh c.item)) cells
    few_shared h = left_all (λ c. Upto (16777216 * px) (sized sh c.item)) cells
        (all_map (λ c (r : (Sound ln.growing c × (c.frozen ≡ false)) × (TurnOf g sh c × (part g sh c.item ≤ far g sh.free))). one c r.0.0.item r.1.0 r.1.1) (left cells)
        (all_both (λ c. Sound ln.growing c × (c.frozen ≡ false)) (λ c. TurnOf g sh c × (part g sh c.item ≤ far g sh.free)) (left cells) open_ok
        (all_both (TurnOf g sh) (λ c. part g sh c.item ≤ far g sh.free) (left cells) open_turns each_part)))
      where
        most : (z x x' b d f p : ℕ) → z ≤ x + 262144 * p → x + x' ≤ b + d + 128 * p → b ≤ 262144 * p → d ≤ f → f ≤ 4194304 * p → z ≤ 16777216 * p
        most z x x' b d f p h i j k l = omega arith

        one : (c : Cell) → Fine c.item → TurnOf g sh c → part g sh c.item ≤ far g sh.free → Upto (16777216 * px) (sized sh c.item)
        one c f r d = record {
          num = r.clamped;
          above = r.clamped_above;
          most = most (far false (sized sh c.item)) (far false (flexed sh c.item)) (far true (flexed sh c.item)) (far false c.item.base) (part g sh c.item) (far g sh.free) px
              (le_trans (le_of_eq r.clamped_is) (bounded-under f.sizes (far false (flexed sh c.item)))) r.moved.whole f.sizes.base.most d h;
        }

    -- no target is more than the hypothetical size by more than k
    near_ground : (k : ℕ) → k ≤ 8388608 → All (λ c. final sh c ≤ ground c + k * px) cells → All (λ c. c.frozen ≡ false → Upto (16777216 * px) (sized sh c.item)) cells
    near_ground k l h =
        all_map {Q = λ c. c.frozen ≡ false → Upto (16777216 * px) (sized sh c.item)} (λ c (r : (Sound ln.growing c × (c.frozen ≡ false → TurnOf g sh c)) × (final sh c ≤ ground c + k * px)) (z : c.frozen ≡ false).
        one c r.0.0.item (r.0.1 z) (subst (λ (b : Bool). cond b (far false c.target) (far false (sized sh c.item)) ≤ cond b (far false c.target) (bounded c.item (far false c.item.base)) + k * px) z r.1)) cells
        (all_both (λ c. Sound ln.growing c × (c.frozen ≡ false → TurnOf g sh c)) (λ c. final sh c ≤ ground c + k * px) cells
        (all_both (Sound ln.growing) (λ c. c.frozen ≡ false → TurnOf g sh c) cells kp.sound all_turns) h)
      where
        most : (z b c k p : ℕ) → z ≤ c + k * p → c ≤ b + 262144 * p → b ≤ 262144 * p → k * p ≤ 8388608 * p → z ≤ 16777216 * p
        most z b c k p h i j l = omega arith

        one : (c : Cell) → Fine c.item → TurnOf g sh c → far false (sized sh c.item) ≤ bounded c.item (far false c.item.base) + k * px → Upto (16777216 * px) (sized sh c.item)
        one c f r h = record {
          num = r.clamped;
          above = r.clamped_above;
          most = most (far false (sized sh c.item)) (far false c.item.base) (bounded c.item (far false c.item.base)) k px h (bounded-under f.sizes (far false c.item.base)) f.sizes.base.most (mul-le-mul_right px l);
        }

    -- a round of a line that is tame
    tame_round : Tame ln cells → Kept ln n have used cells' ⊎ All Done cells'
    tame_round m = go (sign total_num)
      where
        go : Sign t → Kept ln n have used cells' ⊎ All Done cells'
        go (up a f) = inl (kept (sounds_up ln.growing sh t cells kp.sound g all_turns f) (inl (tamer m)))
        go (down a b f) = inl (kept (sounds_down ln.growing sh t cells kp.sound g all_turns f) (inl (tamer m)))
        go (level a b f) = inr (done f (few_shared (le_trans (by_side g sh.free (far false sh.free + far true sh.free) (le_refl (far false sh.free + far true sh.free))) (le_trans (limit.under-part m.below) m.little))))

  -- ---- where the line is level

  abbrev r : Float
  r = remaining ln.inner ln.gap cells

  abbrev Outcome : Type 0
  Outcome = Kept ln n have used cells' ⊎ All Done cells'

  -- the free space is shared out of what remains, or the line is tame
  tame_by : (far false (total (λ c. factor ln.growing c.item) (left cells)) < px) → ((g : Bool) → far g sh.free ≡ product (far g ln.initial) (far false (total (λ c. factor ln.growing c.item) (left cells)))) → far false sh.free + far true sh.free ≤ 4194304 * px → Tame ln cells
  tame_by b h l = record { below = b; little = le_trans (le_of_eq (sym (ap₂ (λ (x y : ℕ). x + y) (h false) (h true)))) l }

  -- the initial part is little on the side that the line does not flex to
  little_part : (far false (total (λ c. factor ln.growing c.item) (left cells)) < px) → (g : Bool) → far g ln.initial ≤ far (not g) ln.initial + 2228224 * px → product (far g ln.initial) (far false (total (λ c. factor ln.growing c.item) (left cells))) ≤ 2228224 * px
  little_part b g h = go (one_side fx.initial g)
    where
      less : (a b : ℕ) → a < b → a ≤ b
      less a b h = omega arith

      go : (far g ln.initial ≡ 0) ⊎ (far (not g) ln.initial ≡ 0) → product (far g ln.initial) (far false (total (λ c. factor ln.growing c.item) (left cells))) ≤ 2228224 * px
      go (inl z) = le_trans (le_of_eq (ap (λ (k : ℕ). product k (far false (total (λ c. factor ln.growing c.item) (left cells)))) z ∙ product_zero (far false (total (λ c. factor ln.growing c.item) (left cells))))) zero-le
      go (inr z) = le_trans (product_within (far g ln.initial) (far false (total (λ c. factor ln.growing c.item) (left cells))) (held_num fx.initial g) (less (far false (total (λ c. factor ln.growing c.item) (left cells))) px b)) (omega arith)

  abbrev FromInitial : Type 0
  FromInitial = (far false (total (λ c. factor ln.growing c.item) (left cells)) < px) × ((g : Bool) → far g sh.free ≡ product (far g ln.initial) (far false (total (λ c. factor ln.growing c.item) (left cells))))

  -- the free space is of the remaining one's side and no larger, or it comes of the initial one and the remaining is on the other side
  split : (g : Bool) → far (not g) (share ln cells).free ≡ 0 → ((far g sh.free ≤ far g r) × (far (not g) r ≡ 0)) ⊎ (FromInitial × (far g sh.free ≤ far (not g) r) × (far g r ≡ 0))
  split g e = go limit.which (one_side space.num g)
    where
      whole : (g : Bool) (x : Float) → far g x + far (not g) x ≡ far false x + far true x
      whole false x = refl
      whole true x = swap (far true x) (far false x)
        where
          swap : (a b : ℕ) → a + b ≡ b + a
          swap a b = omega arith

      less : far g sh.free + far (not g) sh.free ≤ far g r + far (not g) r
      less = le_trans (le_of_eq (whole g sh.free)) (le_trans limit.under (le_of_eq (sym (whole g r))))

      first : (a b c d : ℕ) → a + b ≤ c + d → d ≡ 0 → a ≤ c
      first a b c d h e = omega arith

      other : (a b c d : ℕ) → a + b ≤ c + d → c ≡ 0 → a ≤ d
      other a b c d h e = omega arith

      go : (sh.free ≡ r) ⊎ FromInitial → (far g r ≡ 0) ⊎ (far (not g) r ≡ 0) → ((far g sh.free ≤ far g r) × (far (not g) r ≡ 0)) ⊎ (FromInitial × (far g sh.free ≤ far (not g) r) × (far g r ≡ 0))
      go (inl z) o = inl (le_of_eq (ap (λ (x : Float). far g x) z), sym (ap (λ (x : Float). far (not g) x) z) ∙ e)
      go (inr i) (inl z) = inr (i, other (far g sh.free) (far (not g) sh.free) (far g r) (far (not g) r) less z, z)
      go (inr i) (inr z) = inl (first (far g sh.free) (far (not g) sh.free) (far g r) (far (not g) r) less z, z)

  -- growing, and there is space to share out
  out_grow : ln.growing ≡ true → (e : far true (share ln cells).free ≡ 0) → Level true have used (count ground cells) → Outcome
  out_grow γ e lv = go (split false e)
    where
      BT : count based cells ≤ count ground cells
      BT = based_grows cells (subst (λ (b : Bool). All (Sound b) cells) γ kp.sound)

      lifted : Level true have used (count ground cells') → Tame ln cells' ⊎ Level ln.growing have used (count ground cells')
      lifted l = inr (subst (λ (b : Bool). Level b have used (count ground cells')) (sym γ) l)

      slight : (f f' ρ ρ' A B b t p : ℕ) → ρ' + A ≤ ρ + (B + b) + 131072 * p → b ≤ t → B + t ≤ A + 2097152 * p → ρ ≡ 0 → f ≤ ρ' → f' ≡ 0 → f + f' ≤ 4194304 * p
      slight f f' ρ ρ' A B b t p h i j k l m = omega arith

      same : (A B t t' p : ℕ) → t' ≤ t → t ≤ t' → (A ≤ B + t + 2097152 * p) × (B + t ≤ A + 2097152 * p) → (A ≤ B + t' + 2097152 * p) × (B + t' ≤ A + 2097152 * p)
      same A B t t' p h k l = omega arith

      grown : (A B b t t' c s f ρ ρ' p : ℕ) → t ≤ t' → t' ≤ c → c ≤ b + (s + 917504 * p) → s ≤ f + 262145 * p → f ≤ ρ → ρ' ≡ 0 → ρ + (B + b) ≤ ρ' + A + 131072 * p
          → (A ≤ B + t + 2097152 * p) × (B + t ≤ A + 2097152 * p) → (A ≤ B + t' + 2097152 * p) × (B + t' ≤ A + 2097152 * p)
      grown A B b t t' c s f ρ ρ' p h i j k l m n o = omega arith

      ends : (A B b t c s f ρ ρ' p : ℕ) → c ≤ b + (s + 917504 * p) → s ≤ f + 262145 * p → f ≤ ρ → ρ' ≡ 0 → ρ + (B + b) ≤ ρ' + A + 131072 * p → A ≤ B + t + 2097152 * p → c ≤ t + 3407873 * p
      ends A B b t c s f ρ ρ' p h i j k l m = omega arith

      one : (x y c t k : ℕ) → x + t ≤ y + c → c ≤ t + k → x ≤ y + k
      one x y c t k h i = omega arith

      good : far false sh.free ≤ far false r → far true r ≡ 0 → Sign t → Outcome
      good f z (up a u) = inl (kept (sounds_up ln.growing sh t cells kp.sound false (all_turns false e) u)
          (lifted (same have used (count ground cells) (count ground cells') px (grounds_up ln.growing sh t cells kp.sound false (all_turns false e) u) (out_ground ln.growing sh t cells kp.sound (all_turns false e)) lv)))
      good f z (down a b u) = inl (kept (sounds_down ln.growing sh t cells kp.sound false (all_turns false e) u)
          (lifted (grown have used (count based cells) (count ground cells) (count ground cells') (count (final sh) cells) (count (λ c. part false sh c.item) (left cells)) (far false sh.free) (far false r) (far true r) px
          (out_ground ln.growing sh t cells kp.sound (all_turns false e)) (out_final ln.growing sh t cells kp.sound (all_turns false e))
          (out_conserved sh cells ln.growing open_ok (917504 * px) (open_turns false e) (keeps false e a)) (parts_most false e) f z space.largest lv)))
      good f z (level a b u) = inr (done u (near_ground false e 3407873 (lit≤ tt)
          (all_map (λ c k. one (final sh c) (ground c) (count (final sh) cells) (count ground cells) (3407873 * px) k
          (ends have used (count based cells) (count ground cells) (count (final sh) cells) (count (λ c. part false sh c.item) (left cells)) (far false sh.free) (far false r) (far true r) px
          (out_conserved sh cells ln.growing open_ok (917504 * px) (open_turns false e) (keeps false e a)) (parts_most false e) f z space.largest lv.0)) cells
          (count-one ground (final sh) cells (out_each ln.growing sh t cells kp.sound (all_turns false e))))))

      go : ((far false sh.free ≤ far false r) × (far true r ≡ 0)) ⊎ (FromInitial × (far false sh.free ≤ far true r) × (far false r ≡ 0)) → Outcome
      go (inl h) = good h.0 h.1 (sign (total_num false e))
      go (inr h) = tame_round false e (tame_by h.0.0 h.0.1 (slight (far false sh.free) (far true sh.free) (far false r) (far true r) have used (count based cells) (count ground cells) px space.least BT lv.1 h.2 h.1 e))

  -- shrinking, though there is space to share out
  out_shrink : ln.growing ≡ false → (e : far true (share ln cells).free ≡ 0) → Level false have used (count ground cells) → Outcome
  out_shrink γ e lv = go (sign (total_num false e))
    where
      more : (A B t t' p : ℕ) → t ≤ t' → A ≤ B + t + 2097152 * p → A ≤ B + t' + 2097152 * p
      more A B t t' p h k = omega arith

      lifted : Tame ln cells' ⊎ Level ln.growing have used (count ground cells')
      lifted = inr (subst (λ (b : Bool). Level b have used (count ground cells')) (sym γ) (more have used (count ground cells) (count ground cells') px (out_ground ln.growing sh t cells kp.sound (all_turns false e)) lv))

      slight : (f ρ ρ' A B b t p : ℕ) → ρ + (B + b) ≤ ρ' + A + 131072 * p → t ≤ b → A ≤ B + t + 2097152 * p → ρ' ≡ 0 → f ≤ ρ → f ≤ 4194304 * p
      slight f ρ ρ' A B b t p h i j k l = omega arith

      little : (sh.free ≡ r) ⊎ FromInitial → far false sh.free ≤ 4194304 * px
      little (inl z) = slight (far false sh.free) (far false r) (far true r) have used (count based cells) (count ground cells) px space.largest
          (based_shrinks cells (subst (λ (b : Bool). All (Sound b) cells) γ kp.sound)) lv (sym (ap (λ (x : Float). far true x) z) ∙ e) (le_of_eq (ap (λ (x : Float). far false x) z))
      little (inr i) = le_trans (le_of_eq (i.1 false)) (le_trans (little_part i.0 false (subst (λ (b : Bool). Lean b ln.initial) γ fx.lean)) (mul-le-mul_right px (lit≤ tt)))

      go : Sign t → Outcome
      go (up a u) = inl (kept (sounds_up ln.growing sh t cells kp.sound false (all_turns false e) u) lifted)
      go (down a b u) = inl (kept (sounds_down ln.growing sh t cells kp.sound false (all_turns false e) u) lifted)
      go (level a b u) = inr (done u (few_shared false e (little limit.which)))

  -- where space is taken back, no target is above the hypothetical size
  back_done : (e : far false (share ln cells).free ≡ 0) → ((v : Float) → freezes t v ≡ true) → All Done cells'
  back_done e u = done u (near_ground true e 0 zero-le (all_map (λ c h. le_trans h (more (ground c) px)) cells (back_each ln.growing sh t cells kp.sound (all_turns true e))))
    where
      more : (a p : ℕ) → a ≤ a + 0 * p
      more a p = omega arith

  -- growing, though space is taken back
  back_grow : ln.growing ≡ true → (e : far false (share ln cells).free ≡ 0) → Level true have used (count ground cells) → Outcome
  back_grow γ e lv = go (sign (total_num true e))
    where
      lifted : Level true have used (count ground cells') → Tame ln cells' ⊎ Level ln.growing have used (count ground cells')
      lifted l = inr (subst (λ (b : Bool). Level b have used (count ground cells')) (sym γ) l)

      same : (A B t t' p : ℕ) → t' ≤ t → t ≤ t' → (A ≤ B + t + 2097152 * p) × (B + t ≤ A + 2097152 * p) → (A ≤ B + t' + 2097152 * p) × (B + t' ≤ A + 2097152 * p)
      same A B t t' p h k l = omega arith

      lower : (A B b b' t t' s m f ρ ρ' p : ℕ) → t' ≤ t → b ≤ b' + (s + m) → b' ≤ t' → s ≤ f + 262145 * p → m ≤ 131072 * p → f ≤ ρ' → ρ ≡ 0 → ρ' + A ≤ ρ + (B + b) + 131072 * p
          → (A ≤ B + t + 2097152 * p) × (B + t ≤ A + 2097152 * p) → (A ≤ B + t' + 2097152 * p) × (B + t' ≤ A + 2097152 * p)
      lower A B b b' t t' s m f ρ ρ' p h i j k l o q v w = omega arith

      tight : (f f' p : ℕ) → f ≡ 0 → f' ≤ 2228224 * p → f + f' ≤ 4194304 * p
      tight f f' p h k = omega arith

      thin : count (λ c. 128 * px) (left cells) ≤ 131072 * px
      thin = le_trans (le_of_eq (count_long (128 * px) (left cells))) (le_trans (mul-le-mul_right (128 * px) left_few) (le_of_eq (re px)))
        where
          re : (p : ℕ) → 1024 * (128 * p) ≡ 131072 * p
          re p = omega arith

      raised : Up t → ((far true sh.free ≤ far true r) × (far false r ≡ 0)) ⊎ (FromInitial × (far true sh.free ≤ far false r) × (far true r ≡ 0)) → Outcome
      raised u (inl h) =
          let ok = sounds_up ln.growing sh t cells kp.sound true (all_turns true e) u in
          inl (kept ok (lifted (lower have used (count based cells) (count based cells') (count ground cells) (count ground cells') (count (λ c. part true sh c.item) (left cells)) (count (λ c. 128 * px) (left cells)) (far true sh.free) (far false r) (far true r) px
          (back_ground ln.growing sh t cells kp.sound (all_turns true e)) (back_based ln.growing sh t cells kp.sound (all_turns true e) u) (based_grows cells' (subst (λ (b : Bool). All (Sound b) cells') γ ok))
          (parts_most true e) thin h.0 h.1 space.least lv)))
      raised u (inr h) = tame_round true e (tame_by h.0.0 h.0.1 (tight (far false sh.free) (far true sh.free) px e (le_trans (le_of_eq (h.0.1 true)) (little_part h.0.0 true (subst (λ (b : Bool). Lean b ln.initial) γ fx.lean)))))

      go : Sign t → Outcome
      go (up a u) = raised u (split true e)
      go (down a b u) = inl (kept (sounds_down ln.growing sh t cells kp.sound true (all_turns true e) u)
          (lifted (same have used (count ground cells) (count ground cells') px (back_ground ln.growing sh t cells kp.sound (all_turns true e)) (grounds_down ln.growing sh t cells kp.sound true (all_turns true e) u) lv)))
      go (level a b u) = inr (back_done e u)

  -- shrinking, and space is taken back
  back_shrink : ln.growing ≡ false → (e : far false (share ln cells).free ≡ 0) → Level false have used (count ground cells) → Outcome
  back_shrink γ e lv = go (sign (total_num true e))
    where
      lifted : Level false have used (count ground cells') → Tame ln cells' ⊎ Level ln.growing have used (count ground cells')
      lifted l = inr (subst (λ (b : Bool). Level b have used (count ground cells')) (sym γ) l)

      more : (A B t t' p : ℕ) → t ≤ t' → A ≤ B + t + 2097152 * p → A ≤ B + t' + 2097152 * p
      more A B t t' p h k = omega arith

      slight : (f f' ρ ρ' A B b t p : ℕ) → ρ + (B + b) ≤ ρ' + A + 131072 * p → t ≤ b → A ≤ B + t + 2097152 * p → ρ' ≡ 0 → f' ≤ ρ → f ≡ 0 → f + f' ≤ 4194304 * p
      slight f f' ρ ρ' A B b t p h i j k l m = omega arith

      shrunk : (A B b t' c s f ρ ρ' p : ℕ) → c ≤ t' → b ≤ c + (s + 917504 * p) → s ≤ f + 262145 * p → f ≤ ρ' → ρ ≡ 0 → ρ' + A ≤ ρ + (B + b) + 131072 * p → A ≤ B + t' + 2097152 * p
      shrunk A B b t' c s f ρ ρ' p h i j k l m = omega arith

      none : 0 < far false t → (far true t ≡ 0) ⊎ (far false t ≡ 0) → far true t ≡ 0
      none h (inl z) = z
      none h (inr z) = absurd (omega arith)

      raised : 0 < far false t → Up t → ((far true sh.free ≤ far true r) × (far false r ≡ 0)) ⊎ (FromInitial × (far true sh.free ≤ far false r) × (far true r ≡ 0)) → Outcome
      raised a u (inl h) = inl (kept (sounds_up ln.growing sh t cells kp.sound true (all_turns true e) u)
          (lifted (shrunk have used (count based cells) (count ground cells') (count (final sh) cells) (count (λ c. part true sh c.item) (left cells)) (far true sh.free) (far false r) (far true r) px
          (back_final ln.growing sh t cells kp.sound (all_turns true e)) (back_conserved sh cells ln.growing open_ok (917504 * px) (open_turns true e) (keeps true e (none a (one_side (total_num true e) true))))
          (parts_most true e) h.0 h.1 space.least)))
      raised a u (inr h) = tame_round true e (tame_by h.0.0 h.0.1 (slight (far false sh.free) (far true sh.free) (far false r) (far true r) have used (count based cells) (count ground cells) px
          space.largest (based_shrinks cells (subst (λ (b : Bool). All (Sound b) cells) γ kp.sound)) lv h.2 h.1 e))

      go : Sign t → Outcome
      go (up a u) = raised a u (split true e)
      go (down a b u) = inl (kept (sounds_down ln.growing sh t cells kp.sound true (all_turns true e) u)
          (lifted (more have used (count ground cells) (count ground cells') px (grounds_down ln.growing sh t cells kp.sound true (all_turns true e) u) lv)))
      go (level a b u) = inr (back_done e u)

  pub step : Kept ln n have used (round ln cells) ⊎ All Done (round ln cells)
  unfolding round
  step = go (one_side limit.num true) kp.state ln.growing refl
    where
      level_at : (b : Bool) → ln.growing ≡ b → Level ln.growing have used (count ground cells) → Level b have used (count ground cells)
      level_at b γ l = subst (λ (b : Bool). Level b have used (count ground cells)) γ l

      go : (far true (share ln cells).free ≡ 0) ⊎ (far false (share ln cells).free ≡ 0) → Tame ln cells ⊎ Level ln.growing have used (count ground cells) → (b : Bool) → ln.growing ≡ b → Kept ln n have used cells' ⊎ All Done cells'
      go (inl e) (inl m) b γ = tame_round false e m
      go (inr e) (inl m) b γ = tame_round true e m
      go (inl e) (inr l) true γ = out_grow γ e (level_at true γ l)
      go (inl e) (inr l) false γ = out_shrink γ e (level_at false γ l)
      go (inr e) (inr l) true γ = back_grow γ e (level_at true γ l)
      go (inr e) (inr l) false γ = back_shrink γ e (level_at false γ l)
