-- The sum of a line's sizes, hypothetical where an item is not frozen, against those sizes after a round: cell by cell, then summed. Assumes nothing.
use mathlib.Core.Path.{◌≡◌, refl, sym, ap, ap₂, ◌∙◌, subst}
use mathlib.Core.Logic.{◌⊎◌, inl, inr}
use mathlib.Core.Bool.{Bool, true, false, cond, true≢false}
use mathlib.Core.List.{List, [], ◌∷◌, map}
use Prim.Native.Nat.{ℕ, ◌+◌, ◌*◌, ◌≤◌}
use native.Mathlib.Nat.{le_refl, le_trans, le_of_eq}
use native.Mathlib.Omega.{arith}
use lib.Ieee.{Float, lt}
use Rattle.flex.proofs.Falls.{all_map}
use Rattle.flex.specs.declared.Share.{Share}
use Rattle.grid.specs.Floats.{nought}
use Rattle.flex.specs.Flex.{Cell, left, violation, freezes, settle}
use Rattle.flex.proofs.Signs.{All}
use Rattle.flex_reach.proofs.Units.{px, far, one_side}
use Rattle.flex_reach.proofs.Clamp.{bounded, bounded_mono}
use Rattle.flex_reach.proofs.Totals.{count, count_all, count_same, count_map, count_none, count_both}
use Rattle.flex_reach.proofs.Turn.{Fine, part}
use Rattle.flex_reach.proofs.Space.{held, Sound, sizes}
use Rattle.flex_reach.proofs.Settled.{all_both, count_split, above_nought, below_nought, sized, settled, TurnOf}

-- ---- sizes of a cell

-- its target, or its hypothetical size
abbrev pub ground : Cell → ℕ
ground c = cond c.frozen (far false c.target) (bounded c.item (far false c.item.base))

-- its target, or what it is clamped to in this round
abbrev pub final : Share → Cell → ℕ
final sh c = cond c.frozen (far false c.target) (far false (sized sh c.item))

-- its target, or its base
abbrev pub based : Cell → ℕ
based c = cond c.frozen (far false c.target) (far false c.item.base)

pub sizes_based : (l : List Cell) → sizes l ≡ count based l
sizes_based l = count_same (λ c. far false (held c)) based l (λ c. go c.frozen c)
  where
    go : (b : Bool) (c : Cell) → far false (cond b c.target c.item.base) ≡ cond b (far false c.target) (far false c.item.base)
    go true c = refl
    go false c = refl

-- a statement on a cell that was frozen, and on one that was not
by_frozen : (P : ℕ → ℕ → Type 0) (c : Cell) (x y z : ℕ) → (c.frozen ≡ true → P x x) → (c.frozen ≡ false → P y z) → P (cond c.frozen x y) (cond c.frozen x z)
by_frozen P c x y z p q = go c.frozen p q
  where
    go : (b : Bool) → (b ≡ true → P x x) → (b ≡ false → P y z) → P (cond b x y) (cond b x z)
    go true p q = p refl
    go false p q = q refl

-- ---- by the side of the free space

module _ (sh : Share) (c : Cell) (f : Fine c.item) where
  -- sharing out: no item is clamped below its hypothetical size
  up_size : TurnOf false sh c → bounded c.item (far false c.item.base) ≤ far false (sized sh c.item)
  up_size t = le_trans (bounded_mono c.item (far false c.item.base) (far false x) (less (far false c.item.base) (far true c.item.base) (far false x) (far true x) t.moved.keeps f.sizes.base.above)) (le_of_eq (sym t.clamped_is))
    where
      x : Float
      x = Rattle.flex.specs.Flex.flexed sh c.item

      less : (b b' x x' : ℕ) → b + x' ≤ x + b' → b' ≡ 0 → b ≤ x
      less b b' x x' h e = omega arith

  -- taking back: none above it
  down_size : TurnOf true sh c → far false (sized sh c.item) ≤ bounded c.item (far false c.item.base)
  down_size t = le_trans (le_of_eq t.clamped_is) (bounded_mono c.item (far false x) (far false c.item.base) (less (far false c.item.base) (far true c.item.base) (far false x) (far true x) t.moved.keeps f.sizes.base.above (one_side t.moved.num true)))
    where
      x : Float
      x = Rattle.flex.specs.Flex.flexed sh c.item

      less : (b b' x x' : ℕ) → b' + x ≤ x' + b → b' ≡ 0 → (x' ≡ 0) ⊎ (x ≡ 0) → x ≤ b
      less b b' x x' h e (inl z) = omega arith
      less b b' x x' h e (inr z) = omega arith

-- ---- a cell before and after a round

abbrev pub Up : Float → Type 0
Up t = (v : Float) → freezes t v ≡ lt nought v

abbrev pub Down : Float → Type 0
Down t = (v : Float) → freezes t v ≡ lt v nought

module _ (g k : Bool) (sh : Share) (t : Float) (c : Cell) (s : Sound k c) (turn : c.frozen ≡ false → TurnOf g sh c) where
  -- frozen with a violation, it has a target of at most 262,144 px
  sound_by : (c.frozen ≡ false → freezes t (violation sh c.item) ≡ true → far false (sized sh c.item) ≤ 262144 * px) → Sound k (settle sh t c)
  sound_by h = settled sh t c (Sound k) (λ e. s)
      (λ e d. record { item = s.item; size = record { num = (turn e).clamped; above = (turn e).clamped_above; most = h e d }; way = λ z. absurd (true≢false z) })
      (λ e d. record { item = s.item; size = s.item.sizes.base; way = λ z. s.way e })

  pub sound_up : Up t → Sound k (settle sh t c)
  sound_up u = sound_by (λ e d. ((turn e).raised (above_nought (turn e).violated (sym (u (violation sh c.item)) ∙ d))).1)

  pub sound_down : Down t → Sound k (settle sh t c)
  sound_down u = sound_by (λ e d. ((turn e).lowered (below_nought (turn e).violated (sym (u (violation sh c.item)) ∙ d))).1)

  -- a statement on the ground before and after
  grounds_by : (P : ℕ → ℕ → Type 0) → (c.frozen ≡ true → P (far false c.target) (far false c.target))
      → (c.frozen ≡ false → freezes t (violation sh c.item) ≡ true → P (bounded c.item (far false c.item.base)) (far false (sized sh c.item)))
      → (c.frozen ≡ false → P (bounded c.item (far false c.item.base)) (bounded c.item (far false c.item.base))) → P (ground c) (ground (settle sh t c))
  grounds_by P p q r = settled sh t c (λ d. P (ground c) (ground d))
      (λ e. subst (λ (b : Bool). P (cond b (far false c.target) (bounded c.item (far false c.item.base))) (cond b (far false c.target) (bounded c.item (far false c.item.base)))) (sym e) (p e))
      (λ e d. subst (λ (b : Bool). P (cond b (far false c.target) (bounded c.item (far false c.item.base))) (far false (sized sh c.item))) (sym e) (q e d))
      (λ e d. subst (λ (b : Bool). P (cond b (far false c.target) (bounded c.item (far false c.item.base))) (bounded c.item (far false c.item.base))) (sym e) (r e))

  -- what is raised becomes no more than the hypothetical size, what is lowered no less
  pub ground_up : Up t → ground (settle sh t c) ≤ ground c
  ground_up u = grounds_by (λ a b. b ≤ a) (λ e. le_refl (far false c.target)) (λ e d. ((turn e).raised (above_nought (turn e).violated (sym (u (violation sh c.item)) ∙ d))).0 (far false c.item.base)) (λ e. le_refl (bounded c.item (far false c.item.base)))

  pub ground_down : Down t → ground c ≤ ground (settle sh t c)
  ground_down u = grounds_by (λ a b. a ≤ b) (λ e. le_refl (far false c.target)) (λ e d. ((turn e).lowered (below_nought (turn e).violated (sym (u (violation sh c.item)) ∙ d))).0 (far false c.item.base)) (λ e. le_refl (bounded c.item (far false c.item.base)))

  -- the final size and the ground after
  finals_by : (P : ℕ → ℕ → Type 0) → ((n : ℕ) → P n n) → (c.frozen ≡ false → P (far false (sized sh c.item)) (bounded c.item (far false c.item.base))) → P (final sh c) (ground (settle sh t c))
  finals_by P p q = settled sh t c (λ d. P (final sh c) (ground d))
      (λ e. subst (λ (b : Bool). P (cond b (far false c.target) (far false (sized sh c.item))) (cond b (far false c.target) (bounded c.item (far false c.item.base)))) (sym e) (p (far false c.target)))
      (λ e d. subst (λ (b : Bool). P (cond b (far false c.target) (far false (sized sh c.item))) (far false (sized sh c.item))) (sym e) (p (far false (sized sh c.item))))
      (λ e d. subst (λ (b : Bool). P (cond b (far false c.target) (far false (sized sh c.item))) (bounded c.item (far false c.item.base))) (sym e) (q e))

-- ---- the whole line

pub count_left : (q : Cell → ℕ) (l : List Cell) → count (λ c. cond c.frozen 0 (q c)) l ≡ count q (left l)
count_left q l = count_split (λ c. 0) q l ∙ ap (λ (n : ℕ). n + count q (left l)) (count_none (λ c. cond c.frozen 0 0) l (nothing l)) ∙ zero-first (count q (left l))
  where
    zero-first : (n : ℕ) → 0 + n ≡ n
    zero-first n = omega arith

    nothing : (l : List Cell) → All (λ c. ◌≡◌ {A = ℕ} (cond c.frozen 0 0) 0) l
    nothing [] = tt
    nothing (c ∷ l) = (go c.frozen, nothing l)
      where
        go : (b : Bool) → ◌≡◌ {A = ℕ} (cond b 0 0) 0
        go true = refl
        go false = refl

-- from cell to line
by_cells : (P Q : Cell → Type 0) (f h : Cell → ℕ) (l : List Cell) → ((c : Cell) → P c → Q c → f c ≤ h c) → All P l → All Q l → count f l ≤ count h l
by_cells P Q f h l k p q = count_all f h l (all_map (λ c (r : P c × Q c). k c r.0 r.1) l (all_both P Q l p q))

-- bases against hypothetical sizes
pub based_grows : (l : List Cell) → All (Sound true) l → count based l ≤ count ground l
based_grows l ok = count_all based ground l (all_map (λ c s. by_frozen (λ a b. a ≤ b) c (far false c.target) (far false c.item.base) (bounded c.item (far false c.item.base)) (λ e. le_refl (far false c.target)) (λ e. s.way e)) l ok)

pub based_shrinks : (l : List Cell) → All (Sound false) l → count ground l ≤ count based l
based_shrinks l ok = count_all ground based l (all_map (λ c s. by_frozen (λ a b. a ≤ b) c (far false c.target) (bounded c.item (far false c.item.base)) (far false c.item.base) (λ e. le_refl (far false c.target)) (λ e. s.way e)) l ok)

module _ (k : Bool) (sh : Share) (t : Float) (l : List Cell) (ok : All (Sound k) l) where
  abbrev pub Turns : Bool → Type 0
  Turns g = All (λ c. c.frozen ≡ false → TurnOf g sh c) l

  after_map : (f : Cell → ℕ) → count f (map (settle sh t) l) ≡ count (λ c. f (settle sh t c)) l
  after_map f = count_map f (settle sh t) l

  pub sounds_up : (g : Bool) → Turns g → Up t → All (Sound k) (map (settle sh t) l)
  sounds_up g ts u = go l ok ts
    where
      go : (l : List Cell) → All (Sound k) l → All (λ c. c.frozen ≡ false → TurnOf g sh c) l → All (Sound k) (map (settle sh t) l)
      go [] h q = tt
      go (c ∷ l) h q = (sound_up g k sh t c h.0 q.0 u, go l h.1 q.1)

  pub sounds_down : (g : Bool) → Turns g → Down t → All (Sound k) (map (settle sh t) l)
  sounds_down g ts u = go l ok ts
    where
      go : (l : List Cell) → All (Sound k) l → All (λ c. c.frozen ≡ false → TurnOf g sh c) l → All (Sound k) (map (settle sh t) l)
      go [] h q = tt
      go (c ∷ l) h q = (sound_down g k sh t c h.0 q.0 u, go l h.1 q.1)

  pub grounds_up : (g : Bool) → Turns g → Up t → count ground (map (settle sh t) l) ≤ count ground l
  grounds_up g ts u = le_trans (le_of_eq (after_map ground)) (by_cells (Sound k) (λ c. c.frozen ≡ false → TurnOf g sh c) (λ c. ground (settle sh t c)) ground l (λ c s q. ground_up g k sh t c s q u) ok ts)

  pub grounds_down : (g : Bool) → Turns g → Down t → count ground l ≤ count ground (map (settle sh t) l)
  grounds_down g ts u = le_trans (by_cells (Sound k) (λ c. c.frozen ≡ false → TurnOf g sh c) ground (λ c. ground (settle sh t c)) l (λ c s q. ground_down g k sh t c s q u) ok ts) (le_of_eq (sym (after_map ground)))

  -- where the round shares out
  pub out_ground : Turns false → count ground l ≤ count ground (map (settle sh t) l)
  out_ground ts = le_trans (by_cells (Sound k) (λ c. c.frozen ≡ false → TurnOf false sh c) ground (λ c. ground (settle sh t c)) l
      (λ c s q. grounds_by false k sh t c s q (λ a b. a ≤ b) (λ e. le_refl (far false c.target)) (λ e d. up_size sh c s.item (q e)) (λ e. le_refl (bounded c.item (far false c.item.base)))) ok ts) (le_of_eq (sym (after_map ground)))

  pub out_final : Turns false → count ground (map (settle sh t) l) ≤ count (final sh) l
  out_final ts = le_trans (le_of_eq (after_map ground)) (by_cells (Sound k) (λ c. c.frozen ≡ false → TurnOf false sh c) (λ c. ground (settle sh t c)) (final sh) l
      (λ c s q. finals_by false k sh t c s q (λ a b. b ≤ a) le_refl (λ e. up_size sh c s.item (q e))) ok ts)

  pub out_each : Turns false → All (λ c. ground c ≤ final sh c) l
  out_each ts = all_map (λ c (r : Sound k c × (c.frozen ≡ false → TurnOf false sh c)). by_frozen (λ a b. a ≤ b) c (far false c.target) (bounded c.item (far false c.item.base)) (far false (sized sh c.item)) (λ e. le_refl (far false c.target)) (λ e. up_size sh c r.0.item (r.1 e))) l (all_both (Sound k) (λ c. c.frozen ≡ false → TurnOf false sh c) l ok ts)

  -- where it takes back
  pub back_ground : Turns true → count ground (map (settle sh t) l) ≤ count ground l
  back_ground ts = le_trans (le_of_eq (after_map ground)) (by_cells (Sound k) (λ c. c.frozen ≡ false → TurnOf true sh c) (λ c. ground (settle sh t c)) ground l
      (λ c s q. grounds_by true k sh t c s q (λ a b. b ≤ a) (λ e. le_refl (far false c.target)) (λ e d. down_size sh c s.item (q e)) (λ e. le_refl (bounded c.item (far false c.item.base)))) ok ts)

  pub back_final : Turns true → count (final sh) l ≤ count ground (map (settle sh t) l)
  back_final ts = le_trans (by_cells (Sound k) (λ c. c.frozen ≡ false → TurnOf true sh c) (final sh) (λ c. ground (settle sh t c)) l
      (λ c s q. finals_by true k sh t c s q (λ a b. a ≤ b) le_refl (λ e. down_size sh c s.item (q e))) ok ts) (le_of_eq (sym (after_map ground)))

  pub back_each : Turns true → All (λ c. final sh c ≤ ground c) l
  back_each ts = all_map (λ c (r : Sound k c × (c.frozen ≡ false → TurnOf true sh c)). by_frozen (λ a b. a ≤ b) c (far false c.target) (far false (sized sh c.item)) (bounded c.item (far false c.item.base)) (λ e. le_refl (far false c.target)) (λ e. down_size sh c r.0.item (r.1 e))) l (all_both (Sound k) (λ c. c.frozen ≡ false → TurnOf true sh c) l ok ts)

  -- where it takes back and freezes what is raised: no cell is less than before by more than its part
  pub back_based : Turns true → Up t → count based l ≤ count based (map (settle sh t) l) + (count (λ c. part true sh c.item) (left l) + count (λ c. 128 * px) (left l))
  back_based ts u =
      le_trans (by_cells (Sound k) (λ c. c.frozen ≡ false → TurnOf true sh c) based (λ c. based (settle sh t c) + cond c.frozen 0 (part true sh c.item + 128 * px)) l cell ok ts)
      (le_of_eq (count_both (λ c. based (settle sh t c)) (λ c. cond c.frozen 0 (part true sh c.item + 128 * px)) l
      ∙ ap₂ (λ (a b : ℕ). a + b) (sym (after_map based)) (count_left (λ c. part true sh c.item + 128 * px) l ∙ count_both (λ c. part true sh c.item) (λ c. 128 * px) (left l))))
    where
      lost : (b b' x x' z d p : ℕ) → x' + b ≤ x + b' + d + p → b' ≡ 0 → x ≤ z → b ≤ z + (d + p)
      lost b b' x x' z d p h e k = omega arith

      more : (a b : ℕ) → a ≤ a + b
      more a b = omega arith

      cell : (c : Cell) → Sound k c → (c.frozen ≡ false → TurnOf true sh c) → based c ≤ based (settle sh t c) + cond c.frozen 0 (part true sh c.item + 128 * px)
      cell c s q = settled sh t c (λ d. based c ≤ based d + cond c.frozen 0 (part true sh c.item + 128 * px))
          (λ e. more (based c) (cond c.frozen 0 (part true sh c.item + 128 * px)))
          (λ e d. subst (λ (b : Bool). cond b (far false c.target) (far false c.item.base) ≤ far false (sized sh c.item) + cond b 0 (part true sh c.item + 128 * px)) (sym e)
          (lost (far false c.item.base) (far true c.item.base) (far false (Rattle.flex.specs.Flex.flexed sh c.item)) (far true (Rattle.flex.specs.Flex.flexed sh c.item)) (far false (sized sh c.item)) (part true sh c.item) (128 * px)
          (q e).moved.near s.item.sizes.base.above ((q e).raised (above_nought (q e).violated (sym (u (violation sh c.item)) ∙ d))).2))
          (λ e d. subst (λ (b : Bool). cond b (far false c.target) (far false c.item.base) ≤ far false c.item.base + cond b 0 (part true sh c.item + 128 * px)) (sym e) (more (far false c.item.base) (part true sh c.item + 128 * px)))

-- ---- what a round conserves, over the whole line

module _ (sh : Share) (l : List Cell) (k : Bool) (ok : All (λ c. Sound k c × (c.frozen ≡ false)) (left l)) (d : ℕ) where
  no_base : count (λ c. far true c.item.base) (left l) ≡ 0
  no_base = count_none (λ c. far true c.item.base) (left l) (all_map (λ c (s : Sound k c × (c.frozen ≡ false)). s.0.item.sizes.base.above) (left l) ok)

  no_size : (g : Bool) → All (TurnOf g sh) (left l) → count (λ c. far true (sized sh c.item)) (left l) ≡ 0
  no_size g ts = count_none (λ c. far true (sized sh c.item)) (left l) (all_map (λ c t. t.clamped_above) (left l) ts)

  X : ℕ
  X = count (λ c. cond c.frozen (far false c.target) 0) l

  pub out_conserved : All (TurnOf false sh) (left l)
      → count (λ c. far false (sized sh c.item)) (left l) + count (λ c. far true c.item.base) (left l) ≤ count (λ c. far true (sized sh c.item)) (left l) + count (λ c. far false c.item.base) (left l) + count (λ c. part false sh c.item) (left l) + d
      → count (final sh) l ≤ count based l + (count (λ c. part false sh c.item) (left l) + d)
  unfolding X
  out_conserved ts h = go (count (final sh) l) (count based l) X (count (λ c. far false (sized sh c.item)) (left l)) (count (λ c. far true (sized sh c.item)) (left l)) (count (λ c. far false c.item.base) (left l)) (count (λ c. far true c.item.base) (left l)) (count (λ c. part false sh c.item) (left l))
      (count_split (λ c. far false c.target) (λ c. far false (sized sh c.item)) l) (count_split (λ c. far false c.target) (λ c. far false c.item.base) l) no_base (no_size false ts) h
    where
      go : (F B X z z' b b' s : ℕ) → F ≡ X + z → B ≡ X + b → b' ≡ 0 → z' ≡ 0 → z + b' ≤ z' + b + s + d → F ≤ B + (s + d)
      go F B X z z' b b' s e f i j h = omega arith

  pub back_conserved : All (TurnOf true sh) (left l)
      → count (λ c. far true (sized sh c.item)) (left l) + count (λ c. far false c.item.base) (left l) ≤ count (λ c. far false (sized sh c.item)) (left l) + count (λ c. far true c.item.base) (left l) + count (λ c. part true sh c.item) (left l) + d
      → count based l ≤ count (final sh) l + (count (λ c. part true sh c.item) (left l) + d)
  unfolding X
  back_conserved ts h = go (count (final sh) l) (count based l) X (count (λ c. far false (sized sh c.item)) (left l)) (count (λ c. far true (sized sh c.item)) (left l)) (count (λ c. far false c.item.base) (left l)) (count (λ c. far true c.item.base) (left l)) (count (λ c. part true sh c.item) (left l))
      (count_split (λ c. far false c.target) (λ c. far false (sized sh c.item)) l) (count_split (λ c. far false c.target) (λ c. far false c.item.base) l) no_base (no_size true ts) h
    where
      go : (F B X z z' b b' s : ℕ) → F ≡ X + z → B ≡ X + b → b' ≡ 0 → z' ≡ 0 → z' + b ≤ z + b' + s + d → B ≤ F + (s + d)
      go F B X z z' b b' s e f i j h = omega arith
