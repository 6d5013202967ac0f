-- P1 TO P15 of document 01, one table: a row has a case's inputs and then document 01's answers, lengths in whole
-- px, and `RowHolds` is what it claims of the definitions that the contracts cite: they give these answers and no
-- others. `table_holds` of proofs/Table.antt is the proof. Assumes nothing.
use Rattle.std.specs.Prelude.{◌≡◌, false, List, [], ◌∷◌, ◌++◌, map, ℕ, ◌*◌, length, drop, ℤ, pos, neg_ℤ, Float}
use Rattle.std.specs.Float.{inf, binary32}
use Rattle.std.specs.Float.Ieee.{of_int, of_bits}
use Rattle.std.specs.Prelude.{Some, None}
use Rattle.break_greedy.specs.Breaking.{Limit, definite, max_content, greedy}
use Rattle.balance_rule.specs.Rule.{Balanced}
use Rattle.flex.specs.declared.Item.{Item}
use Rattle.flex.specs.Flex.{Flexed}
use Rattle.keywords.specs.declared.Distribution.{Distribution}
use Rattle.keywords.specs.declared.Distribution.TheVariants.{Stretch, SpaceBetween}
use Rattle.keywords.specs.declared.ContentAlignment.TheVariants.{Spread}
use Rattle.place_main.specs.MainAxis.{LineLists, count, free_space, auto_count, Spaced}
use Rattle.keywords.specs.declared.Wrap.TheVariants as wrap
use Rattle.place_size.specs.declared.container.Cross.{Cross}
use Rattle.place_cross.specs.Lines.{Aligned}

-- ---- whole pixels: in sixty-fourths, and as a float

abbrev pub whole_px : ℕ → ℤ
whole_px n = pos (n * 64)

unfoldable pub px : ℕ → Float
px n = of_int binary32 (pos n)

-- ---- the rows

-- an item to be flexed: base, maximum, grow and shrink; its minimum, padding, border and margins are 0
unfoldable pub flexible : Float → Float → Float → Float → Item
flexible base maximum grow shrink = record {
  base = base;
  minimum = px 0;
  maximum = maximum;
  edges = px 0;
  grow = grow;
  shrink = shrink;
  start = px 0;
  end = px 0;
}

unfoldable pub none : Float
none = inf false

-- 0.5, by its bits
unfoldable pub half : Float
half = of_bits binary32 1056964608

pub data Row : Type 0 where
  -- sizes; limit, gap, minimum; the balanced counts
  balanced : List ℕ → Limit → ℕ → ℕ → List ℕ → Row
  -- sizes; limit, gap; the greedy counts
  greedily : List ℕ → Limit → ℕ → List ℕ → Row
  -- inner size; items; the free space, the items' sizes, and the rounds
  flexed : ℕ → List Item → ℤ → List ℕ → ℕ → Row
  -- number of items, free space, gap, keyword; the offsets
  spaced : ℕ → ℕ → ℕ → Distribution → List ℕ → Row
  -- line sizes; gap, inner cross size; the stretched sizes
  stretched : List ℕ → ℕ → ℕ → List ℕ → Row

abbrev pub limit : ℕ → Limit
limit n = definite (whole_px n)

unfoldable pub table : List Row
table =
    -- P1 to P9; P1, P5 and P6 with their greedy counts, of which document 01 gives those of P5
    balanced (70 ∷ 0 ∷ 20 ∷ []) (limit 100) 10 1 (2 ∷ 1 ∷ [])
    ∷ greedily (70 ∷ 0 ∷ 20 ∷ []) (limit 100) 10 (2 ∷ 1 ∷ [])
    ∷ balanced (150 ∷ 0 ∷ 30 ∷ []) (limit 100) 0 1 (1 ∷ 2 ∷ [])
    ∷ balanced (70 ∷ 0 ∷ 0 ∷ []) (limit 100) 0 2 (2 ∷ 1 ∷ [])
    ∷ balanced (10 ∷ 10 ∷ 10 ∷ []) (limit 100) 0 2 (2 ∷ 1 ∷ [])
    ∷ balanced (50 ∷ 50 ∷ 50 ∷ 10 ∷ []) (limit 150) 0 1 (2 ∷ 2 ∷ [])
    ∷ greedily (50 ∷ 50 ∷ 50 ∷ 10 ∷ []) (limit 150) 0 (3 ∷ 1 ∷ [])
    ∷ balanced (45 ∷ 45 ∷ []) (limit 100) 10 1 (2 ∷ [])
    ∷ greedily (45 ∷ 45 ∷ []) (limit 100) 10 (2 ∷ [])
    ∷ balanced (5 ∷ []) max_content 0 9 (1 ∷ [])
    ∷ balanced [] (limit 100) 0 1 []
    ∷ balanced (5 ∷ 6 ∷ []) max_content 0 0 (2 ∷ [])
    -- P10 to P13, with their free space and the rounds of all, of which document 01 gives those of P10 and P11
    ∷ flexed 300 (flexible (px 100) none (px 1) (px 1) ∷ flexible (px 100) none (px 3) (px 1) ∷ [])
    (whole_px 100) (125 ∷ 175 ∷ []) 1
    ∷ flexed 300 (flexible (px 100) none (px 1) (px 1) ∷ flexible (px 100) (px 120) (px 3) (px 1) ∷ [])
    (whole_px 100) (180 ∷ 120 ∷ []) 2
    ∷ flexed 300 (flexible (px 100) none half (px 1) ∷ []) (whole_px 200) (200 ∷ []) 1
    ∷ flexed 150 (flexible (px 100) none (px 0) (px 1) ∷ flexible (px 100) none (px 0) (px 1) ∷ [])
    (neg_ℤ (whole_px 50)) (75 ∷ 75 ∷ []) 1
    -- P14
    ∷ spaced 3 60 5 SpaceBetween (0 ∷ 35 ∷ 35 ∷ [])
    -- P15
    ∷ stretched (20 ∷ 30 ∷ []) 10 100 (40 ∷ 50 ∷ [])
    -- "Easy slips"
    ∷ balanced (30 ∷ 5 ∷ 40 ∷ 20 ∷ 0 ∷ 0 ∷ 35 ∷ []) (limit 90) 10 1 (2 ∷ 1 ∷ 4 ∷ [])
    ∷ []

-- ---- what a row claims

-- the answers, and after them the lent cells as they were
abbrev pub onto : List ℕ → List Float → List Float
onto answers cells = map px answers ++ drop (length answers) cells

-- a container that wraps, of a given inner cross size and with no bounds
unfoldable pub container : ℕ → ℕ → Cross
container gap size = record {
  inner = Some (px size);
  minimum = None;
  maximum = None;
  gap = px gap;
  wrap = wrap.Wrap;
}

-- a line of n items with this free space and no auto margins
pub record Plain (inner : Float) (l : LineLists) (n free gap : ℕ) : Type 0 where
  pub items : count l ≡ n
  pub autos : auto_count l ≡ 0
  pub space : free_space inner (px gap) l ≡ px free

abbrev pub RowHolds : Row → Type 0
-- the plain rule of balanced breaking
RowHolds (balanced sizes limit gap minimum counts) =
    Balanced limit (whole_px gap) (map whole_px sizes) minimum counts × ((d : List ℕ)
    → Balanced limit (whole_px gap) (map whole_px sizes) minimum d → d ≡ counts)
RowHolds (greedily sizes limit gap counts) = greedy limit (whole_px gap) (map whole_px sizes) ≡ counts
-- 9.7 of a line with no gap
RowHolds (flexed inner items free sizes rounds) =
    ((old : List Float) → Flexed (px inner) (px 0) items free rounds old (onto sizes old))
    × ((f : ℤ) (r : ℕ) (old new : List Float) → Flexed (px inner) (px 0) items f r old new → (f ≡ free)
    × (r ≡ rounds) × (new ≡ onto sizes old))
-- the main axis of every such line, and there is one
RowHolds (spaced n free gap keyword offsets) =
    ((inner : Float) × (l : LineLists) × Plain inner l n free gap)
    × ((inner : Float) (l : LineLists) → Plain inner l n free gap → (o s e : List Float)
    → ((s₁ : List Float) × (e₁ : List Float) × Spaced inner (px gap) (Spread keyword) false l o s e (onto offsets o)
    s₁ e₁)
    × ((o₁ s₁ e₁ : List Float) → Spaced inner (px gap) (Spread keyword) false l o s e o₁ s₁ e₁
    → o₁ ≡ onto offsets o))
-- the cross axis under stretch
RowHolds (stretched lines gap size sizes) =
    (s o : List Float) → ((inner : Float) × (o₁ : List Float)
    × Aligned (container gap size) (Spread Stretch) (map px lines) s o inner (onto sizes s) o₁)
    × ((inner : Float) (s₁ o₁ : List Float) → Aligned (container gap size) (Spread Stretch) (map px lines) s o inner
    s₁ o₁ → s₁ ≡ onto sizes s)

-- THE STATEMENT: every row of the table holds
abbrev pub AllHold : List Row → Type 0
AllHold [] = Unit {0}
AllHold (r ∷ rows) = RowHolds r × AllHold rows
