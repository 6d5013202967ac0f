-- The items across their lines, line by line: the walk over the lines; that its contract leaves no choice; and that a line depends on its size and its own
-- items alone. Assumes nothing.
use mathlib.Core.Path.{◌≡◌, refl, sym, ◌∙◌, subst}
use mathlib.Core.Bool.{Bool}
use mathlib.Core.List.{List, []}
use Prim.Native.Nat.{ℕ, ◌+◌, ◌-◌, ◌≤◌, ◌<◌, zero-le}
use native.Mathlib.Omega.{arith}
use lib.ListN.{length, get_or}
use lib.Ieee.{Float, nan}
use borrow.Author.Count.{below_none, below_more}
use borrow.Rule.Slice.PartMut.{mid_of, put_mid, mid_len}
use Rattle.lists.specs.ByLine.{line_start, part, Division}
use Rattle.place_size.specs.CrossSize.{CrossLists, count}
use Rattle.place_size.specs.Lists as lent
use Rattle.place_cross.specs.CrossAxis.{Across}
use Rattle.place_cross.specs.Parts.{SameLengths, AcrossRoom}
use Rattle.place_size.specs.Parts.{CrossOneLength}
use Rattle.pass_walk.specs.Sizes.{cross_line}
use Rattle.pass_walk_across.specs.Cross.{AcrossLines}
use Rattle.pass_walk_across.specs.Parts.{AcrossReady}
use Rattle.lists.proofs.Walk.{Here, start_none, start_next, ends-within, lent_is, Front, front-none, step, front_next, past_of, all_cells, same_parts}
use Rattle.pass_walk.proofs.Sizing.{Inside, part_is}

-- ---- one line

-- what a turn may use: the line's range lies inside every list
pub record Turn (ls : CrossLists) (sizes starts ends offsets : List Float) (from to : ℕ) : Type 0 where
  pub inside : Inside ls from to
  pub in_sizes : to ≤ length sizes
  pub in_starts : to ≤ length starts
  pub in_ends : to ≤ length ends
  pub in_offsets : to ≤ length offsets

-- .. and what it reads: the line's range lies inside every list of the items
pub record TurnReads (ls : CrossLists) (alignment auto-size : List ℕ) (to : ℕ) : Type 0 where
  pub in_minimum : to ≤ length ls.minimum
  pub in_maximum : to ≤ length ls.maximum
  pub in_capped : to ≤ length ls.capped
  pub in_edges : to ≤ length ls.edges
  pub in_start : to ≤ length ls.start
  pub in_end : to ≤ length ls.end
  pub in_auto_start : to ≤ length ls.auto_start
  pub in_auto_end : to ≤ length ls.auto_end
  pub in_alignment : to ≤ length alignment
  pub in_auto_size : to ≤ length auto-size

module _ {reversed : Bool} where
  -- all cells of a line are written
  fresh : {x : Float} {ls : CrossLists} {a z : List ℕ} {u₀ s₀ e₀ o₀ u s e o : List Float} → length u₀ ≤ count ls → length s₀ ≤ count ls → length e₀ ≤ count ls → length o₀ ≤ count ls → Across x reversed ls a z u₀ s₀ e₀ o₀ u s e o → Across x reversed ls a z [] [] [] [] u s e o
  fresh {u₀ = u₀} {s₀ = s₀} {e₀ = e₀} {o₀ = o₀} f g h i p = record { sizes_are = p.sizes_are ∙ all_cells _ u₀ f; starts_are = p.starts_are ∙ all_cells _ s₀ g; ends_are = p.ends_are ∙ all_cells _ e₀ h; offsets_are = p.offsets_are ∙ all_cells _ o₀ i }

  moved : {x : Float} {ls : CrossLists} {a z : List ℕ} {u u' s s' e e' o o' : List Float} → u ≡ u' → s ≡ s' → e ≡ e' → o ≡ o' → Across x reversed ls a z [] [] [] [] u s e o → Across x reversed ls a z [] [] [] [] u' s' e' o'
  moved f g h i p = record { sizes_are = sym f ∙ p.sizes_are; starts_are = sym g ∙ p.starts_are; ends_are = sym h ∙ p.ends_are; offsets_are = sym i ∙ p.offsets_are }

  -- by equals
  pub same_input : {x x' : Float} {ls ls' : CrossLists} {a a' z z' : List ℕ} {u₀ s₀ e₀ o₀ u s e o : List Float} → x ≡ x' → ls ≡ ls' → a ≡ a' → z ≡ z' → Across x reversed ls a z u₀ s₀ e₀ o₀ u s e o → Across x' reversed ls' a' z' u₀ s₀ e₀ o₀ u s e o
  same_input {x} {x'} {ls} {ls'} {a} {a'} {z} {z'} {u₀} {s₀} {e₀} {o₀} {u} {s} {e} {o} f g h i p =
      subst (λ (y : Float). Across y reversed ls' a' z' u₀ s₀ e₀ o₀ u s e o) f
      (subst (λ (y : CrossLists). Across x reversed y a' z' u₀ s₀ e₀ o₀ u s e o) g
      (subst (λ (y : List ℕ). Across x reversed ls y z' u₀ s₀ e₀ o₀ u s e o) h
      (subst (λ (y : List ℕ). Across x reversed ls a y u₀ s₀ e₀ o₀ u s e o) i p)))

-- ---- the walk

-- the items of the lines before line j are placed, and from it on the lists are as they were
pub record Placing (reversed : Bool) (counts : List ℕ) (lines : List Float) (ls : CrossLists) (alignment auto-size : List ℕ) (sizes₀ starts₀ ends₀ offsets₀ sizes starts ends offsets : List Float) (from j : ℕ) : Type 0 where
  pub here : from ≡ line_start counts j
  pub inside : j ≤ length counts
  pub across : (i : ℕ) → i < j → Across (get_or lines i nan) reversed (cross_line counts i ls) (part counts i alignment) (part counts i auto-size) [] [] [] [] (part counts i sizes) (part counts i starts) (part counts i ends) (part counts i offsets)
  pub sizes_front : Front counts sizes₀ sizes j
  pub starts_front : Front counts starts₀ starts j
  pub ends-front : Front counts ends₀ ends j
  pub offsets-front : Front counts offsets₀ offsets j

module _ (reversed : Bool) (counts : List ℕ) (lines : List Float) (ls : CrossLists) (alignment auto-size : List ℕ) (sizes₀ starts₀ ends₀ offsets₀ : List Float) where
  abbrev Line-across : List Float → List Float → List Float → List Float → ℕ → Type 0
  Line-across u s e o i = Across (get_or lines i nan) reversed (cross_line counts i ls) (part counts i alignment) (part counts i auto-size) [] [] [] [] (part counts i u) (part counts i s) (part counts i e) (part counts i o)

  pub placing_none : Placing reversed counts lines ls alignment auto-size sizes₀ starts₀ ends₀ offsets₀ sizes₀ starts₀ ends₀ offsets₀ 0 0
  placing_none = record {
    here = start_none counts;
    inside = zero-le;
    across = below_none (Line-across sizes₀ starts₀ ends₀ offsets₀);
    sizes_front = front-none counts sizes₀;
    starts_front = front-none counts starts₀;
    ends-front = front-none counts ends₀;
    offsets-front = front-none counts offsets₀;
  }

  module _ (ready : AcrossReady counts lines ls alignment auto-size sizes₀ starts₀ ends₀ offsets₀) {sizes starts ends offsets : List Float} {from j : ℕ} (g : Placing reversed counts lines ls alignment auto-size sizes₀ starts₀ ends₀ offsets₀ sizes starts ends offsets from j) where
    module _ (h : j < length counts) where
      abbrev to : ℕ
      to = from + get_or counts j 0

      at_line : Here counts from to j
      at_line = record { starts = g.here; ends = refl }

      pub turn_of : Turn ls sizes starts ends offsets from to
      turn_of =
          let w = ends-within ready.division h at_line in
          record {
            inside = record { forward = omega arith; counted = w; few = omega (arith, ready.lengths.even.few) };
            in_sizes = omega (arith, ready.room.sizes_room, g.sizes_front.long);
            in_starts = omega (arith, ready.room.starts_room, g.starts_front.long);
            in_ends = omega (arith, ready.room.ends_room, g.ends-front.long);
            in_offsets = omega (arith, ready.room.offsets_room, g.offsets-front.long);
          }

      pub reads_of : TurnReads ls alignment auto-size to
      reads_of =
          let w = ends-within ready.division h at_line in
          let e = ready.lengths.even in
          record {
            in_minimum = omega (arith, w, e.minimum);
            in_maximum = omega (arith, w, e.maximum);
            in_capped = omega (arith, w, e.capped);
            in_edges = omega (arith, w, e.edges);
            in_start = omega (arith, w, e.start);
            in_end = omega (arith, w, e.end);
            in_auto_start = omega (arith, w, e.auto_start);
            in_auto_end = omega (arith, w, e.auto_end);
            in_alignment = omega (arith, w, ready.lengths.alignment_length);
            in_auto_size = omega (arith, w, ready.lengths.auto_length);
          }

      -- the line has a size
      pub line_sized : j < length lines
      line_sized = omega (arith, ready.sized)

      -- one line more
      pub placing_next : {x : Float} (u s e o : List Float) → length u ≡ length (mid_of from (to - from) sizes) → length s ≡ length (mid_of from (to - from) starts) → length e ≡ length (mid_of from (to - from) ends) → length o ≡ length (mid_of from (to - from) offsets)
          → x ≡ get_or lines j nan
          → Across x reversed (lent.part from to ls) (mid_of from (to - from) alignment) (mid_of from (to - from) auto-size) (mid_of from (to - from) sizes) (mid_of from (to - from) starts) (mid_of from (to - from) ends) (mid_of from (to - from) offsets) u s e o
          → Placing reversed counts lines ls alignment auto-size sizes₀ starts₀ ends₀ offsets₀ (put_mid from (to - from) sizes u) (put_mid from (to - from) starts s) (put_mid from (to - from) ends e) (put_mid from (to - from) offsets o) to (j + 1)
      placing_next u s e o lu ls' le lo x_is p =
          let t = turn_of in
          let n = mid_len from to ls.measured t.inside.counted in
          let ru : to ≤ length sizes₀ = omega (arith, t.in_sizes, g.sizes_front.long) in
          let rs : to ≤ length starts₀ = omega (arith, t.in_starts, g.starts_front.long) in
          let re : to ≤ length ends₀ = omega (arith, t.in_ends, g.ends-front.long) in
          let ro : to ≤ length offsets₀ = omega (arith, t.in_offsets, g.offsets-front.long) in
          let su = step counts u at_line ru lu g.sizes_front in
          let ss = step counts s at_line rs ls' g.starts_front in
          let se = step counts e at_line re le g.ends-front in
          let so = step counts o at_line ro lo g.offsets-front in
          record {
            here = start_next counts at_line;
            inside = omega arith;
            across = below_more (Line-across (put_mid from (to - from) sizes u) (put_mid from (to - from) starts s) (put_mid from (to - from) ends e) (put_mid from (to - from) offsets o)) j
                (λ i m. moved (su.earlier i m) (ss.earlier i m) (se.earlier i m) (so.earlier i m) (g.across i m))
                (moved su.own ss.own se.own so.own (same_input x_is (part_is ls at_line) (lent_is at_line alignment) (lent_is at_line auto-size)
                (fresh (omega (arith, mid_len from to sizes t.in_sizes)) (omega (arith, mid_len from to starts t.in_starts)) (omega (arith, mid_len from to ends t.in_ends)) (omega (arith, mid_len from to offsets t.in_offsets)) p)));
            sizes_front = front_next counts u at_line ru lu g.sizes_front;
            starts_front = front_next counts s at_line rs ls' g.starts_front;
            ends-front = front_next counts e at_line re le g.ends-front;
            offsets-front = front_next counts o at_line ro lo g.offsets-front;
          }

    -- all lines
    pub placing_all : length counts ≤ j → AcrossLines reversed counts lines ls alignment auto-size sizes₀ starts₀ ends₀ offsets₀ sizes starts ends offsets
    placing_all h = record {
      across = λ i m. g.across i (omega arith);
      sizes_past = past_of counts ready.division g.inside h g.sizes_front;
      starts_past = past_of counts ready.division g.inside h g.starts_front;
      ends_past = past_of counts ready.division g.inside h g.ends-front;
      offsets_past = past_of counts ready.division g.inside h g.offsets-front;
    }

-- ---- no choice, and a line by itself

-- what two walks say of a line, or of all
pub record Same (u s e o u' s' e' o' : List Float) : Type 0 where
  pub sizes_same : u ≡ u'
  pub starts_same : s ≡ s'
  pub ends_same : e ≡ e'
  pub offsets_same : o ≡ o'

module _ {reversed : Bool} where
  -- two walks, both reversed or neither, that agree on the size and the items of a line, and on nothing else, say the same of it
  pub across_independent : {counts counts' : List ℕ} {lines lines' : List Float} {ls ls' : CrossLists} {a z a' z' : List ℕ} {u₀ s₀ e₀ o₀ u s e o u₀' s₀' e₀' o₀' u' s' e' o' : List Float}
      → AcrossLines reversed counts lines ls a z u₀ s₀ e₀ o₀ u s e o → AcrossLines reversed counts' lines' ls' a' z' u₀' s₀' e₀' o₀' u' s' e' o'
      → (j j' : ℕ) → j < length counts → j' < length counts' → get_or lines j nan ≡ get_or lines' j' nan → cross_line counts j ls ≡ cross_line counts' j' ls' → part counts j a ≡ part counts' j' a' → part counts j z ≡ part counts' j' z'
      → Same (part counts j u) (part counts j s) (part counts j e) (part counts j o) (part counts' j' u') (part counts' j' s') (part counts' j' e') (part counts' j' o')
  across_independent p q j j' h h' x i k l =
      let v = same_input x i k l (p.across j h) in
      let w = q.across j' h' in
      record { sizes_same = v.sizes_are ∙ sym w.sizes_are; starts_same = v.starts_are ∙ sym w.starts_are; ends_same = v.ends_are ∙ sym w.ends_are; offsets_same = v.offsets_are ∙ sym w.offsets_are }

  -- any two results that the contract allows are equal
  pub across_determined : (counts : List ℕ) (lines : List Float) (ls : CrossLists) (a z : List ℕ) (u₀ s₀ e₀ o₀ : List Float) {u s e o u' s' e' o' : List Float} → Division counts (count ls)
      → AcrossLines reversed counts lines ls a z u₀ s₀ e₀ o₀ u s e o → AcrossLines reversed counts lines ls a z u₀ s₀ e₀ o₀ u' s' e' o' → Same u s e o u' s' e' o'
  across_determined counts lines ls a z u₀ s₀ e₀ o₀ {u} {s} {e} {o} {u'} {s'} {e'} {o'} d p q = record {
    sizes_same = same_parts counts u₀ u u' d p.sizes_past q.sizes_past (λ j h. (across_independent p q j j h h refl refl refl refl).sizes_same);
    starts_same = same_parts counts s₀ s s' d p.starts_past q.starts_past (λ j h. (across_independent p q j j h h refl refl refl refl).starts_same);
    ends_same = same_parts counts e₀ e e' d p.ends_past q.ends_past (λ j h. (across_independent p q j j h h refl refl refl refl).ends_same);
    offsets_same = same_parts counts o₀ o o' d p.offsets_past q.offsets_past (λ j h. (across_independent p q j j h h refl refl refl refl).offsets_same);
  }

-- ---- what a line is lent, as its own step asks it

-- the stage's own requirements
module _ {ls : CrossLists} {sizes starts ends offsets : List Float} {from to : ℕ} (t : Turn ls sizes starts ends offsets from to) where
  pub lent_lengths : {alignment auto-size : List ℕ} → TurnReads ls alignment auto-size to → SameLengths (lent.part from to ls) (mid_of from (to - from) alignment) (mid_of from (to - from) auto-size)
  lent_lengths {alignment} {auto-size} r =
      let n = mid_len from to ls.measured t.inside.counted in
      let even : CrossOneLength (lent.part from to ls) = record {
        few = omega (arith, n, t.inside.few);
        minimum = mid_len from to ls.minimum r.in_minimum ∙ sym n;
        maximum = mid_len from to ls.maximum r.in_maximum ∙ sym n;
        capped = mid_len from to ls.capped r.in_capped ∙ sym n;
        edges = mid_len from to ls.edges r.in_edges ∙ sym n;
        start = mid_len from to ls.start r.in_start ∙ sym n;
        end = mid_len from to ls.end r.in_end ∙ sym n;
        auto_start = mid_len from to ls.auto_start r.in_auto_start ∙ sym n;
        auto_end = mid_len from to ls.auto_end r.in_auto_end ∙ sym n;
      } in
      record { even = even; alignment_length = mid_len from to alignment r.in_alignment ∙ sym n; auto_length = mid_len from to auto-size r.in_auto_size ∙ sym n }

  pub lent_room : AcrossRoom (length (mid_of from (to - from) ls.measured)) (mid_of from (to - from) sizes) (mid_of from (to - from) starts) (mid_of from (to - from) ends) (mid_of from (to - from) offsets)
  lent_room =
      let n = mid_len from to ls.measured t.inside.counted in
      record {
        sizes_room = omega (arith, n, mid_len from to sizes t.in_sizes);
        starts_room = omega (arith, n, mid_len from to starts t.in_starts);
        ends_room = omega (arith, n, mid_len from to ends t.in_ends);
        offsets_room = omega (arith, n, mid_len from to offsets t.in_offsets);
      }
