-- The main axis, line by line: the walk over the lines; that its contract leaves no choice; and that a line depends on its own items alone. Assumes nothing.
use mathlib.Core.Path.{◌≡◌, refl, sym, ◌∙◌, subst}
use mathlib.Core.Bool.{Bool}
use mathlib.Core.List.{List, []}
use Prim.Native.Nat.{ℕ, ◌+◌, ◌-◌, ◌≤◌, ◌<◌, zero-le}
use native.Mathlib.Omega.{arith}
use lib.ListN.{length, get_or}
use lib.Ieee.{Float}
use borrow.Author.Count.{below_none, below_more}
use borrow.Rule.Slice.PartMut.{mid_of, put_mid, mid_len}
use Rattle.lists.specs.ByLine.{line_start, part, Division}
use Rattle.keywords.specs.declared.ContentAlignment.{ContentAlignment}
use Rattle.place_main.specs.MainAxis.{LineLists, line_lists, count, Spaced}
use Rattle.place_main.specs.Lists as lent
use Rattle.pass_walk.specs.Main.{main_line, MainLines}
use Rattle.pass_walk.specs.MainParts.{MainReady}
use Rattle.lists.proofs.Walk.{Here, start_none, start_next, ends-within, lent_is, Front, front-none, step, front_next, past_of, all_cells, same_parts}

-- ---- one line

pub same_line : {t t' s s' e e' : List Float} {p p' q q' : List ℕ} → t ≡ t' → s ≡ s' → e ≡ e' → p ≡ p' → q ≡ q' → line_lists t s e p q ≡ line_lists t' s' e' p' q'
same_line {t' = t'} {s' = s'} {e' = e'} {p' = p'} {q' = q'} a b c d f = rw (a, b, c, d, f)

-- the part of the items that a line is lent
part_is : {counts : List ℕ} {from to j : ℕ} (l : LineLists) → Here counts from to j → lent.part from to l ≡ main_line counts j l
part_is l h = same_line (lent_is h l.targets) (lent_is h l.start) (lent_is h l.end) (lent_is h l.auto_start) (lent_is h l.auto_end)

-- what a turn may use: the line's range lies inside every list
pub record Turn (l : LineLists) (offsets starts ends : List Float) (from to : ℕ) : Type 0 where
  pub forward : from ≤ to
  pub counted : to ≤ count l
  pub few : to ≤ 1024
  pub in_offsets : to ≤ length offsets
  pub in_starts : to ≤ length starts
  pub in_ends : to ≤ length ends

module _ {inner gap : Float} {justify : ContentAlignment} {reversed : Bool} where
  -- all cells of a line are written
  fresh : {l : LineLists} {o₀ s₀ e₀ o s e : List Float} → length o₀ ≤ count l → length s₀ ≤ count l → length e₀ ≤ count l → Spaced inner gap justify reversed l o₀ s₀ e₀ o s e → Spaced inner gap justify reversed l [] [] [] o s e
  fresh {o₀ = o₀} {s₀ = s₀} {e₀ = e₀} a b c p = record { offsets_are = p.offsets_are ∙ all_cells _ o₀ a; starts_are = p.starts_are ∙ all_cells _ s₀ b; ends_are = p.ends_are ∙ all_cells _ e₀ c }

  moved : {l : LineLists} {o o' s s' e e' : List Float} → o ≡ o' → s ≡ s' → e ≡ e' → Spaced inner gap justify reversed l [] [] [] o s e → Spaced inner gap justify reversed l [] [] [] o' s' e'
  moved a b c p = record { offsets_are = sym a ∙ p.offsets_are; starts_are = sym b ∙ p.starts_are; ends_are = sym c ∙ p.ends_are }

-- ---- the walk

-- the lines before line j are spaced, and from it on the lists are as they were
pub record Spacing (inner gap : Float) (justify : ContentAlignment) (reversed : Bool) (counts : List ℕ) (l : LineLists) (offsets₀ starts₀ ends₀ offsets starts ends : List Float) (from j : ℕ) : Type 0 where
  pub here : from ≡ line_start counts j
  pub inside : j ≤ length counts
  pub spaced : (i : ℕ) → i < j → Spaced inner gap justify reversed (main_line counts i l) [] [] [] (part counts i offsets) (part counts i starts) (part counts i ends)
  pub offsets-front : Front counts offsets₀ offsets j
  pub starts_front : Front counts starts₀ starts j
  pub ends-front : Front counts ends₀ ends j

module _ (inner gap : Float) (justify : ContentAlignment) (reversed : Bool) (counts : List ℕ) (l : LineLists) (offsets₀ starts₀ ends₀ : List Float) where
  abbrev Line-spaced : List Float → List Float → List Float → ℕ → Type 0
  Line-spaced o s e i = Spaced inner gap justify reversed (main_line counts i l) [] [] [] (part counts i o) (part counts i s) (part counts i e)

  pub spacing_none : Spacing inner gap justify reversed counts l offsets₀ starts₀ ends₀ offsets₀ starts₀ ends₀ 0 0
  spacing_none = record {
    here = start_none counts;
    inside = zero-le;
    spaced = below_none (Line-spaced offsets₀ starts₀ ends₀);
    offsets-front = front-none counts offsets₀;
    starts_front = front-none counts starts₀;
    ends-front = front-none counts ends₀;
  }

  module _ (ready : MainReady counts l offsets₀ starts₀ ends₀) {offsets starts ends : List Float} {from j : ℕ} (g : Spacing inner gap justify reversed counts l offsets₀ starts₀ ends₀ offsets starts ends from j) where
    module _ (h : j < length counts) where
      abbrev to : ℕ
      to = from + get_or counts j 0

      at_line : Here counts from to j
      at_line = record { starts = g.here; ends = refl }

      pub turn_of : Turn l offsets starts ends from to
      turn_of =
          let w = ends-within ready.division h at_line in
          let e = ready.even in
          record {
            forward = omega arith;
            few = omega (arith, e.few);
            counted = w;
            in_offsets = omega (arith, ready.offsets_room, g.offsets-front.long);
            in_starts = omega (arith, ready.starts_room, g.starts_front.long);
            in_ends = omega (arith, ready.ends_room, g.ends-front.long);
          }

      -- one line more
      pub spacing_next : (o s e : List Float) → length o ≡ length (mid_of from (to - from) offsets) → length s ≡ length (mid_of from (to - from) starts) → length e ≡ length (mid_of from (to - from) ends)
          → Spaced inner gap justify reversed (lent.part from to l) (mid_of from (to - from) offsets) (mid_of from (to - from) starts) (mid_of from (to - from) ends) o s e
          → Spacing inner gap justify reversed counts l offsets₀ starts₀ ends₀ (put_mid from (to - from) offsets o) (put_mid from (to - from) starts s) (put_mid from (to - from) ends e) to (j + 1)
      spacing_next o s e lo ls le p =
          let t = turn_of in
          let n = mid_len from to l.targets t.counted in
          let ro : to ≤ length offsets₀ = omega (arith, t.in_offsets, g.offsets-front.long) in
          let rs : to ≤ length starts₀ = omega (arith, t.in_starts, g.starts_front.long) in
          let re : to ≤ length ends₀ = omega (arith, t.in_ends, g.ends-front.long) in
          let so = step counts o at_line ro lo g.offsets-front in
          let ss = step counts s at_line rs ls g.starts_front in
          let se = step counts e at_line re le g.ends-front in
          record {
            here = start_next counts at_line;
            inside = omega arith;
            spaced = below_more (Line-spaced (put_mid from (to - from) offsets o) (put_mid from (to - from) starts s) (put_mid from (to - from) ends e)) j
                (λ i m. moved (so.earlier i m) (ss.earlier i m) (se.earlier i m) (g.spaced i m))
                (moved so.own ss.own se.own (subst (λ (x : LineLists). Spaced inner gap justify reversed x [] [] [] o s e) (part_is l at_line)
                (fresh (omega (arith, mid_len from to offsets t.in_offsets)) (omega (arith, mid_len from to starts t.in_starts)) (omega (arith, mid_len from to ends t.in_ends)) p)));
            offsets-front = front_next counts o at_line ro lo g.offsets-front;
            starts_front = front_next counts s at_line rs ls g.starts_front;
            ends-front = front_next counts e at_line re le g.ends-front;
          }

    -- all lines
    pub spacing_all : length counts ≤ j → MainLines inner gap justify reversed counts l offsets₀ starts₀ ends₀ offsets starts ends
    spacing_all h = record {
      spaced = λ i m. g.spaced i (omega arith);
      offsets_past = past_of counts ready.division g.inside h g.offsets-front;
      starts_past = past_of counts ready.division g.inside h g.starts_front;
      ends_past = past_of counts ready.division g.inside h g.ends-front;
    }

-- ---- no choice, and a line by itself

-- what two walks say of a line, or of all
pub record Same (o s e o' s' e' : List Float) : Type 0 where
  pub offsets_same : o ≡ o'
  pub starts_same : s ≡ s'
  pub ends_same : e ≡ e'

module _ {inner gap : Float} {justify : ContentAlignment} {reversed : Bool} where
  -- two walks in the same container that agree on the items of a line, and on nothing else, say the same of it
  pub main_independent : {counts counts' : List ℕ} {l l' : LineLists} {o₀ s₀ e₀ o s e o₀' s₀' e₀' o' s' e' : List Float}
      → MainLines inner gap justify reversed counts l o₀ s₀ e₀ o s e → MainLines inner gap justify reversed counts' l' o₀' s₀' e₀' o' s' e'
      → (j j' : ℕ) → j < length counts → j' < length counts' → main_line counts j l ≡ main_line counts' j' l'
      → Same (part counts j o) (part counts j s) (part counts j e) (part counts' j' o') (part counts' j' s') (part counts' j' e')
  main_independent {counts} {counts'} {l} {l'} {o = o} {s = s} {e = e} p q j j' h h' a =
      let x = subst (λ (y : LineLists). Spaced inner gap justify reversed y [] [] [] (part counts j o) (part counts j s) (part counts j e)) a (p.spaced j h) in
      let y = q.spaced j' h' in
      record { offsets_same = x.offsets_are ∙ sym y.offsets_are; starts_same = x.starts_are ∙ sym y.starts_are; ends_same = x.ends_are ∙ sym y.ends_are }

  -- any two results that the contract allows are equal
  pub main_determined : (counts : List ℕ) (l : LineLists) (o₀ s₀ e₀ : List Float) {o s e o' s' e' : List Float} → Division counts (count l)
      → MainLines inner gap justify reversed counts l o₀ s₀ e₀ o s e → MainLines inner gap justify reversed counts l o₀ s₀ e₀ o' s' e' → Same o s e o' s' e'
  main_determined counts l o₀ s₀ e₀ {o} {s} {e} {o'} {s'} {e'} d p q = record {
    offsets_same = same_parts counts o₀ o o' d p.offsets_past q.offsets_past (λ j h. (main_independent p q j j h h refl).offsets_same);
    starts_same = same_parts counts s₀ s s' d p.starts_past q.starts_past (λ j h. (main_independent p q j j h h refl).starts_same);
    ends_same = same_parts counts e₀ e e' d p.ends_past q.ends_past (λ j h. (main_independent p q j j h h refl).ends_same);
  }
