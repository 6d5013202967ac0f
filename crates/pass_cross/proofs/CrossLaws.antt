-- The parts of the cross axis put together: what each asks follows from what the pass has checked, and what it leaves in lists of its own is what the lent
-- lists then hold. Assumes nothing.
use mathlib.Core.Path.{◌≡◌, refl, sym, ap, ◌∙◌, subst}
use mathlib.Core.Logic.{inl}
use mathlib.Core.Bool.{Bool}
use mathlib.Core.List.{List, [], ◌∷◌, ◌++◌}
use Prim.Native.Nat.{ℕ, zero, suc, ◌+◌, ◌*◌, ◌≤◌, ◌<◌}
use native.Mathlib.Nat.{le_trans, le_of_eq, le-add_right}
use native.Mathlib.Omega.{arith}
use lib.ListN.{length, take, drop, replicate, length-append}
use lib.Seq.{length-take-le, take_at}
use lib.Ieee.{Float}
use Rattle.keywords.specs.declared.ContentAlignment.{ContentAlignment}
use Rattle.lists.specs.Cells.{each}
use Rattle.grid.specs.Floats.{nought}
use Rattle.place_size.specs.declared.container.Cross.{Cross}
use Rattle.place_size.specs.CrossSize.{CrossLists, cross_line_size}
use Rattle.place_cross.specs.Lines.{Aligned}
use Rattle.pass_walk.specs.Sizes.{cross_line, cross_sizes}
use Rattle.pass_walk.specs.SizeParts.{SizesReady}
use Rattle.pass_walk_across.specs.Cross.{AcrossLines}
use Rattle.pass_walk_across.specs.Parts.{AcrossReady}
use Rattle.pass_walk.proofs.Sizing.{sizes_front}
use Rattle.pass_container.specs.declared.Container.{Container}
use Rattle.pass_container.specs.Columns.{column, cross_items, align_self, auto_size, zeros}
use Rattle.pass_container.specs.Stages.{Inside, ColumnStored, FourStored}
use Rattle.pass_container.proofs.ColumnLaws.{take_none, before}
use Rattle.pass_checks.proofs.Taken.{number_length, lengths_cross}
use Rattle.pass_cross.specs.CrossStage.{CrossReady, AlignedLines, LinesPlaced, PlacedAcross, ItemsAcross}

-- ---- what is asked

module _ {n : ℕ} {x : List Float} {codes counts : List ℕ} (r : CrossReady n x codes counts) where
  sizes_ready : (sizes : List Float) → n ≤ length sizes → SizesReady counts (cross_items n x codes) sizes
  sizes_ready sizes h = record {
    even = (lengths_cross r.listed).even;
    division = r.division ∙ sym (number_length r.listed 8 (omega arith));
    room = le_trans {m = n} r.few h;
  }

  pub sizes_ready_as : {ls : CrossLists} (sizes : List Float) → ls ≡ cross_items n x codes → n ≤ length sizes → SizesReady counts ls sizes
  sizes_ready_as sizes e h = subst (λ (l : CrossLists). SizesReady counts l sizes) (sym e) (sizes_ready sizes h)

  across_ready : (lines sizes starts ends offsets : List Float) → n ≤ length lines → n ≤ length sizes → n ≤ length starts → n ≤ length ends → n ≤ length offsets → AcrossReady counts lines (cross_items n x codes) (align_self n codes) (auto_size n codes) sizes starts ends offsets
  across_ready lines sizes starts ends offsets h a b d e =
      let l = number_length r.listed 8 (omega arith) in
      record {
        lengths = lengths_cross r.listed;
        division = r.division ∙ sym l;
        sized = le_trans {m = n} r.few h;
        room = record { sizes_room = le_trans {m = n} (le_of_eq l) a; starts_room = le_trans {m = n} (le_of_eq l) b; ends_room = le_trans {m = n} (le_of_eq l) d; offsets_room = le_trans {m = n} (le_of_eq l) e };
      }

  pub across_ready_as : {ls : CrossLists} {al au : List ℕ} (lines sizes starts ends offsets : List Float) → ls ≡ cross_items n x codes → al ≡ align_self n codes → au ≡ auto_size n codes
      → n ≤ length lines → n ≤ length sizes → n ≤ length starts → n ≤ length ends → n ≤ length offsets → AcrossReady counts lines ls al au sizes starts ends offsets
  across_ready_as {ls} {al} {au} lines sizes starts ends offsets p q t h a b d e =
      subst (λ (l : CrossLists). AcrossReady counts lines l al au sizes starts ends offsets) (sym p)
      (subst (λ (l : List ℕ). AcrossReady counts lines (cross_items n x codes) l au sizes starts ends offsets) (sym q)
      (subst (λ (l : List ℕ). AcrossReady counts lines (cross_items n x codes) (align_self n codes) l sizes starts ends offsets) (sym t) (across_ready lines sizes starts ends offsets h a b d e)))

-- ---- the same of what was asked with

pub sizes_as : {c d : Cross} {ls ms : CrossLists} (counts : List ℕ) (old : List Float) {new : List Float} → c ≡ d → ls ≡ ms → new ≡ cross_sizes c counts ls old → new ≡ cross_sizes d counts ms old
sizes_as {c} {d} {ls} {ms} counts old p q e = e ∙ ap (λ (y : Cross). cross_sizes y counts ls old) p ∙ ap (λ (l : CrossLists). cross_sizes d counts l old) q

pub aligned_as : {c d : Cross} {a b : ContentAlignment} {l m s o s' o' : List Float} {r : Float} → c ≡ d → a ≡ b → l ≡ m → Aligned c a l s o r s' o' → Aligned d b m s o r s' o'
aligned_as {c} {d} {a} {b} {l} {m} {s} {o} {s'} {o'} {r} p q t h =
    subst (λ (y : List Float). Aligned d b y s o r s' o') t (subst (λ (y : ContentAlignment). Aligned d y l s o r s' o') q (subst (λ (y : Cross). Aligned y a l s o r s' o') p h))

pub across_as : {b d : Bool} {counts : List ℕ} {lines : List Float} {ls ms : CrossLists} {al al' au au' : List ℕ} {s t e o s' t' e' o' : List Float} → b ≡ d → ls ≡ ms → al ≡ al' → au ≡ au' → AcrossLines b counts lines ls al au s t e o s' t' e' o' → AcrossLines d counts lines ms al' au' s t e o s' t' e' o'
across_as {b} {d} {counts} {lines} {ls} {ms} {al} {al'} {au} {au'} {s} {t} {e} {o} {s'} {t'} {e'} {o'} p q u v h =
    subst (λ (y : List ℕ). AcrossLines d counts lines ms al' y s t e o s' t' e' o') v
    (subst (λ (y : List ℕ). AcrossLines d counts lines ms y au s t e o s' t' e' o') u
    (subst (λ (y : CrossLists). AcrossLines d counts lines y al au s t e o s' t' e' o') q
    (subst (λ (y : Bool). AcrossLines y counts lines ls al au s t e o s' t' e' o') p h)))

-- ---- the front of a list of the frame

pub front_long : (n : ℕ) (l : List Float) → n ≤ length l → length (take n l) ≡ n
front_long n l h = length-take-le n l h

-- what a list of the frame holds before it is written to
abbrev pub frame : List Float
frame = replicate 1024 nought

fronts : (n m : ℕ) → n ≤ m → take n (replicate m nought) ≡ zeros n
fronts zero m h = take_none (replicate m nought)
fronts (suc n) zero h = absurd (omega arith)
fronts (suc n) (suc m) h = ap (λ (l : List Float). nought ∷ l) (fronts n m (omega arith))

-- the list of the lines' sizes, as long as there are lines
pub asked_are : (c : Cross) (counts : List ℕ) (ls : CrossLists) (old : List Float) → take (length counts) (cross_sizes c counts ls old) ≡ cross_sizes c counts ls []
asked_are c counts ls old = sizes_front c counts ls old ∙ sym (nil (each (length counts) (λ j. cross_line_size c (cross_line counts j ls))) (length counts))
  where
    none : List Float
    none = []

    dropped : (k : ℕ) → drop k none ≡ none
    dropped zero = refl
    dropped (suc k) = refl

    append_nil : (l : List Float) → l ++ [] ≡ l
    append_nil [] = refl
    append_nil (y ∷ l) = ap (λ (t : List Float). y ∷ t) (append_nil l)

    nil : (l : List Float) (k : ℕ) → l ++ drop k none ≡ l
    nil l k = ap (λ (t : List Float). l ++ t) (dropped k) ∙ append_nil l

-- ---- the lent lists

pub inside_of : (n k : ℕ) (l : List Float) (m : ℕ) → n ≤ 1024 → k < m → m ≤ 14 → m * n ≤ length l → Inside n k l
inside_of n k l m f h g r = record { few = f; one_of = omega arith; inside = le_trans {m = m * n} (before n k m h) r }

-- a list of the frame, written to its first n cells
back : (n : ℕ) (s l : List Float) → length s ≡ n → take n (s ++ drop n l) ≡ s
back n s l e = take_at s (drop n l) n e

-- such a list has n cells to show
pub written_room : (n : ℕ) (s : List Float) → n ≤ 1024 → length s ≡ length (take n frame) → n ≤ length (s ++ drop n frame)
written_room n s h e = le_trans {m = length s} (le_of_eq (sym (e ∙ front_long n frame h))) (le_trans {m = length s + length (drop n frame)} (le-add_right (length s) (length (drop n frame))) (le_of_eq (sym (length-append s (drop n frame)))))

pub written_long : (n : ℕ) (s : List Float) → n ≤ 1024 → length s ≡ length (take n frame) → length (take n (s ++ drop n frame)) ≡ n
written_long n s h e = front_long n (s ++ drop n frame) (written_room n s h e)

module _ (c : Container) (n : ℕ) (x : List Float) (codes counts : List ℕ) (few : n ≤ 1024) where
  pub lines_placed : {inner : Float} {s o p q r : List Float} → length s ≡ length (take n frame) → length o ≡ length (take n frame) → AlignedLines c n x codes counts (take n frame) (take n frame) inner s o
      → ColumnStored n 0 (take n (s ++ drop n frame)) p q → ColumnStored n 1 (take n (o ++ drop n frame)) q r → LinesPlaced c n x codes counts inner p r
  lines_placed {inner} {s} {o} {p} {q} {r} ls lo h a b =
      let w = front_long n frame few in
      let z = fronts n 1024 few in
      let e0 : s ≡ column n 0 r = sym (b.others 0 (inl (omega arith)) ∙ a.here ∙ back n s frame (ls ∙ w)) in
      let e1 : o ≡ column n 1 r = sym (b.here ∙ back n o frame (lo ∙ w)) in
      record {
        aligned = subst (λ (y : List Float). AlignedLines c n x codes counts (zeros n) (zeros n) inner y (column n 1 r)) e0
            (subst (λ (y : List Float). AlignedLines c n x codes counts (zeros n) (zeros n) inner s y) e1
            (subst (λ (y : List Float). AlignedLines c n x codes counts y y inner s o) z h));
        past = record { long = b.long ∙ a.long; rest = b.past 2 (omega arith) ∙ a.past 2 (omega arith) };
      }

  pub items_across : {lines s t e o p q : List Float} → length s ≡ length (take n frame) → length t ≡ length (take n frame) → length e ≡ length (take n frame) → length o ≡ length (take n frame)
      → PlacedAcross c n x codes counts lines (take n frame) (take n frame) (take n frame) (take n frame) s t e o
      → FourStored n 4 (take n (s ++ drop n frame)) (take n (o ++ drop n frame)) (take n (t ++ drop n frame)) (take n (e ++ drop n frame)) p q → ItemsAcross c n x codes counts lines p q
  items_across {lines} {s} {t} {e} {o} {p} {q} ls lt le lo h f =
      let w = front_long n frame few in
      let z = fronts n 1024 few in
      record {
        across =
            subst (λ (y : List Float). PlacedAcross c n x codes counts lines (zeros n) (zeros n) (zeros n) (zeros n) y (column n 6 q) (column n 7 q) (column n 5 q)) (sym (f.first ∙ back n s frame (ls ∙ w)))
            (subst (λ (y : List Float). PlacedAcross c n x codes counts lines (zeros n) (zeros n) (zeros n) (zeros n) s y (column n 7 q) (column n 5 q)) (sym (f.third ∙ back n t frame (lt ∙ w)))
            (subst (λ (y : List Float). PlacedAcross c n x codes counts lines (zeros n) (zeros n) (zeros n) (zeros n) s t y (column n 5 q)) (sym (f.fourth ∙ back n e frame (le ∙ w)))
            (subst (λ (y : List Float). PlacedAcross c n x codes counts lines (zeros n) (zeros n) (zeros n) (zeros n) s t e y) (sym (f.second ∙ back n o frame (lo ∙ w)))
            (subst (λ (y : List Float). PlacedAcross c n x codes counts lines y y y y s t e o) z h))));
        others = λ j g. f.others j (inl g);
        past = record { long = f.long; rest = f.past 8 (omega arith) };
      }
