-- The cells of greedy breaking, on plain values: what the loop of `greedy_counts` keeps, its start, turn and end.
-- The counts of the lines so far are followed by those of the lines to come. Assumes nothing.
use mathlib.Core.Path.{◌≡◌, refl, sym, ap, ap₂, ◌∙◌}
use mathlib.Core.List.{List, [], ◌∷◌, ◌++◌, append-nil, append_assoc}
use Prim.Native.Nat.{ℕ, suc, ◌+◌, ◌-◌, ◌≤◌, ◌<◌, zero-le}
use native.Mathlib.Nat.{le_refl, le-suc, add-sub_of_le}
use native.Mathlib.Numerals.{add-one}
use native.Mathlib.Omega.{arith}
use lib.ListN.{length, get_or, take, drop, set, replicate, length-set, length-append, length-drop, drop_of_length-le, take-append-drop}
use lib.Seq.{drop-cons, drop-drop, drop-set-lt, take-suc-set, length-take-le, take_at, drop-append-add}
use lib.IntN.{ℤ, pos}
use Rattle.lists.specs.Cells.{filled}
use Rattle.lists.proofs.ByLine.{later}
use Rattle.break_greedy.specs.Breaking.{Limit, taken, greedy}
use Rattle.break_greedy.specs.Calls.{count_cells}
use Rattle.break_greedy.specs.Steps.{Counted, Listed}
use Rattle.break_greedy.proofs.Taken.{taken-le}
use Rattle.break_greedy.proofs.Lines.{greedy-none, greedy-more}

-- ---- the lines from an item on

abbrev pub line_end : Limit → ℤ → List ℤ → ℕ → ℕ
line_end limit gap l start = start + suc (taken limit gap (get_or l start (pos 0) ∷ []) (drop (suc start) l))

module _ (limit : Limit) (gap : ℤ) (l : List ℤ) (start : ℕ) (h : start < length l) where
  pub end_inside : (start < line_end limit gap l start) × (line_end limit gap l start ≤ length l)
  end_inside =
      let t = taken-le limit gap (get_or l start (pos 0) ∷ []) (drop (suc start) l) in
      let e = length-drop (suc start) l in
      (omega arith, omega arith)

  from_is : greedy limit gap (drop start l) ≡ (line_end limit gap l start - start) ∷ greedy limit gap (drop (line_end limit gap l start) l)
  from_is =
      let k = taken limit gap (get_or l start (pos 0) ∷ []) (drop (suc start) l) in
      ap (greedy limit gap) (drop-cons l start (pos 0) h)
      ∙ greedy-more limit gap (get_or l start (pos 0)) (drop (suc start) l)
      ∙ ap₂ (λ (n : ℕ) (r : List ℤ). n ∷ greedy limit gap r) (size start k) (drop-drop k (suc start) l ∙ ap (λ (n : ℕ). drop n l) (flip start k))
    where
      size : (s k : ℕ) → suc k ≡ s + suc k - s
      size s k = omega arith

      flip : (s k : ℕ) → suc s + k ≡ s + suc k
      flip s k = omega arith

-- ---- the counts

-- n lines end at `start`, and their counts are in the first cells
pub record Inv (limit : Limit) (gap : ℤ) (l : List ℤ) (passed counts : List ℕ) (start n : ℕ) : Type 0 where
  pub inside : start ≤ length l
  pub fewer : n ≤ start
  pub long : length counts ≡ length passed
  pub front : take n counts ++ greedy limit gap (drop start l) ≡ greedy limit gap l
  pub back : drop n counts ≡ drop n passed

module _ (limit : Limit) (gap : ℤ) (l : List ℤ) (passed : List ℕ) (room : length l ≤ length passed) where
  pub begin : Inv limit gap l passed passed 0 0
  begin = record { inside = zero-le; fewer = le_refl 0; long = refl; front = refl; back = refl }

  pub turn : (counts : List ℕ) (start n : ℕ) → start < length l → Inv limit gap l passed counts start n → (end : ℕ) → end ≡ line_end limit gap l start → Inv limit gap l passed (set counts n (end - start)) end (n + 1)
  turn counts start n h inv end e =
      let v = end - start in
      let i = end_inside limit gap l start h in
      let f = inv.fewer in
      let k : n < length counts = omega (arith, inv.long) in
      record {
        inside = omega arith;
        fewer = omega arith;
        long = length-set counts n v ∙ inv.long;
        front =
            ap (λ (m : ℕ). take m (set counts n v) ++ greedy limit gap (drop end l)) (add-one n)
            ∙ ap (λ (t : List ℕ). t ++ greedy limit gap (drop end l)) (take-suc-set counts n v k)
            ∙ append_assoc (take n counts) (v ∷ []) (greedy limit gap (drop end l))
            ∙ ap (λ (m : ℕ). take n counts ++ (m - start) ∷ greedy limit gap (drop m l)) e
            ∙ ap (λ (t : List ℕ). take n counts ++ t) (sym (from_is limit gap l start h))
            ∙ inv.front;
        back =
            ap (λ (m : ℕ). drop m (set counts n v)) (add-one n)
            ∙ drop-set-lt (suc n) counts n v (le_refl (suc n))
            ∙ later n (suc n) counts passed (le-suc n) inv.back
            ∙ ap (λ (m : ℕ). drop m passed) (sym (add-one n));
      }

  pub finish : (counts : List ℕ) (start n : ℕ) → Inv limit gap l passed counts start n → length l ≤ start → Counted (greedy limit gap l) passed n counts
  finish counts start n inv h =
      let w : take n counts ≡ greedy limit gap l =
      sym (append-nil (take n counts)) ∙ ap (λ (t : List ℕ). take n counts ++ t) (sym (ap (greedy limit gap) (drop_of_length-le l h) ∙ greedy-none limit gap)) ∙ inv.front in
      let f = inv.fewer in
      let j = inv.inside in
      record {
        number = sym (ap length (sym w) ∙ length-take-le n counts (omega (arith, inv.long)));
        cells = sym (take-append-drop n counts) ∙ ap₂ (λ (t r : List ℕ). t ++ r) w inv.back;
      }

-- ---- the cells past the last line

pub counted_long : {lines before cells : List ℕ} {r : ℕ} → Counted lines before r cells → r ≤ length before → length cells ≡ length before
counted_long {lines} {before} {cells} {r} c h = omega (arith, ap length c.cells, length-append lines (drop r before), length-drop r before, c.number)

-- both together: the answer list as the call leaves it
pub all_written : (lines before cells : List ℕ) (r n : ℕ) → Counted lines before r cells → r ≤ n → filled 0 r n cells ≡ count_cells n lines before
all_written lines before cells r n c h =
    ap (filled 0 r n) c.cells
    ∙ ap₂ (λ (t u : List ℕ). t ++ (replicate (n - r) 0 ++ u)) (take_at lines (drop r before) r (sym c.number)) past
    ∙ ap (λ (k : ℕ). lines ++ (replicate (n - k) 0 ++ drop n before)) c.number
  where
    past : drop n (lines ++ drop r before) ≡ drop n before
    past =
        ap (λ (k : ℕ). drop k (lines ++ drop r before)) (sym (add-sub_of_le h) ∙ ap (λ (k : ℕ). k + (n - r)) c.number)
        ∙ drop-append-add lines (drop r before) (n - r)
        ∙ drop-drop (n - r) r before
        ∙ ap (λ (k : ℕ). drop k before) (add-sub_of_le h)

pub listed : {lines before cells : List ℕ} {r : ℕ} (n : ℕ) → Counted lines before r cells → r ≤ n → Listed n lines before r (filled 0 r n cells)
listed {lines} {before} {cells} {r} n c h = record { number = c.number; cells = all_written lines before cells r n c h }
