-- The call for one line: where it accepts, none of the checks refuses a target that it hands on. What the checks show of the numbers as they are read. Assumes nothing.
use mathlib.Core.Path.{◌≡◌, refl, sym, ap, ◌∙◌, subst}
use mathlib.Core.Logic.{◌⊎◌, inl, inr}
use mathlib.Core.Bool.{Bool, true, false, not, cond, ◌&&◌}
use mathlib.Core.List.{List, [], ◌∷◌, ◌++◌, map}
use Prim.Native.Nat.{ℕ, zero, suc, ◌*◌, ◌≤◌, ◌<◌}
use native.Mathlib.Nat.{le_trans, le_of_eq, zero-mul}
use native.Mathlib.Omega.{arith}
use lib.Dec.{T, eqb}
use lib.ListN.{length, get_or, drop}
use lib.IntN.{ℤ, pos}
use lib.Ieee.{Float, nan, inf, fin, binary32, up, down, le, fits, of_bits}
use lib.Ieee.Fits.{and_l, and_r}
use lib.Ieee.Scale.{finite}
use Rattle.grid.specs.declared.Sixtyfourths.{Sixtyfourths}
use Rattle.grid.specs.Grid.{on_grid, within, cleaned}
use Rattle.grid.specs.Values.{At}
use Rattle.grid.proofs.Exact.{le_at}
use Rattle.checks.specs.Domain.{float, code, not_finite, off_grid, out_of_range, in_range, summed, checked}
use Rattle.checks.specs.Lists.{beside_at}
use Rattle.checks.specs.Optional.{optional}
use Rattle.checks.specs.Marks.{Fine, AllFine}
use Rattle.checks.specs.declared.Kind.TheVariants as kind
use Rattle.std.specs.declared.result.Result.TheVariants.{Ok}
use Rattle.checks.proofs.Checks.{accepted, then_passed, summed_passed, fine-append, fine-factor, T_of}
use Rattle.flex.specs.declared.Item.{Item}
use Rattle.flex.specs.declared.Line.{Line}
use Rattle.lists.specs.Cells.{each}
use Rattle.grid.specs.Floats.{nought}
use Rattle.flex.specs.Flex.{Cell, after, round, begun, start_cell, grows, line_of, targets, outer_sum}
use Rattle.flex.specs.Items.{Lists, count, item_at, items_of}
use Rattle.lists.proofs.Each.{length-each}
use Rattle.flex_checks.specs.Input.{flex_shape, plain_at, input_of}
use Rattle.flex_line_call.specs.Call.{flexed, line_verdict, FlexedLine}
use Rattle.flex_checks.proofs.Accept.{even_of}
use Rattle.flex_reach.specs.Reach.{IsSize, IsMargin, IsFactor, IsItem, IsLine, Each, HandedOn}
use Rattle.flex_reach.proofs.Reach.{reach}

-- ---- what the checks say of a number

-- ---- as it is read

clean_grid : (x : Float) → T (on_grid x) → T (on_grid (cleaned x))
unfolding on_grid cleaned
clean_grid nan h = h
clean_grid (inf s) h = h
clean_grid (fin s zero e) h = h
clean_grid (fin s (suc m) e) h = h

clean_within : (n : ℕ) (x : Float) → T (within n x) → T (within n (cleaned x))
unfolding within cleaned
clean_within n nan h = h
clean_within n (inf s) h = h
clean_within n (fin s zero e) h = h
clean_within n (fin s (suc m) e) h = h

clean_fits : (x : Float) → T (fits binary32 x) → T (fits binary32 (cleaned x))
unfolding fits cleaned
clean_fits nan h = h
clean_fits (inf s) h = h
clean_fits (fin s zero e) h = h
clean_fits (fin s (suc m) e) h = h

zero_above : (e : ℤ) → T (le nought (fin false 0 e))
zero_above e = subst T (sym (le_at 1 (native.Mathlib.Nat.zero-lt-suc 0) none (record { sign = false; size = 0; value = (refl, ap (λ (n : ℕ). n * 1) (zero-mul (up e)) ∙ sym (zero-mul (down e))); total = refl }))) tt
  where
    none : At 1 nought (pos 0)
    none = unfold of_bits in record { sign = false; size = 0; value = (refl, refl); total = refl }

clean_above : (x : Float) → T (le nought x) → T (le nought (cleaned x))
unfolding cleaned
clean_above nan h = h
clean_above (inf s) h = h
clean_above (fin s zero e) h = zero_above e
clean_above (fin s (suc m) e) h = h

pub size_read : {x : Float} → Fine (float kind.Size x) → IsSize (cleaned x)
unfolding off_grid out_of_range in_range
size_read {x} f = record {
  grid = clean_grid x (T_of (on_grid x) f.grid);
  small = clean_within 262144 x (and_l (within 262144 x) (le nought x) (T_of (within 262144 x && le nought x) f.range));
  above = clean_above x (and_r (within 262144 x) (le nought x) (T_of (within 262144 x && le nought x) f.range));
}

margin-read : {x : Float} → Fine (float kind.Margin x) → IsMargin (cleaned x)
unfolding off_grid out_of_range in_range
margin-read {x} f = record { grid = clean_grid x (T_of (on_grid x) f.grid); small = clean_within 131072 x (T_of (within 131072 x) f.range) }

factor-read : {x : Float} → T (fits binary32 x) → Fine (float kind.Factor x) → IsFactor (cleaned x)
factor-read {x} s f = let p = fine-factor f in record { single = clean_fits x s; small = clean_within 1024 x p.1; above = clean_above x p.2 }

no_margin : IsMargin nought
unfolding on_grid within of_bits
no_margin = record { grid = tt; small = tt }

pub margin_given : (c : ℕ) (x : Float) → AllFine (code 1 c ∷ optional (eqb c 0) (float kind.Margin x)) → IsMargin (cond (eqb c 0) (cleaned x) nought)
margin_given c x h = go (eqb c 0) h.1
  where
    go : (b : Bool) → AllFine (optional b (float kind.Margin x)) → IsMargin (cond b (cleaned x) nought)
    go true f = margin-read f.0
    go false f = no_margin

maximum_given : (c : ℕ) (x : Float) → AllFine (code 1 c ∷ optional (eqb c 1) (float kind.Size x)) → (cond (eqb c 1) (cleaned x) (inf false) ≡ inf false) ⊎ IsSize (cond (eqb c 1) (cleaned x) (inf false))
maximum_given c x h = go (eqb c 1) h.1
  where
    go : (b : Bool) → AllFine (optional b (float kind.Size x)) → (cond b (cleaned x) (inf false) ≡ inf false) ⊎ IsSize (cond b (cleaned x) (inf false))
    go true f = inr (size_read f.0)
    go false f = inl refl

-- ---- what a later step checks

pub handed_fine : {x : Float} → HandedOn x → Fine (float kind.Worked x)
unfolding not_finite off_grid out_of_range in_range
handed_fine {x} h = record { finite = no (finite x) h.not_3; grid = refl; range = no (within 16777216 x) h.not_5 }
  where
    no : (b : Bool) → T b → not b ≡ false
    no true t = refl
    no false t = absurd t

-- cell i of what is written
pub cell : (l rest : List Float) → Each HandedOn l → (i : ℕ) → i < length l → Fine (float kind.Worked (get_or (l ++ rest) i nan))
cell [] rest h i k = absurd (native.Mathlib.Nat.not-suc-le-zero k)
cell (x ∷ l) rest h zero k = handed_fine h.0
cell (x ∷ l) rest h (suc i) k = cell l rest h.1 i (native.Mathlib.Nat.le_of_suc-le-suc k)

-- ---- the call

-- floats of 32 bits
abbrev pub Singles : List Float → ℕ → Type 0
Singles xs n = (i : ℕ) → i < n → T (fits binary32 (get_or xs i nan))

pub each_is : (n : ℕ) (f : ℕ → Item) → ((i : ℕ) → i < n → IsItem (f i)) → Each IsItem (each n f)
unfolding each
each_is zero f h = tt
each_is (suc n) f h = snoc (each n f) (each_is n f (λ i l. h i (omega arith)))
  where
    snoc : (l : List Item) → Each IsItem l → Each IsItem (l ++ (f n ∷ []))
    snoc [] e = (h n (omega arith), tt)
    snoc (x ∷ l) e = (e.0, snoc l e.1)

long_map : {A B : Type 0} (f : A → B) (l : List A) → length (map f l) ≡ length l
long_map f [] = refl
long_map f (a ∷ l) = ap suc (long_map f l)

long_after : (ln : Line) (k : ℕ) (l : List Cell) → length (after ln k l) ≡ length l
unfolding after round
long_after ln zero l = refl
long_after ln (suc k) l = long_map _ (after ln k l) ∙ long_after ln k l

pub long_targets : (inner gap : Float) (items : List Item) (n : ℕ) → length (targets inner gap items n) ≡ length items
long_targets inner gap items n = long_map (λ c. cleaned c.target) (after (line_of inner gap items) n (begun inner gap items)) ∙ long_after (line_of inner gap items) n (begun inner gap items) ∙ long_map (start_cell (grows inner gap items)) items

module _ (inner gap : Float) (ls : Lists) (grow : Singles ls.grow (count ls)) (shrink : Singles ls.shrink (count ls)) where
  item_is : ((i : ℕ) → i < count ls → AllFine ((input_of inner gap ls).item i)) → (i : ℕ) → i < count ls → IsItem (item_at ls i)
  item_is s i h =
      let M = beside_at kind.Size 1 ls.maximum ls.has_maximum i in
      let S = beside_at kind.Margin 0 ls.start ls.auto_start i in
      let E = beside_at kind.Margin 0 ls.end ls.auto_end i in
      let a = fine-append (plain_at ls.base ls.minimum ls.edges ls.grow ls.shrink i) (M ++ (S ++ E)) (s i h) in
      let b = fine-append M (S ++ E) a.1 in
      let d = fine-append S E b.1 in
      record {
        base = size_read a.0.0;
        minimum = size_read a.0.1.0;
        maximum = maximum_given (get_or ls.has_maximum i 0) (get_or ls.maximum i nan) b.0;
        edges = size_read a.0.1.1.0;
        grow = factor-read (grow i h) a.0.1.1.1.0;
        shrink = factor-read (shrink i h) a.0.1.1.1.1.0;
        start = margin_given (get_or ls.auto_start i 0) (get_or ls.start i nan) d.0;
        end = margin_given (get_or ls.auto_end i 0) (get_or ls.end i nan) d.1;
      }

  pub line_of_checks : Fine (float kind.Size inner) → Fine (float kind.Size gap) → ((i : ℕ) → i < count ls → AllFine ((input_of inner gap ls).item i)) → count ls ≤ 1024 → summed (outer_sum (cleaned gap) (items_of ls)) ≡ Ok tt
      → IsLine (cleaned inner) (cleaned gap) (items_of ls)
  line_of_checks i g s few sum = record {
    inner_is = size_read i;
    gap_is = size_read g;
    items_are = each_is (count ls) (item_at ls) (item_is s);
    few = le_trans (le_of_eq (length-each (count ls) (item_at ls))) few;
    sum = summed_passed (outer_sum (cleaned gap) (items_of ls)) sum;
  }

  pub line_is : (room : ℕ) → line_verdict inner gap ls room ≡ Ok tt → IsLine (cleaned inner) (cleaned gap) (items_of ls)
  unfolding line_verdict
  line_is room e =
      let p = then_passed (flex_shape ls room) (checked (input_of inner gap ls) (summed (outer_sum (cleaned gap) (items_of ls)))) e in
      let q = accepted (input_of inner gap ls) (summed (outer_sum (cleaned gap) (items_of ls))) p.1 in
      line_of_checks q.0.container.0 q.0.container.1.0 q.0.items (even_of ls room p.0).0.few q.1

  -- the targets that an accepted call writes are numbers that a later step takes
  pub line_reach : (free : Sixtyfourths) (rounds : ℕ) (old new : List Float) → FlexedLine inner gap ls (flexed free rounds) old new → (i : ℕ) → i < count ls → Fine (float kind.Worked (get_or new i nan))
  line_reach free rounds old new (passed, f) i h =
      let items = items_of ls in
      let ts = targets (cleaned inner) (cleaned gap) items rounds in
      subst (λ (l : List Float). Fine (float kind.Worked (get_or l i nan))) (sym f.cells)
      (cell ts (drop (length items) old) (reach (cleaned inner) (cleaned gap) items (line_is (length old) passed) rounds f.number) i
      (le_trans h (le_of_eq (sym (long_targets (cleaned inner) (cleaned gap) items rounds ∙ length-each (count ls) (item_at ls))))))
