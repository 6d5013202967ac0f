-- What a run is given where a call has accepted its sizes, and what the run's division is by the plain rule. Assumes nothing.
use mathlib.Core.Path.{◌≡◌, refl, sym, ap, subst, ◌∙◌}
use mathlib.Core.Bool.{Bool, true, false, not}
use mathlib.Core.Logic.{inl, inr}
use mathlib.Core.List.{List, [], ◌∷◌, map}
use Prim.Native.Nat.{ℕ, zero, suc, ◌+◌, ◌≤◌, ◌<◌, zero-le}
use native.Mathlib.Omega.{arith}
use lib.Dec.{T}
use lib.ListN.{length, get_or, length-map}
use lib.IntN.{ℤ, pos, negsuc, nat_abs}
use lib.Ieee.{Float, nan, inf, fin, binary64, is_nan, neg, of_bits}
use lib.Ieee.Exact.{HasValue}
use Rattle.std.specs.declared.option.Option.{Option}
use Rattle.std.specs.declared.option.Option.TheVariants.{Some, None}
use Rattle.balance_sums.specs.declared.Units.{Units}
use Rattle.grid.specs.Grid.{sixty_fourths, signed}
use Rattle.grid.specs.Values.{Length}
use Rattle.grid.proofs.Meaning.{at_of_grid}
use Rattle.lists.specs.Cells.{sum_up_to}
use Rattle.keywords.specs.declared.AvailableSpace.{AvailableSpace}
use Rattle.keywords.specs.declared.AvailableSpace.TheVariants.{Definite, MinContent, MaxContent}
use Rattle.break_greedy.specs.Breaking.{definite, limit_of}
use Rattle.break_greedy.specs.Calls.{units}
use Rattle.break_greedy.specs.Steps.{Breakable, LengthLimit}
use Rattle.balance_rule.specs.Sizes.{pre}
use Rattle.balance_tables.specs.Pixels.{scaled_f, SizeIs, SizeOut}
use Rattle.balance_tables.specs.Tables.{LimitIs}
use Rattle.balance_rule.specs.Natural.{natural}
use Rattle.balance_run.specs.Run.{RunIn, RunOut}
use Rattle.balance_division.specs.Divided.{BalancedCounts}
use Rattle.balance_rule.proofs.SizesLaws.{pre_step}
use Rattle.balance_tables.proofs.PixelsLaws.{limit_pixels}
use Rattle.balance_tables.proofs.TablesLaws.{limit-max, limit_definite}
use Rattle.balance_rule.proofs.Bridge.{size, balanced_is, none_balanced}

-- ---- one length
pub not_nan : (x : Float) → Length x → T (not (is_nan x))
unfolding is_nan
not_nan x l = go x (at_of_grid x l.grid).value
  where
    go : (y : Float) → HasValue y (at_of_grid x l.grid).sign (at_of_grid x l.grid).size 64 → T (not (is_nan y))
    go nan v = v
    go (inf s) v = tt
    go (fin s m e) v = tt

size_signed : (s : Bool) (m : ℕ) (v : Float) → HasValue v s m 64 → SizeIs v (size (signed s m))
size_signed false m v h = record { is = inl h }
size_signed true zero v h = record { is = inr (0, h, refl) }
size_signed true (suc m) v h = record { is = inr (suc m, h, refl) }

pub size_is : (x : Float) → Length x → SizeIs x (size (sixty_fourths x))
size_is x l =
    let a = at_of_grid x l.grid in
    subst (λ (z : ℤ). SizeIs x (size z)) a.total (size_signed a.sign a.size x a.value)

pub limit_is : (x : Float) → Length x → LimitIs (natural (definite (sixty_fourths x))) (Some (record { 0 = scaled_f x }))
limit_is x l = limit_pixels x (sixty_fourths x) (omega (arith, l.small)) (at_of_grid x l.grid)

-- ---- the limit, by its cases
definite_length : (limit : AvailableSpace) (x : Float) → limit ≡ Definite x → LengthLimit limit → Length x
definite_length limit x e l = rw e at l

pub definite_not_nan : (limit : AvailableSpace) (x : Float) → limit ≡ Definite x → LengthLimit limit → T (not (is_nan x))
definite_not_nan limit x e l = not_nan x (definite_length limit x e l)

pub most_definite : (limit : AvailableSpace) (x : Float) (most : Units) → limit ≡ Definite x → LengthLimit limit → most.0 ≡ scaled_f x → LimitIs (natural (limit_of limit)) (Some most)
unfolding limit_of
most_definite limit x most e l q = rw e (subst (λ (r : Float). LimitIs (natural (definite (sixty_fourths x))) (Some (record { 0 = r }))) (sym q) (limit_is x (definite_length limit x e l)))

pub most_min : (limit : AvailableSpace) → limit ≡ MinContent → LimitIs (natural (limit_of limit)) (Some (record { 0 = neg (of_bits binary64 4607182418800017408) }))
unfolding limit_of of_bits neg
most_min limit e = rw e (limit_definite (negsuc 0) (neg (of_bits binary64 4607182418800017408)) (record { sign = true; size = 1; value = (refl, refl); total = refl }))

pub most_max : (limit : AvailableSpace) → limit ≡ MaxContent → LimitIs (natural (limit_of limit)) None
unfolding limit_of
most_max limit e = rw e limit-max

-- ---- the sizes
size_le : (z : ℤ) → size z ≤ nat_abs z
size_le (pos n) = omega arith
size_le (negsuc n) = zero-le

get_or-map_at : {A : Type 0} {B : Type 0} (f : A → B) (l : List A) (i : ℕ) (d : A) (e : B) → i < length l → get_or (map f l) i e ≡ f (get_or l i d)
get_or-map_at f [] i d e h = absurd (omega arith)
get_or-map_at f (x ∷ l) zero d e h = refl
get_or-map_at f (x ∷ l) (suc i) d e h = get_or-map_at f l i d e (omega arith)

pub cell : (sizes : List Float) (i : ℕ) → i < length sizes → get_or (map size (units sizes)) i 1 ≡ size (sixty_fourths (get_or sizes i nan))
cell sizes i h =
    get_or-map_at size (units sizes) i (pos 0) 1 (omega (arith, length-map sizes sixty_fourths))
    ∙ ap size (get_or-map_at sixty_fourths sizes i nan (pos 0) h)

pub counted : (sizes : List Float) → length (map size (units sizes)) ≡ length sizes
counted sizes = length-map (units sizes) size ∙ length-map sizes sixty_fourths

-- no sum of sizes and gaps is above the one that the call checks
pub under : (sizes : List Float) (gap : Float) (g : ℕ) → sixty_fourths gap ≡ pos g → (i : ℕ) → i ≤ length sizes
    → pre g (map size (units sizes)) i ≤ sum_up_to (λ j. nat_abs (sixty_fourths (get_or sizes j nan)) + nat_abs (sixty_fourths gap)) i
unfolding sum_up_to
under sizes gap g e zero h = zero-le
under sizes gap g e (suc i) h =
    omega (
      arith,
      under sizes gap g e i (omega arith),
      pre_step g (map size (units sizes)) i (omega (arith, counted sizes)),
      cell sizes i (omega arith),
      size_le (sixty_fourths (get_or sizes i nan)),
      ap nat_abs e,
    )

module _ {limit : AvailableSpace} {gap : Float} {sizes : List Float} (B : Breakable limit gap sizes) where
  pub sizes_not_nan : (i : ℕ) → i < length sizes → T (not (is_nan (get_or sizes i nan)))
  sizes_not_nan i h = not_nan (get_or sizes i nan) (B.each.each i h)

  abbrev pub run_given : {gapU : Float} {most : Option Units} → SizeOut gap gapU → LimitIs (natural (limit_of limit)) most → RunIn sizes gapU most
  run_given G L =
      let g : ℕ = B.gap_not_below_0.0 in
      let e : sixty_fourths gap ≡ pos g = B.gap_not_below_0.1 in
      record {
        L = natural (limit_of limit);
        g = g;
        xs = map size (units sizes);
        sizes_are = record {
          count = sym (counted sizes);
          gap_is = G.holds g (omega (arith, B.spacing.small, ap nat_abs e)) (subst (λ (z : ℤ). SizeIs gap (size z)) e (size_is gap B.spacing));
          sizes_are = λ i h.
              let k : i < length sizes = omega (arith, counted sizes) in
              subst (λ (x : ℕ). SizeIs (get_or sizes i nan) x) (sym (cell sizes i k)) (size_is (get_or sizes i nan) (B.each.each i k));
          small = omega (arith, B.small, under sizes gap g e (length sizes) (omega arith), ap (pre g (map size (units sizes))) (counted sizes));
        };
        limit_is = L;
      }

  pub divided : {gapU : Float} {most : Option Units} {minimum r : ℕ} {counts : List ℕ} → SizeOut gap gapU → LimitIs (natural (limit_of limit)) most
      → RunOut sizes gapU most minimum r counts → BalancedCounts limit gap minimum sizes r counts
  divided {minimum = minimum} G L O =
      let I = run_given G L in
      record {
        division = O.division;
        balanced = rw B.gap_not_below_0.1 (balanced_is (limit_of limit) I.g (units sizes) minimum O.division (O.balanced I));
        lines = O.lines;
        counts_are = O.counts_are;
      }

-- no items
pub none_divided : (limit : AvailableSpace) (gap : Float) (minimum : ℕ) (sizes : List Float) (counts : List ℕ) → length sizes ≡ 0 → length counts ≡ length sizes → BalancedCounts limit gap minimum sizes 0 counts
none_divided limit gap minimum [] [] e h = record { division = []; balanced = none_balanced (limit_of limit) (sixty_fourths gap) minimum; lines = refl; counts_are = refl }
none_divided limit gap minimum [] (x ∷ counts) e h = absurd (omega arith)
none_divided limit gap minimum (x ∷ sizes) counts e h = absurd (omega arith)
