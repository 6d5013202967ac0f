-- What the checks show of a call: its lists are of one length, and its items, as they are read, are measured. By the laws of what was accepted. Assumes nothing.
use mathlib.Core.Path.{◌≡◌, refl, sym, ap, ◌∙◌, subst}
use mathlib.Core.Logic.{◌⊎◌, inl, inr}
use mathlib.Core.Bool.{Bool, true, false, cond}
use mathlib.Core.List.{List, [], ◌∷◌, ◌++◌}
use Prim.Native.Nat.{ℕ, zero, suc, ◌*◌, ◌/◌, ◌≤◌, ◌<◌, zero-le}
use native.Mathlib.Nat.{zero-mul, zero-div}
use lib.Dec.{T, eqb}
use lib.ListN.{length, get_or}
use lib.IntN.{pos, neg_ℤ, nat_abs}
use lib.Ieee.{Float, nan, inf, fin, up, down, of_bits}
use Rattle.grid.specs.Grid.{on_grid, sixty_fourths, cleaned}
use Rattle.grid.specs.Values.{Length}
use Rattle.checks.specs.Domain.{Input, float, code, Verdict, checked, then}
use Rattle.checks.specs.Lists.{beside_at}
use Rattle.checks.specs.Optional.{optional}
use Rattle.checks.specs.Marks.{least_mark, judged, AllFine, SoundInput}
use Rattle.checks.specs.declared.Kind.TheVariants.{Size}
use Rattle.checks.specs.declared.Kind.TheVariants as kind
use Rattle.checks.specs.declared.Refusal.{Refusal}
use Rattle.std.specs.declared.result.Result.TheVariants.{Ok, Err}
use Rattle.checks.proofs.Checks.{judged-checked, then_passed, fine-append, fine_size, fine-margin}
use Rattle.checks.proofs.Marked.{shaped}
use Rattle.grid.specs.Floats.{nought}
use Rattle.flex.specs.Items.{Lists, count, item_at}
use Rattle.flex_checks.specs.Input.{flex_shape, plain_at, input_of}
use Rattle.flex.specs.Accepted.{Margin, Measured, Even}

-- ---- checks 1 and 2

-- the lengths of the lists but the first
abbrev others : Lists → List ℕ
others ls =
    length ls.minimum ∷ length ls.maximum ∷ length ls.has_maximum ∷ length ls.edges ∷ length ls.grow ∷ length ls.shrink ∷ length ls.start ∷ length ls.end ∷ length ls.auto_start ∷ length ls.auto_end ∷ []

pub even_of : (ls : Lists) (room : ℕ) → flex_shape ls room ≡ Ok tt → Even ls × (count ls ≤ room)
even_of ls room h =
    let p = shaped (count ls) (others ls) (room ∷ []) h in
    let a = p.1 in (
      record {
        few = p.0;
        minimum = a.0;
        maximum = a.1.0;
        has_maximum = a.1.1.0;
        edges = a.1.1.1.0;
        grow = a.1.1.1.1.0;
        shrink = a.1.1.1.1.1.0;
        start = a.1.1.1.1.1.1.0;
        end = a.1.1.1.1.1.1.1.0;
        auto_start = a.1.1.1.1.1.1.1.1.0;
        auto_end = a.1.1.1.1.1.1.1.1.1.0;
      },
      p.2.0,
    )

-- ---- a number as it is read

nothing : (a b : ℕ) → 0 * a * 64 / b ≡ 0
nothing a b = ap (λ (n : ℕ). n * 64 / b) (zero-mul a) ∙ zero-div b

clean_units : (x : Float) → sixty_fourths (cleaned x) ≡ sixty_fourths x
unfolding sixty_fourths cleaned
clean_units nan = refl
clean_units (inf s) = refl
clean_units (fin true zero e) = ap (λ (q : ℕ). pos q) (nothing (up e) (down e)) ∙ sym (ap (λ (q : ℕ). neg_ℤ (pos q)) (nothing (up e) (down e)))
clean_units (fin false zero e) = refl
clean_units (fin s (suc m) e) = refl

clean_grid : (x : Float) → on_grid (cleaned x) ≡ on_grid x
unfolding on_grid cleaned
clean_grid nan = refl
clean_grid (inf s) = refl
clean_grid (fin s zero e) = refl
clean_grid (fin s (suc m) e) = refl

pub clean_length : (x : Float) → Length x → Length (cleaned x)
clean_length x l = record { grid = subst T (sym (clean_grid x)) l.grid; small = subst (λ z. nat_abs z ≤ 16777216) (sym (clean_units x)) l.small }

clean_margin : (x : Float) → Length x × (nat_abs (sixty_fourths x) ≤ 8388608) → Margin (cleaned x)
clean_margin x l = record { length = clean_length x l.0; small = subst (λ z. nat_abs z ≤ 8388608) (sym (clean_units x)) l.1 }

none-margin : Margin nought
unfolding on_grid sixty_fourths of_bits
none-margin = record { length = record { grid = tt; small = zero-le }; small = zero-le }

-- ---- an item as it is read

given_margin : (c : ℕ) (x : Float) → AllFine (code 1 c ∷ optional (eqb c 0) (float kind.Margin x)) → Margin (cond (eqb c 0) (cleaned x) nought)
given_margin c x h = go (eqb c 0) h.1
  where
    go : (b : Bool) → AllFine (optional b (float kind.Margin x)) → Margin (cond b (cleaned x) nought)
    go true f = clean_margin x (fine-margin f.0)
    go false f = none-margin

given_maximum : (c : ℕ) (x : Float) → AllFine (code 1 c ∷ optional (eqb c 1) (float Size x)) → (cond (eqb c 1) (cleaned x) (inf false) ≡ inf false) ⊎ Length (cond (eqb c 1) (cleaned x) (inf false))
given_maximum c x h = go (eqb c 1) h.1
  where
    go : (b : Bool) → AllFine (optional b (float Size x)) → (cond b (cleaned x) (inf false) ≡ inf false) ⊎ Length (cond b (cleaned x) (inf false))
    go true f = inr (clean_length x (fine_size f.0).0)
    go false f = inl refl

module _ (inner gap : Float) (ls : Lists) (s : SoundInput (input_of inner gap ls)) where
  pub inner_length : Length (cleaned inner)
  inner_length = clean_length inner (fine_size s.container.0).0

  pub gap_length : Length (cleaned gap)
  gap_length = clean_length gap (fine_size s.container.1.0).0

  pub measured_of : (i : ℕ) → i < count ls → Measured (item_at ls i)
  measured_of i h =
      let M = beside_at Size 1 ls.maximum ls.has_maximum i in
      let S = beside_at kind.Margin 0 ls.start ls.auto_start i in
      let E = beside_at kind.Margin 0 ls.end ls.auto_end i in
      let a = fine-append (plain_at ls.base ls.minimum ls.edges ls.grow ls.shrink i) (M ++ (S ++ E)) (s.items i h) in
      let b = fine-append M (S ++ E) a.1 in
      let d = fine-append S E b.1 in
      record {
        base = clean_length (get_or ls.base i nan) (fine_size a.0.0).0;
        minimum = clean_length (get_or ls.minimum i nan) (fine_size a.0.1.0).0;
        maximum = given_maximum (get_or ls.has_maximum i 0) (get_or ls.maximum i nan) b.0;
        edges = clean_length (get_or ls.edges i nan) (fine_size a.0.1.1.0).0;
        start = given_margin (get_or ls.auto_start i 0) (get_or ls.start i nan) d.0;
        end = given_margin (get_or ls.auto_end i 0) (get_or ls.end i nan) d.1;
      }

-- ---- the verdict, from checks 1 to 5 and check 6

-- where one of checks 1 to 5 refuses, the call does
pub refused_then : (lengths : Verdict) (input : Input) (rest : Verdict) (why : Refusal) → (lengths ≡ Ok tt → input.count ≤ 1024) → then lengths (judged (least_mark input)) ≡ Err why → then lengths (checked input rest) ≡ Err why
refused_then (Err w) input rest why f h = h
refused_then (Ok tt) input rest why f h = sym (judged-checked input (f refl) rest) ∙ ap (λ (v : Verdict). then v rest) h

-- and else check 6 decides
pub passed_then : (lengths : Verdict) (input : Input) (rest : Verdict) → (lengths ≡ Ok tt → input.count ≤ 1024) → then lengths (judged (least_mark input)) ≡ Ok tt → then lengths (checked input rest) ≡ rest
passed_then lengths input rest f h =
    let p = then_passed lengths (judged (least_mark input)) h in
    ap (λ (v : Verdict). then v (checked input rest)) p.0 ∙ sym (judged-checked input (f p.0) rest) ∙ ap (λ (v : Verdict). then v rest) p.1
