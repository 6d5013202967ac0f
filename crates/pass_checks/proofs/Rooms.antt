-- What checks 1 and 2 show of the lengths, list by list. Assumes nothing.
use mathlib.Core.Path.{◌≡◌, sym, ap, ◌∙◌}
use Prim.Native.Nat.{ℕ, ◌+◌, ◌*◌, ◌≤◌}
use lib.Dec.{eqb, leb}
use borrow.Author.Tests.{leb-true, eqb-true}
use Rattle.checks.specs.Domain.{shape}
use Rattle.std.specs.declared.result.Result.TheVariants.{Ok}
use Rattle.checks.proofs.Checks.{shape_passed}
use Rattle.checks.proofs.Marked.{and_true}
use Rattle.keywords.specs.declared.Mode.{Mode}
use Rattle.keywords.specs.declared.Mode.TheVariants.{Balanced}
use Rattle.pass_checks.specs.Checks.{room_to_break, pass_room}

-- ---- what checks 1 and 2 show

pub record Roomy (n : ℕ) (mode : Mode) (numbers codes placed lines counts rounds free work sums : ℕ) : Type 0 where
  pub few : n ≤ 1024
  pub numbers_long : numbers ≡ 14 * n
  pub codes_long : codes ≡ 8 * n
  pub placed_room : 8 * n ≤ placed
  pub lines_room : 2 * n ≤ lines
  pub counts_room : n ≤ counts
  pub rounds_room : n ≤ rounds
  pub free_room : n ≤ free
  pub work_room_is : mode ≡ Balanced → (n * n + 3 * n ≤ work) × (3 * n ≤ sums)

pub roomy_of : (n : ℕ) (mode : Mode) (numbers codes placed lines counts rounds free work sums : ℕ) → shape n (pass_room n mode numbers codes placed lines counts rounds free work sums) ≡ Ok tt → Roomy n mode numbers codes placed lines counts rounds free work sums
unfolding pass_room
roomy_of n mode numbers codes placed lines counts rounds free work sums e =
    let p = shape_passed n (pass_room n mode numbers codes placed lines counts rounds free work sums) e in
    let a = and_true (eqb numbers (14 * n)) _ p.1 in
    let b = and_true (eqb codes (8 * n)) _ a.1 in
    let d = and_true (leb (8 * n) placed) _ b.1 in
    let f = and_true (leb (2 * n) lines) _ d.1 in
    let g = and_true (leb n counts) _ f.1 in
    let h = and_true (leb n rounds) _ g.1 in
    let i = and_true (leb n free) _ h.1 in
    record {
      few = p.0;
      numbers_long = eqb-true numbers (14 * n) a.0;
      codes_long = eqb-true codes (8 * n) b.0;
      placed_room = leb-true (8 * n) placed d.0;
      lines_room = leb-true (2 * n) lines f.0;
      counts_room = leb-true n counts g.0;
      rounds_room = leb-true n rounds h.0;
      free_room = leb-true n free i.0;
      work_room_is = λ t. let w = and_true (leb (n * n + 3 * n) work) (leb (3 * n) sums) (sym (ap (λ (m : Mode). room_to_break n m work sums) t) ∙ i.1) in (leb-true (n * n + 3 * n) work w.0, leb-true (3 * n) sums w.1);
    }
