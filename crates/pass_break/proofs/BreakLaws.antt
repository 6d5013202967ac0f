-- Breaking the items of a table: by equal values, and the lines read back out of the counts. Assumes nothing.
use mathlib.Core.Path.{◌≡◌, sym, ap, ◌∙◌, subst}
use mathlib.Core.List.{List}
use Prim.Native.Nat.{ℕ, ◌≤◌}
use native.Mathlib.Nat.{le_trans, le_of_eq}
use lib.ListN.{length, take}
use lib.Ieee.{Float}
use Rattle.grid.specs.Grid.{cleaned}
use Rattle.keywords.specs.declared.AvailableSpace.{AvailableSpace}
use Rattle.break_greedy.specs.Steps.{Breakable}
use Rattle.flex.specs.declared.Item.{Item}
use Rattle.flex_table.specs.Table.{items_in}
use Rattle.balance.specs.Calls.{BreakLent}
use Rattle.keywords.specs.declared.Mode.{Mode}
use Rattle.pass_break.specs.Wrapping.{Wrapped}
use Rattle.pass_break.specs.Parts.{WrapRoom}
use Rattle.pass_break.specs.Outer.{outer_sizes}
use Rattle.pass_break.proofs.Given.{sizes_long}
use Rattle.pass_break.proofs.Division.{Divides, wrapped_counts, wrapped_divides}
use Rattle.pass_container.specs.declared.Container.{Container}
use Rattle.pass_container.specs.Container.{limit_space, break_mode}
use Rattle.pass_break.specs.BreakStage.{LinesBroken}

-- ---- breaking

module _ {m m' : Mode} {l l' : AvailableSpace} {g g' : Float} {s s' : List Float} (b : BreakLent) (p : m ≡ m') (q : l ≡ l') (t : g ≡ g') (e : s ≡ s') where
  pub breaks_as : {n : ℕ} → length s' ≡ n → Breakable l' g' s' → WrapRoom m' n b → Breakable l g s × WrapRoom m (length s) b
  breaks_as {n} h d r = (
    subst (λ (y : AvailableSpace). Breakable y g s) (sym q) (subst (λ (y : Float). Breakable l' y s) (sym t) (subst (λ (y : List Float). Breakable l' g' y) (sym e) d)),
    subst (λ (k : ℕ). WrapRoom m k b) (sym (ap length e ∙ h)) (subst (λ (y : Mode). WrapRoom y n b) (sym p) r),
  )

  pub broken_as : {k r : ℕ} {a : BreakLent} → Wrapped m l g k s b r a → Wrapped m' l' g' k s' b r a
  broken_as {k} {r} {a} w =
      subst (λ (y : List Float). Wrapped m' l' g' k y b r a) e (subst (λ (y : Float). Wrapped m' l' y k s b r a) t (subst (λ (y : AvailableSpace). Wrapped m' y g k s b r a) q (subst (λ (y : Mode). Wrapped y l g k s b r a) p w)))

-- ---- the lines, read back

module _ (c : Container) (n : ℕ) (t : List Item) {b a : BreakLent} {k : ℕ} (w : LinesBroken c n t b k a) where
  lines_back : take k a.counts ≡ w.lines
  lines_back = wrapped_counts (limit_space c) (cleaned c.gap_main) c.minimum_lines (outer_sizes (items_in t 0 n)) (break_mode c) w

  pub divides_of : Divides n (take k a.counts)
  divides_of = subst (λ (m : ℕ). Divides m (take k a.counts)) (sizes_long t n) (wrapped_divides (limit_space c) (cleaned c.gap_main) c.minimum_lines (outer_sizes (items_in t 0 n)) (break_mode c) w)

  pub lines_long : length (take k a.counts) ≡ k
  lines_long = ap length lines_back ∙ sym w.number

  pub lines_few : k ≤ n
  lines_few = le_trans {m = length (take k a.counts)} (le_of_eq (sym lines_long)) divides_of.few
