-- The least of all marks is that of the input: the marks of its parts make those of the whole. Assumes nothing.
use mathlib.Core.Path.{◌≡◌, sym, ap, ap₂, ◌∙◌, subst}
use mathlib.Core.List.{List, ◌++◌}
use Prim.Native.Nat.{ℕ, ◌+◌, min}
use native.Mathlib.Omega.{arith}
use lib.Dec.{eqb}
use lib.ListN.{length}
use lib.Ieee.{Float}
use Rattle.checks.specs.Domain.{float, code}
use Rattle.checks.specs.Optional.{optional}
use Rattle.checks.specs.Marks.{mark, least_of, least_up_to, least_mark}
use Rattle.checks.specs.declared.Kind.TheVariants.{Length}
use Rattle.checks.proofs.Checks.{least_append}
use Rattle.checks.proofs.Marked.{items_append}
use Rattle.flex_checks.specs.Input.{input_of}
use Rattle.place_size.specs.CrossSize.{CrossLists}
use Rattle.place_cross.specs.Parts.{SameLengths}
use Rattle.place_checks.specs.Numbers.{cross_numbers, across_numbers_at}
use Rattle.pass_container.specs.declared.Container.{Container}
use Rattle.pass_container.specs.Columns.{column, main_lists, cross_items, align_self, auto_size}
use Rattle.pass_container.specs.Container.{cross_numbers_of}
use Rattle.pass_checks.specs.Checks.{pass_container_numbers, pass_input}

-- ---- the container's

pub container_marks : (c : Container) {cross limit m1 m2 m3 m4 r a1 a2 a3 a4 : ℕ} → cross ≡ least_of (cross_numbers (cross_numbers_of c)) 0 → limit ≡ least_of (optional (eqb c.limit_kind 0) (float Length c.limit)) 0
    → a1 ≡ mark (code 13 c.align_content) 0 → m1 ≡ min limit cross → m2 ≡ min a1 m1 → a2 ≡ mark (code 13 c.justify_content) 0 → m3 ≡ min a2 m2 → a3 ≡ mark (code 3 c.direction) 0 → m4 ≡ min a3 m3 → a4 ≡ mark (code 2 c.limit_kind) 0 → r ≡ min a4 m4
    → r ≡ least_of (pass_container_numbers c) 0
unfolding least_of
container_marks c p q e1 f1 f2 e2 f3 e3 f4 e4 f5 =
    f5 ∙ ap₂ min e4 (f4 ∙ ap₂ min e3 (f3 ∙ ap₂ min e2 (f2 ∙ ap₂ min e1 (f1 ∙ ap₂ min q p ∙ sym (least_append (optional (eqb c.limit_kind 0) (float Length c.limit)) (cross_numbers (cross_numbers_of c)) 0)))))

-- ---- the items' on the cross axis

abbrev pub across_marks : CrossLists → List ℕ → List ℕ → ℕ → ℕ
across_marks ls alignment auto-size n = least_up_to (λ i. least_of (across_numbers_at ls alignment auto-size i) (i + 1)) n

pub lengths_as : {ls ls' : CrossLists} {a a' s s' : List ℕ} → ls ≡ ls' → a ≡ a' → s ≡ s' → SameLengths ls' a' s' → SameLengths ls a s
lengths_as {ls} {ls'} {a} {a'} {s} {s'} p q r h = subst (λ (l : CrossLists). SameLengths l a s) (sym p) (subst (λ (y : List ℕ). SameLengths ls' y s) (sym q) (subst (λ (y : List ℕ). SameLengths ls' a' y) (sym r) h))

pub across_as : {ls ls' : CrossLists} {a a' s s' : List ℕ} {k k' m : ℕ} → ls ≡ ls' → a ≡ a' → s ≡ s' → k ≡ k' → m ≡ across_marks ls a s k → m ≡ across_marks ls' a' s' k'
across_as {ls} {ls'} {a} {a'} {s} {s'} {k} {k'} p q r t e =
    e ∙ ap (λ (l : CrossLists). across_marks l a s k) p ∙ ap (λ (y : List ℕ). across_marks ls' y s k) q ∙ ap (λ (y : List ℕ). across_marks ls' a' y k) r ∙ ap (across_marks ls' a' s') t

-- ---- the whole input's

module _ (c : Container) (n : ℕ) (x : List Float) (codes : List ℕ) where
  pub pass_marks : {main across container m r : ℕ} → length (column n 0 x) ≡ n → main ≡ least_mark (input_of c.inner_main c.gap_main (main_lists n x codes)) → across ≡ across_marks (cross_items n x codes) (align_self n codes) (auto_size n codes) n → container ≡ least_of (pass_container_numbers c) 0
      → m ≡ min container across → r ≡ min main m → r ≡ least_mark (pass_input c n x codes)
  pass_marks {main} {across} {container} {m} {r} l p q e f g =
      let input = input_of c.inner_main c.gap_main (main_lists n x codes) in
      let two : ℕ = least_of input.container 0 in
      let flex : ℕ = least_up_to (λ i. least_of (input.item i) (i + 1)) n in
      let p' : main ≡ min two flex = p ∙ ap (λ (k : ℕ). min two (least_up_to (λ i. least_of (input.item i) (i + 1)) k)) l in
      let a : least_of (input.container ++ pass_container_numbers c) 0 ≡ min two container = least_append input.container (pass_container_numbers c) 0 ∙ ap (min two) (sym e) in
      let b : least_up_to (λ i. least_of (input.item i ++ across_numbers_at (cross_items n x codes) (align_self n codes) (auto_size n codes) i) (i + 1)) n ≡ min flex across = items_append input.item (across_numbers_at (cross_items n x codes) (align_self n codes) (auto_size n codes)) n ∙ ap (min flex) (sym q) in
      turn two flex main across container m r p' f g ∙ sym (ap₂ min a b)
    where
      turn : (two flex main across container m r : ℕ) → main ≡ min two flex → m ≡ min container across → r ≡ min main m → r ≡ min (min two container) (min flex across)
      turn two flex main across container m r p f g = omega arith
