-- The lists that the pass reads of the unpacked items are the items' fields: each list by its own field, on both axes. Assumes nothing.
use mathlib.Core.Path.{◌≡◌}
use mathlib.Core.List.{List, map}
use lib.Dec.{lit<}
use lib.ListN.{length}
use Rattle.flex.specs.Items.{lists}
use Rattle.place_size.specs.CrossSize.{cross_lists}
use Rattle.pass_container.specs.Columns.{column, main_lists, cross_items, align_self, auto_size}
use Rattle.pass_items.specs.declared.Item.{Item}
use Rattle.pass_items.specs.Items.{numbers_of, codes_of}
use Rattle.pass_items.proofs.Laid.{numbers_at, codes_at}

module _ (xs : List Item) where
  abbrev each {ℓ} : {A : Type ℓ} → (Item → A) → List A
  each f = map f xs

  pub main_fields :
      main_lists (length xs) (numbers_of xs) (codes_of xs)
      ≡ lists (each (λ x. x.main_base)) (each (λ x. x.main_minimum)) (each (λ x. x.main_maximum)) (each (λ x. x.has_main_maximum)) (each (λ x. x.main_edges)) (each (λ x. x.grow)) (each (λ x. x.shrink))
      (each (λ x. x.main_start)) (each (λ x. x.main_end)) (each (λ x. x.auto_main_start)) (each (λ x. x.auto_main_end))
  unfolding column
  main_fields = λ i. lists (numbers_at xs 0 (lit< tt) i) (numbers_at xs 1 (lit< tt) i) (numbers_at xs 2 (lit< tt) i) (codes_at xs 0 (lit< tt) i) (numbers_at xs 3 (lit< tt) i) (numbers_at xs 4 (lit< tt) i) (numbers_at xs 5 (lit< tt) i)
      (numbers_at xs 6 (lit< tt) i) (numbers_at xs 7 (lit< tt) i) (codes_at xs 1 (lit< tt) i) (codes_at xs 2 (lit< tt) i)

  pub cross_fields :
      cross_items (length xs) (numbers_of xs) (codes_of xs)
      ≡ cross_lists (each (λ x. x.cross_measured)) (each (λ x. x.cross_minimum)) (each (λ x. x.cross_maximum)) (each (λ x. x.has_cross_maximum)) (each (λ x. x.cross_edges))
      (each (λ x. x.cross_start)) (each (λ x. x.cross_end)) (each (λ x. x.auto_cross_start)) (each (λ x. x.auto_cross_end))
  unfolding column
  cross_fields = λ i. cross_lists (numbers_at xs 8 (lit< tt) i) (numbers_at xs 9 (lit< tt) i) (numbers_at xs 10 (lit< tt) i) (codes_at xs 3 (lit< tt) i) (numbers_at xs 11 (lit< tt) i)
      (numbers_at xs 12 (lit< tt) i) (numbers_at xs 13 (lit< tt) i) (codes_at xs 4 (lit< tt) i) (codes_at xs 5 (lit< tt) i)

  pub self_fields : align_self (length xs) (codes_of xs) ≡ each (λ x. x.align_self)
  unfolding column
  self_fields = codes_at xs 6 (lit< tt)

  pub size_fields : auto_size (length xs) (codes_of xs) ≡ each (λ x. x.auto_cross_size)
  unfolding column
  size_fields = codes_at xs 7 (lit< tt)
