-- What is stored of one item. Only contracts of parts cite it. Assumes nothing.
use Rattle.std.specs.Prelude.{ℕ, ◌+◌, List, [], ◌∷◌, set, Float}
use Rattle.pass_items.specs.declared.Item.{Item}

abbrev pub numbers_in : Item → List Float
numbers_in x =
    x.main_base ∷ x.main_minimum ∷ x.main_maximum ∷ x.main_edges ∷ x.grow ∷ x.shrink ∷ x.main_start ∷ x.main_end
    ∷ x.cross_measured ∷ x.cross_minimum ∷ x.cross_maximum ∷ x.cross_edges ∷ x.cross_start ∷ x.cross_end ∷ []

abbrev pub codes_in : Item → List ℕ
codes_in x =
    x.has_main_maximum ∷ x.auto_main_start ∷ x.auto_main_end ∷ x.has_cross_maximum ∷ x.auto_cross_start ∷
    x.auto_cross_end
    ∷ x.align_self ∷ x.auto_cross_size ∷ []

-- values stored into a list, the first at `at` and each next one a column of m cells further on
abbrev pub stored {ℓ} : {A : Type ℓ} → ℕ → List A → ℕ → List A → List A
stored m l at [] = l
stored m l at (v ∷ vs) = stored m (set l at v) (at + m) vs
