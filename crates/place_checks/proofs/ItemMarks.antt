-- The marks of a line's lists, put together, are the least mark of its items: a list's marks are some numbers more of every item. Assumes nothing.
use mathlib.Core.Path.{◌≡◌, refl, ap, ◌∙◌}
use mathlib.Core.List.{List, ◌++◌}
use Prim.Native.Nat.{ℕ, min}
use lib.ListN.{length}
use Rattle.checks.specs.declared.Kind.TheVariants.{Size, Margin}
use Rattle.checks.specs.Lists.{float_at, code_at, beside_at}
use Rattle.checks.proofs.Marked.{several, several_both}
use Rattle.place_size.specs.CrossSize.{CrossLists, count}
use Rattle.place_size.specs.Parts.{CrossOneLength}
use Rattle.place_cross.specs.Parts.{SameLengths}
use Rattle.place_checks.specs.Numbers.{cross_numbers_at, across_numbers_at}

module _ (ls : CrossLists) where
  pub items_marked : CrossOneLength ls → {m l e h s t a b c d r : ℕ} → m ≡ several (float_at Size ls.measured) (length ls.measured) → l ≡ several (float_at Size ls.minimum) (length ls.minimum)
      → e ≡ several (float_at Size ls.edges) (length ls.edges) → h ≡ several (beside_at Size 1 ls.maximum ls.capped) (length ls.maximum)
      → s ≡ several (beside_at Margin 0 ls.start ls.auto_start) (length ls.start) → t ≡ several (beside_at Margin 0 ls.end ls.auto_end) (length ls.end)
      → a ≡ min s t → b ≡ min h a → c ≡ min e b → d ≡ min l c → r ≡ min m d → r ≡ several (cross_numbers_at ls) (count ls)
  items_marked v {m} {l} {e} {h} {s} {t} {a} {b} {c} {d} pm pl pe ph ps pt pa pb pc pd pr =
      let M = float_at Size ls.measured in
      let L = float_at Size ls.minimum in
      let E = float_at Size ls.edges in
      let H = beside_at Size 1 ls.maximum ls.capped in
      let S = beside_at Margin 0 ls.start ls.auto_start in
      let T = beside_at Margin 0 ls.end ls.auto_end in
      let qa = several_both S T v.start ps (pt ∙ ap (several T) v.end) pa in
      let qb = several_both H (λ i. S i ++ T i) v.maximum ph qa pb in
      let qc = several_both E (λ i. H i ++ (S i ++ T i)) v.edges pe qb pc in
      let qd = several_both L (λ i. E i ++ (H i ++ (S i ++ T i))) v.minimum pl qc pd in
      several_both M (λ i. L i ++ (E i ++ (H i ++ (S i ++ T i)))) refl pm qd pr

  pub across_marked : (alignment auto-size : List ℕ) → SameLengths ls alignment auto-size → {k g u a r : ℕ} → k ≡ several (cross_numbers_at ls) (count ls) → g ≡ several (code_at 10 alignment) (length alignment)
      → u ≡ several (code_at 1 auto-size) (length auto-size) → a ≡ min g u → r ≡ min k a → r ≡ several (across_numbers_at ls alignment auto-size) (count ls)
  across_marked alignment auto-size v pk pg pu pa pr =
      let G = code_at 10 alignment in
      let U = code_at 1 auto-size in
      several_both (cross_numbers_at ls) (λ i. G i ++ U i) refl pk (several_both G U v.alignment_length pg (pu ∙ ap (several U) v.auto_length) pa) pr
