-- The theorems of a walk's lines by themselves that docs/PROMISES.md names. No contract cites it; proofs/PassWalk.antt
-- fills it. Assumes nothing.
use Rattle.std.specs.Prelude.{◌≡◌, Bool, List, ℕ, ◌<◌, length, get_or, Float}
use Rattle.keywords.specs.declared.ContentAlignment.{ContentAlignment}
use Rattle.place_size.specs.CrossSize.{CrossLists}
use Rattle.place_size.specs.declared.container.Cross.{Cross}
use Rattle.pass_walk.specs.Sizes.{cross_line, cross_sizes}
use Rattle.lists.specs.ByLine.{part}
use Rattle.place_main.specs.MainAxis.{LineLists}
use Rattle.pass_walk.specs.Main.{main_line, MainLines}
use Rattle.pass_walk.proofs.Spacing.{Same}

pub record Promised : Type 0 where
  -- two walks in the same container that agree on the items of a line, and on nothing else, say the same of it along
  -- the main axis: offsets, start and end margins
  pub main_independent : {inner gap : Float} {justify : ContentAlignment} {reversed : Bool} {counts counts' : List ℕ}
      {l l' : LineLists} {o₀ s₀ e₀ o s e o₀' s₀' e₀' o' s' e' : List Float}
      → MainLines inner gap justify reversed counts l o₀ s₀ e₀ o s e
      → MainLines inner gap justify reversed counts' l' o₀' s₀' e₀' o' s' e' → (j j' : ℕ) → j < length counts
      → j' < length counts' → main_line counts j l ≡ main_line counts' j' l'
      → Same (part counts j o) (part counts j s) (part counts j e) (part counts' j' o') (part counts' j' s')
      (part counts' j' e')
  -- and give it the same cross size
  pub sizes_independent : (c : Cross) (counts counts' : List ℕ) (ls ls' : CrossLists) (sizes₀ sizes₀' : List Float)
      (d : Float) (j j' : ℕ) → j < length counts → j' < length counts'
      → cross_line counts j ls ≡ cross_line counts' j' ls'
      → get_or (cross_sizes c counts ls sizes₀) j d ≡ get_or (cross_sizes c counts' ls' sizes₀') j' d
