-- The theorem of a walk's lines by themselves, across that docs/PROMISES.md names. No contract cites it;
-- proofs/PassWalkAcross.antt fills it. Assumes nothing.
use Rattle.std.specs.Prelude.{◌≡◌, Bool, List, ℕ, ◌<◌, length, get_or, Float}
use Rattle.std.specs.Float.{nan}
use Rattle.lists.specs.ByLine.{part}
use Rattle.place_size.specs.CrossSize.{CrossLists}
use Rattle.pass_walk.specs.Sizes.{cross_line}
use Rattle.pass_walk_across.specs.Cross.{AcrossLines}
use Rattle.pass_walk_across.proofs.Placing.{Same}

pub record Promised : Type 0 where
  -- two walks, both reversed or neither, that agree on the size and the items of a line, and on nothing else, say the
  -- same of it across: sizes, start and end margins, offsets
  pub across_independent : {reversed : Bool} {counts counts' : List ℕ} {lines lines' : List Float} {ls ls' : CrossLists}
      {a z a' z' : List ℕ} {u₀ s₀ e₀ o₀ u s e o u₀' s₀' e₀' o₀' u' s' e' o' : List Float}
      → AcrossLines reversed counts lines ls a z u₀ s₀ e₀ o₀ u s e o
      → AcrossLines reversed counts' lines' ls' a' z' u₀' s₀' e₀' o₀' u' s' e' o' → (j j' : ℕ) → j < length counts
      → j' < length counts' → get_or lines j nan ≡ get_or lines' j' nan
      → cross_line counts j ls ≡ cross_line counts' j' ls'
      → part counts j a ≡ part counts' j' a' → part counts j z ≡ part counts' j' z'
      → Same (part counts j u) (part counts j s) (part counts j e) (part counts j o) (part counts' j' u')
      (part counts' j' s') (part counts' j' e') (part counts' j' o')
