-- The theorems of the whole pass that docs/PROMISES.md names. No contract cites it; proofs/Pass.antt fills it. Assumes
-- nothing.
use Rattle.std.specs.Prelude.{◌≡◌, List, [], ◌∷◌, ◌++◌, ℕ, zero, suc, ◌*◌, ◌≤◌, ◌<◌, length, take, Float}
use Rattle.pass_container.specs.declared.Container.{Container}
use Rattle.pass_container.specs.Stages.{ItemLists}
use Rattle.pass.specs.Alone.{SameItems, SameLine}
use Rattle.pass.specs.Pass.{PassAnswer, PassCall}
use Rattle.pass.specs.Laid.{PassLent, Laid}

-- k lists alike, one after another
abbrev pub repeated : {A : Type 0} → ℕ → List A → List A
repeated zero l = []
repeated (suc k) l = l ++ repeated k l

pub record Promised : Type 0 where
  -- any two accepted runs on the same are equal: lines, rounds, inner cross size and every cell
  pub laid_one : (c : Container) (n : ℕ) (x : List Float) (codes : List ℕ) (b : PassLent) → ItemLists n x codes
      → 8 * n ≤ length b.placed → {k k' sum sum' : ℕ} {inner inner' : Float} {a d : PassLent}
      → Laid c n x codes b k sum inner a → Laid c n x codes b k' sum' inner' d
      → (k ≡ k') × (sum ≡ sum') × (inner ≡ inner') × (a ≡ d)
  -- the contract of `pass` leaves no choice
  pub one_pass : (c : Container) (n : ℕ) (x : List Float) (codes : List ℕ) (b : PassLent) (r s : PassAnswer)
      (a d : PassLent) → PassCall c n x codes b r a → PassCall c n x codes b s d → (r ≡ s) × (a ≡ d)
  -- "In accepted runs a line's targets, rounds and main offsets depend only on the container, the line ranges and its
  -- own items": two runs in one container that agree on a line's items, and on nothing else, say the same of it
  pub pass_independent : (c : Container) {n n' : ℕ} {x x' : List Float} {codes codes' : List ℕ} {b b' a a' : PassLent}
      {k k' sum sum' : ℕ} {inner inner' : Float} → Laid c n x codes b k sum inner a
      → Laid c n' x' codes' b' k' sum' inner' a' → (j j' : ℕ) → j < length (take k a.counts)
      → j' < length (take k' a'.counts)
      → SameItems (take k a.counts) (take k' a'.counts) j j' n n' x x' codes codes'
      → SameLine (take k a.counts) (take k' a'.counts) j j' n n' a a'
  -- and `SameItems` asks nothing else: an item alone on the first of two lines, and alone on the second of three, with
  -- other numbers and codes of the cross axis, and any items on the other lines
  pub unlike : (own across across' a b c : Float) (code other other' k l m : ℕ)
      → SameItems (1 ∷ 1 ∷ []) (1 ∷ 1 ∷ 1 ∷ []) 0 1 2 3
      (repeated 8 (own ∷ a ∷ []) ++ repeated 6 (across ∷ a ∷ []))
      (repeated 8 (b ∷ own ∷ c ∷ []) ++ repeated 6 (b ∷ across' ∷ c ∷ []))
      (repeated 3 (code ∷ k ∷ []) ++ repeated 5 (other ∷ k ∷ []))
      (repeated 3 (l ∷ code ∷ m ∷ []) ++ repeated 5 (l ∷ other' ∷ m ∷ []))
