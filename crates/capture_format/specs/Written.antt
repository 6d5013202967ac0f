-- Document 01, "Records for the program", from the writer's side: the bytes of a capture of given numbers; document 02,
-- Two: which of them a writer may produce. Only theorems cite it, of proofs/Format.antt and of crate capture: the
-- readable captures are those that `reading` accepts, each with its numbers, and no others; the writable ones mean what
-- was written. Assumes nothing.
use Rattle.std.specs.Prelude.{◌≡◌, List, [], ◌∷◌, ◌++◌, map, ℕ, zero, suc, ◌/◌, ◌%◌, ◌<◌, ◌≤◌, ◌^◌, Float}
use Rattle.std.specs.Float.{binary32}
use Rattle.std.specs.Float.Ieee.{of_bits}
use Rattle.keywords.specs.Space.{space_of}
use Rattle.capture_format.specs.declared.Head.{Head}

-- the numbers of a capture, floats by their bits
pub record Numbers : Type 0 where
  pub limit-kind : ℕ
  pub limit : ℕ
  pub gap : ℕ
  pub minimum : ℕ
  pub sizes : List ℕ

abbrev pub All : (ℕ → Type 0) → List ℕ → Type 0
All P [] = Unit
All P (x ∷ l) = P x × All P l

-- what may be read: each number has room in its field, and the limit kind is one of the three
pub record Readable (c : Numbers) : Type 0 where
  pub kind_is : c.limit-kind ≤ 2
  pub limit-fits : c.limit < 2 ^ 32
  pub gap_fits : c.gap < 2 ^ 32
  pub minimum_fits : c.minimum < 2 ^ 16
  pub sizes_fit : All (λ n. n < 2 ^ 32) c.sizes

-- what may be written: "Nobody writes limit kind 1 any more .. Writers must not produce it"
pub record Writable (c : Numbers) : Type 0 where
  pub readable : Readable c
  pub not_min : c.limit-kind ≡ 1 → ⊥

-- "Little-endian": a number in so many bytes
abbrev pub bytes_of : ℕ → ℕ → List ℕ
bytes_of zero n = []
bytes_of (suc k) n = (n % 256) ∷ bytes_of k (n / 256)

-- "a kind byte, then a fixed body"
abbrev pub head_bytes : Numbers → List ℕ
head_bytes c = 1 ∷ (c.limit-kind ∷ (bytes_of 4 c.limit ++ (bytes_of 4 c.gap ++ bytes_of 2 c.minimum)))

abbrev pub item_bytes : List ℕ → List ℕ
item_bytes [] = []
item_bytes (size ∷ l) = (2 ∷ bytes_of 4 size) ++ item_bytes l

-- "One kind 1 first, nothing after kind 3"
abbrev pub capture_bytes : Numbers → List ℕ
capture_bytes c = head_bytes c ++ (item_bytes c.sizes ++ (3 ∷ []))

-- what the numbers say
abbrev pub head_said : Numbers → Head
head_said c = record {
  limit = space_of c.limit-kind (of_bits binary32 c.limit);
  gap = of_bits binary32 c.gap;
  minimum = c.minimum;
}

abbrev pub sizes_said : Numbers → List Float
sizes_said c = map (of_bits binary32) c.sizes
