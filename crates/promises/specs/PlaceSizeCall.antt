-- The theorem of the call for a line's cross size that docs/PROMISES.md names. No contract cites it;
-- proofs/PlaceSizeCall.antt fills it. Assumes nothing.
use Rattle.std.specs.Prelude.{◌≡◌}
use Rattle.place_size.specs.CrossSize.{CrossLists}
use Rattle.place_checks.specs.declared.numbers.CrossNumbers.{CrossNumbers}
use Rattle.place_size_call.specs.SizeCall.{SizeAnswer, size_call}

pub record Promised : Type 0 where
  -- the contract of `size_line` leaves no choice
  pub size_one : (c : CrossNumbers) (ls : CrossLists) (a b : SizeAnswer) → a ≡ size_call c ls → b ≡ size_call c ls
      → a ≡ b
