-- The record at the front of the bytes, by what is due. Only contracts of parts cite it. Assumes nothing.
use Rattle.std.specs.Prelude.{List, ℕ}
use Rattle.capture_format.specs.declared.Stage.{Stage}
use Rattle.capture_format.specs.declared.Stage.TheVariants as stage
use Rattle.capture_format.specs.declared.Parsed.{Parsed}
use Rattle.capture_format.specs.declared.Parsed.TheVariants as parsed
use Rattle.capture_format.specs.Format.{first_front, later_front}

-- "One kind 1 first, nothing after kind 3"
abbrev pub front : Stage → List ℕ → Parsed
front stage.First bytes = first_front bytes
front stage.Items bytes = later_front bytes
front stage.Ended bytes = parsed.Broken
front stage.Broken bytes = parsed.Broken
