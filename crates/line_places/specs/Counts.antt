-- How many code points begin before each 64th byte of a text (own).
use Rattle.std.specs.Prelude.{ℕ, suc, ◌≡◌, ◌<◌, ◌*◌, ◌/◌, List, length, take, slice_index}
use Rattle.line_places.specs.Lines.{code_points}

-- these are the numbers of code points before the bytes 0, 64, 128 and so on of a text
pub record AreCounts (text counts : List ℕ) : Type 0 where
  pub many : length counts ≡ suc (length text / 64)
  pub each : (k : ℕ) → k < length counts → slice_index counts k ≡ code_points (take (k * 64) text)
