-- An element at another place of its list (own).
use Rattle.std.specs.Prelude.{◌≡◌, ℕ, List, length, slice_get}
use Rattle.std.specs.List.{remove}

-- An element has moved from one place to another. All others keep their order.
pub record IsMoved {X : Type 0} (old new : List X) (from to : ℕ) : Type 0 where
  pub as_many : length new ≡ length old
  pub moved : slice_get new to ≡ slice_get old from
  pub others : remove new to ≡ remove old from
