-- What holds of what a shape is read from (own).
use Rattle.std.specs.Prelude.{◌≡◌, length}
use Rattle.shape_decode.specs.declared.slot.Reading.{Reading}
use Rattle.sibling_clauses.specs.Bounds.{IsSmall}

-- The numbers of the variables are small, and both selectors have as many combinators as these say.
pub record IsReading (r : Reading) : Type 0 where
  pub small : IsSmall r.g
  pub left : length r.left.now ≡ r.g.left
  pub right : length r.right.now ≡ r.g.right
