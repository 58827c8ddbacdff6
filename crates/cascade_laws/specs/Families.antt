-- The two forms of relating names agree.
use Rattle.std.specs.Prelude.{◌↔◌, ℕ, IsTrue, List}
use Rattle.css_model.specs.Cascade.Family.{Related, related}

-- the two forms agree
abbrev pub RelatingIsDecided : Type 0
RelatingIsDecided = (m n : List ℕ) → IsTrue (related m n) ↔ Related m n
