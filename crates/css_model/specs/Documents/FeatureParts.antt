-- What a contract sees of the features of an element.
use Rattle.std.specs.Prelude.{ℕ, Bool, List}

-- its type, its attributes as names and values, the number of its flags, and whether it has text
pub record FeatureParts : Type 0 where
  pub kind : List ℕ
  pub attrs : List (List ℕ × List ℕ)
  pub flags : ℕ
  pub text : Bool
