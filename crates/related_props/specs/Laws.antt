-- The laws of related names. Each is the contract of a public function.
use Rattle.std.specs.Prelude.{ℕ, List, codes}
use Rattle.css_model.specs.Cascade.Family.{Related}

-- each name is related to itself
abbrev pub RelatedIsReflexive : Type 0
RelatedIsReflexive = (m : List ℕ) → Related m m

abbrev pub RelatedIsSymmetric : Type 0
RelatedIsSymmetric = (m n : List ℕ) → Related m n → Related n m

-- `all` is related to each name
abbrev pub AllIsRelated : Type 0
AllIsRelated = (n : List ℕ) → Related (codes "all") n
