-- The order of entries: that of the cascade, the greatest first (CSS Cascading 3, section 6).
use Rattle.std.specs.Prelude.{ℕ, Bool, IsTrue, if◌then◌else◌, List, [], ◌∷◌, IsPermutation}
use Rattle.std.specs.List.{AllPairs}
use Rattle.css_model.specs.Cascade.Winner.{exceeds}
use Rattle.css_model.specs.Lists.{same_text}
use Rattle.inspect_laws.specs.Entries.{Entry, Spot}

-- a spot as its numbers, the first that differs deciding
abbrev pub numbers_of : Spot → List ℕ
numbers_of s = s.item ∷ s.inner ∷ s.declaration ∷ s.selector ∷ []

-- The numbers that the cascade compares, the first that differs deciding: importance, the three counts of the specificity, and
-- where the entry stands (CSS Cascading 3, section 6; that of two selectors the later one comes first is own).
abbrev pub rank : Entry → List ℕ
rank e = (if e.decl.important then 1 else 0) ∷ e.specificity.a ∷ e.specificity.b ∷ e.specificity.c ∷ numbers_of e.spot

-- whether two entries have one rank
abbrev pub same_rank : Entry → Entry → Bool
same_rank e f = same_text (rank e) (rank f)

-- whether one entry is greater than another one
abbrev pub outranks : Entry → Entry → Bool
outranks e f = exceeds (rank e) (rank f)

-- All entries are these, and each is greater than those after it.
pub record AreOrdered (all sorted : List Entry) : Type 0 where
  pub same : IsPermutation all sorted
  pub descending : AllPairs (λ e f. IsTrue (outranks e f)) sorted
