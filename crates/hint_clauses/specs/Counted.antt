-- Two selectors, of which one kind of numbers is spoken of.
use Rattle.std.specs.Prelude.{Bool, if◌then◌else◌, ℕ}
use Rattle.std.specs.List.{AllByRecursion}
use Rattle.css_model.specs.Documents.SelectorParts.{SelectorParts}
use Rattle.formula_laws.specs.declared.count.Count.{Count}
use Rattle.formula_laws.specs.declared.count.Count.TheVariants.{Before, Behind}
use Rattle.hint_clauses.specs.declared.counted.Counted.{Counted}
use Rattle.selector_laws.specs.Limits.{KeepsCompound}
use Rattle.sibling_clauses.specs.Bounds.{IsSmall, IsWhole}

-- the other kind of numbers
abbrev pub opposite : Count → Count
opposite Before = Behind
opposite Behind = Before

-- the right selector, or the left one
abbrev pub side_of : Counted → Bool → SelectorParts
side_of pair right = if right then pair.right.now else pair.left.now

-- the number of its last compound
abbrev pub last_of : Counted → Bool → ℕ
last_of pair right = if right then pair.numbering.right else pair.numbering.left

-- both are whole and keep the limits
pub record IsCounted (pair : Counted) : Type 0 where
  pub small : IsSmall pair.numbering
  pub left : IsWhole pair.left.now pair.numbering.left
  pub right : IsWhole pair.right.now pair.numbering.right
  pub left_tests : AllByRecursion KeepsCompound pair.left.now.chain
  pub right_tests : AllByRecursion KeepsCompound pair.right.now.chain
