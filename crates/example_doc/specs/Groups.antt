-- Where the compounds of a slot stand in the table of two selectors.
use Rattle.std.specs.Prelude.{ℕ, zero, suc, ◌+◌, ◌-◌, ◌*◌, length, ◌==◌, if◌then◌else◌, List, [], ◌∷◌, Option, Some, None}
use Rattle.css_model.specs.Documents.SelectorParts.{SelectorParts}
use Rattle.slot_plan.specs.ShapeParts.{ShapeParts}

-- the number of the compound in a slot, if one stands there
abbrev pub one_more : Option ℕ → Option ℕ
one_more None = None
one_more (Some i) = Some (suc i)

abbrev pub place_in : List ℕ → ℕ → Option ℕ
place_in [] slot = None
place_in (p ∷ slots) slot = if p == slot then Some 0 else one_more (place_in slots slot)

-- The number of the group of two compounds, by their numbers in their chains, which have so many behind the first
-- one: both first ones; another one of the first chain; another one of the second; one of each.
abbrev pub group_of : (others_left others_right : ℕ) → Option ℕ → Option ℕ → ℕ
group_of m n None None = 0
group_of m n None (Some j) = m + j
group_of m n (Some i) None = i
group_of m n (Some zero) (Some j) = 0
group_of m n (Some (suc i)) (Some zero) = 0
group_of m n (Some (suc i)) (Some (suc j)) = 1 + m + n + i * n + j

-- that of the compounds in a slot of a shape
abbrev pub group_in : SelectorParts → SelectorParts → ShapeParts → ℕ → ℕ
group_in x y shape slot = group_of (length x.chain - 1) (length y.chain - 1) (place_in shape.left slot) (place_in shape.right slot)
