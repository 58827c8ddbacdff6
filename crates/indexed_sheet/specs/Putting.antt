-- What is put instead of one item.
use Rattle.std.specs.Prelude.{ℕ, zero, suc, List, [], ◌∷◌, ◌++◌, map}
use Rattle.std.specs.List.{Contains}
use Rattle.css_model.specs.declared.sheet.Item.{Item}
use Rattle.css_model.specs.declared.sheet.SelItem.{SelItem}
use Rattle.css_model.specs.Documents.SelectorParts.{SelectorParts}
use Rattle.css_model.specs.declared.sheet.Item.TheVariants.{Rule, KeptBlock}
use Rattle.indexed_sheet.specs.declared.parts.Left.{Left}
use Rattle.indexed_sheet.specs.declared.parts.Left.TheVariants.{Nothing, One, Two}

-- the list with these elements instead of the one of this number
abbrev pub put_at : {X : Type 0} → ℕ → List X → List X → List X
put_at n by [] = []
put_at zero by (x ∷ xs) = by ++ xs
put_at (suc n) by (x ∷ xs) = x ∷ put_at n by xs

-- what a step puts instead of a rule, as items
abbrev pub items_in : Left → List Item
items_in Nothing = []
items_in (One r) = Rule r ∷ []
items_in (Two r q) = Rule r ∷ Rule q ∷ []

-- the item that is there instead of a rule while the rule is out of its indexed sheet
abbrev pub placeholder : Item
placeholder = KeptBlock (record { start = 0; end = 0 })

-- no selector is one of both lists
abbrev pub HaveNoneInCommon : List SelItem → List SelItem → Type 0
HaveNoneInCommon xs ys = (s : SelectorParts) → Contains (map (λ x. x.selector) xs) s → Contains (map (λ y. y.selector) ys) s → ⊥
