-- What the last of some items that has one of two pairs tells of their order (own).
use Rattle.std.specs.Prelude.{◌≡◌, List, [], ◌∷◌, ◌++◌}
use Rattle.css_model.specs.declared.sheet.Item.{Item}
use Rattle.css_model.specs.Cascade.Order.{Pair, HasPair, IsBefore}
use Rattle.window_order.specs.declared.order.Found.{Found}
use Rattle.window_order.specs.declared.order.Found.TheVariants.{Before, NotBefore, Second, Neither}

-- the second pair alone stands in the last item that has one, below these
pub record IsSecond (items above : List Item) (p q : Pair) : Type 0 where
  pub rest : List Item
  pub parts : items ≡ above ++ rest
  pub none : HasPair rest p → ⊥
  pub second : HasPair rest q

abbrev pub IsFound : List Item → Pair → Pair → Found → Type 0
IsFound items p q Before = IsBefore items p q
IsFound items p q NotBefore = HasPair items p × (IsBefore items p q → ⊥)
IsFound items p q (Second above) = IsSecond items above.now p q
IsFound items p q Neither = (HasPair items p → ⊥) × (HasPair items q → ⊥)

-- what the last item tells; of one that has neither, that it has neither
abbrev pub IsFoundLast : List Item → Item → Pair → Pair → Found → Type 0
IsFoundLast above last p q Before = IsBefore (above ++ last ∷ []) p q
IsFoundLast above last p q NotBefore = HasPair (above ++ last ∷ []) p × (IsBefore (above ++ last ∷ []) p q → ⊥)
IsFoundLast above last p q (Second over) = IsSecond (above ++ last ∷ []) over.now p q
IsFoundLast above last p q Neither = (HasPair (last ∷ []) p → ⊥) × (HasPair (last ∷ []) q → ⊥)
