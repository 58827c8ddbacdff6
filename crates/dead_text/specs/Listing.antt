-- The selectors of the style rules of a sheet, with their numbers (own).
use Rattle.std.specs.Prelude.{ℕ, List, [], map}
use Rattle.std.specs.List.{enumerate_from, flat_map}
use Rattle.css_model.specs.declared.sheet.Item.{Item}
use Rattle.css_model.specs.declared.sheet.Item.TheVariants.{Rule, KeptRule, KeptBlock}
use Rattle.css_model.specs.declared.sheet.SelItem.{SelItem}
use Rattle.css_model.specs.Documents.SelectorParts.{SelectorParts}

-- a selector of a rule, with the number of the rule among the items of the sheet, and its own number among the
-- selectors of the rule; both count from 1
pub record NumberedSelector : Type 0 where
  pub item : ℕ
  pub number : ℕ
  pub selector : SelectorParts

abbrev pub numbered : (item : ℕ) → ℕ × SelItem → NumberedSelector
numbered item (number, s) = record { item = item; number = number; selector = s.selector }

-- the selectors of the item of this number, in order: none of what is kept as it stands
abbrev pub selectors_in : ℕ × Item → List NumberedSelector
selectors_in (n, (Rule r)) = map (numbered n) (enumerate_from 1 r.selectors)
selectors_in (n, (KeptRule kept)) = []
selectors_in (n, (KeptBlock piece)) = []

-- those of a sheet, in order; what is kept counts as an item
abbrev pub numbered_selectors : List Item → List NumberedSelector
numbered_selectors items = flat_map selectors_in (enumerate_from 1 items)
