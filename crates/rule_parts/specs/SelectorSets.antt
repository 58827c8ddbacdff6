-- Selectors as the keys of a set (own).
use Rattle.std.specs.Prelude.{◌≡◌, ◌||◌, List}
use Rattle.std.specs.List.{list_any}
use Rattle.css_model.specs.declared.sheet.SelItem.{SelItem}
use Rattle.css_model.specs.Documents.SelectorParts.{SelectorParts}
use Rattle.order_laws.specs.Members.{has_selector, same_selector}

-- these keys are the selectors of these items
abbrev pub AreSelectors : List SelItem → (keys : List SelectorParts) → Type 0
AreSelectors items keys = (s : SelectorParts) → list_any (same_selector s) keys ≡ has_selector items s

-- the new keys are the old ones and this one
abbrev pub PutsSelector : (old : List SelectorParts) → SelectorParts → (new : List SelectorParts) → Type 0
PutsSelector old key new = (s : SelectorParts) → list_any (same_selector s) new ≡ (same_selector key s || list_any (same_selector s) old)
