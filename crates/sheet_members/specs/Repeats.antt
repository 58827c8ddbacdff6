-- The selectors of a rule in a table.
use Rattle.std.specs.Prelude.{◌≡◌, List}
use Rattle.std.specs.List.{list_any}
use Rattle.css_model.specs.declared.sheet.SelItem.{SelItem}
use Rattle.css_model.specs.Documents.SelectorParts.{SelectorParts}
use Rattle.order_laws.specs.Members.{has_selector, same_selector}

-- these keys are the selectors of these items
abbrev pub AreSelectors : List SelItem → (keys : List SelectorParts) → Type 0
AreSelectors before keys = (s : SelectorParts) → list_any (same_selector s) keys ≡ has_selector before s
