-- The profile: the selectors that are read (own; the limits stand in `Sheets/Limits.antt`).
use Rattle.std.specs.Prelude.{ℕ, ◌≡◌, ◌≤◌, List, length, Ok}
use Rattle.css_model.specs.Documents.SelectorParts.{SelectorParts}
use Rattle.css_model.specs.Selectors.Reading.{selector_of}
use Rattle.css_model.specs.Sheets.Limits.{max_bytes}

-- a selector of the profile: some text of at most `max_bytes` bytes reads as it
pub record IsInProfile (selector : SelectorParts) : Type 0 where
  pub text : List ℕ
  pub short : length text ≤ max_bytes
  pub reads : selector_of text ≡ Ok selector
