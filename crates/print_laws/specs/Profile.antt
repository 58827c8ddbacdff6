-- The selectors of a style sheet are in the profile: each is what its printed text is read as.
use Rattle.std.specs.Prelude.{ℕ, ◌≡◌, ◌≤◌, List, Ok, length}
use Rattle.std.specs.List.{AllByRecursion}
use Rattle.css_model.specs.declared.sheet.Item.{Item}
use Rattle.css_model.specs.declared.sheet.Item.TheVariants.{Rule}
use Rattle.css_model.specs.declared.sheet.SelItem.{SelItem}
use Rattle.css_model.specs.Selectors.Profile.{IsInProfile}
use Rattle.css_model.specs.Selectors.Reading.{selector_of}
use Rattle.css_model.specs.Sheets.Limits.{max_bytes}
use Rattle.css_model.specs.Sheets.Printed.{printed_selector}
use Rattle.css_model.specs.Sheets.Sheet.{sheet_of}
use Rattle.css_model.specs.Sheets.Sound.{IsSound, IsSoundSelector}

-- The printed text of a selector of a source that is read is read as this selector by itself, and is no longer than a sheet may be.
abbrev pub PrintedSelectorsAreRead : Type 0
PrintedSelectorsAreRead = (source : List ℕ) (old : List Item) (s : SelItem) → sheet_of source ≡ Ok old → IsSoundSelector source s
    → (selector_of (printed_selector source s) ≡ Ok s.selector) × (length (printed_selector source s) ≤ max_bytes)

-- the selectors of a rule are in the profile (own)
abbrev pub HasSelectorsInProfile : Item → Type 0
HasSelectorsInProfile (Rule r) = AllByRecursion (λ s. IsInProfile s.selector) r.selectors
HasSelectorsInProfile item = Unit {0}

-- So the selectors of items that are made of parts of a source that is read are in the profile.
abbrev pub SelectorsAreInProfile : Type 0
SelectorsAreInProfile = (source : List ℕ) (old new : List Item) → sheet_of source ≡ Ok old → IsSound source new → AllByRecursion HasSelectorsInProfile new
