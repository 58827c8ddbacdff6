-- Parts of a rule that are in it once (own).
use Rattle.std.specs.Prelude.{◌≡◌, ℕ, List, Some, slice_get}
use Rattle.css_model.specs.declared.sheet.Item.{Item}
use Rattle.css_model.specs.declared.sheet.Item.TheVariants.{Rule}
use Rattle.css_model.specs.Sheets.RuleParts.{RuleParts}
pub use Rattle.step_queue.specs.Once.{DeclsStandOnce, StandOnce}
use Rattle.rule_tables.specs.Losing.{HasDeclOnce, HasSelectorOnce}
use Rattle.step_laws.specs.declared.step.Step.{Step}
use Rattle.step_laws.specs.declared.step.Step.TheVariants.{CutDecl, CutSel}

-- each selector of the rule of this number is in it once
abbrev pub SelectorsStandOnce : List Item → ℕ → Type 0
SelectorsStandOnce items n = (r : RuleParts) → slice_get items n ≡ Some (Rule r) → StandOnce (λ x. x.selector) r.selectors

-- the rule of this number has this declaration, this selector once
abbrev pub DeclStandsOnce : List Item → ℕ → ℕ → Type 0
DeclStandsOnce items n i = (r : RuleParts) → slice_get items n ≡ Some (Rule r) → HasDeclOnce r i

abbrev pub SelectorStandsOnce : List Item → ℕ → ℕ → Type 0
SelectorStandsOnce items n i = (r : RuleParts) → slice_get items n ≡ Some (Rule r) → HasSelectorOnce r i

-- the part that a step cuts is in its rule once; a step that is no cut cuts none
abbrev pub PartStandsOnce : List Item → Step → Type 0
PartStandsOnce items (CutDecl n i) = DeclStandsOnce items n i
PartStandsOnce items (CutSel n i) = SelectorStandsOnce items n i
PartStandsOnce items _ = Unit {0}
