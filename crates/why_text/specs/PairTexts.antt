-- A pair of a sheet by its place, and its text (own).
use Rattle.std.specs.Prelude.{◌≡◌, ℕ, List, [], ◌∷◌, Some, slice_get}
use Rattle.css_model.specs.declared.sheet.DeclItem.{DeclItem}
use Rattle.css_model.specs.declared.sheet.Item.{Item}
use Rattle.css_model.specs.declared.sheet.Item.TheVariants.{Rule}
use Rattle.css_model.specs.declared.sheet.SelItem.{SelItem}
use Rattle.css_model.specs.Sheets.Printed.{printed_rule}
use Rattle.css_model.specs.Sheets.RuleParts.{RuleParts}
use Rattle.sheet_order.specs.declared.places.PairPlace.{PairPlace}

-- a rule of the sheet has this selector and this declaration there
pub record StandAt (items : List Item) (p : PairPlace) (selector : SelItem) (decl : DeclItem) : Type 0 where
  pub rule : RuleParts
  pub rule_at : slice_get items p.item ≡ Some (Rule rule)
  pub selector_at : slice_get rule.selectors p.sel ≡ Some selector
  pub decl_at : slice_get rule.decls p.decl ≡ Some decl

-- a rule of the sheet has a selector and a declaration there
abbrev pub IsPlace : List Item → PairPlace → Type 0
IsPlace items p = (selector : SelItem) × (decl : DeclItem) × StandAt items p selector decl

-- a rule of one selector and one declaration
abbrev pub rule_of : SelItem → DeclItem → RuleParts
rule_of selector decl = record { selectors = selector ∷ []; decls = decl ∷ [] }

-- the text of the pair there, which is that of a rule
abbrev pub IsPairText : (source : List ℕ) → List Item → PairPlace → (text : List ℕ) → Type 0
IsPairText source items p text = (selector : SelItem) × (decl : DeclItem) × StandAt items p selector decl × (text ≡ printed_rule source (rule_of selector decl))
