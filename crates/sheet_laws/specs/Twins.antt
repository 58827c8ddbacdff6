-- Sheets of two sources whose parts say the same and are printed alike, one by one.
use Rattle.std.specs.Prelude.{◌≡◌, ℕ, List, map}
use Rattle.std.specs.List.{AllZip}
use Rattle.css_model.specs.declared.sheet.Decl.{Decl}
use Rattle.css_model.specs.declared.sheet.DeclItem.{DeclItem}
use Rattle.css_model.specs.declared.sheet.Item.{Item}
use Rattle.css_model.specs.declared.sheet.Item.TheVariants.{Rule, KeptRule, KeptBlock}
use Rattle.css_model.specs.declared.sheet.SelItem.{SelItem}
use Rattle.css_model.specs.Documents.SelectorParts.{SelectorParts}
use Rattle.css_model.specs.Sheets.Printed.{printed_selector, printed_declaration}
use Rattle.css_model.specs.Sheets.RuleParts.{RuleParts}
use Rattle.css_model.specs.Sheets.Spelling.{kept_text}

-- a selector, or a declaration, with its printed text
abbrev pub selector_with_text : List ℕ → SelItem → SelectorParts × List ℕ
selector_with_text source s = (s.selector, printed_selector source s)

abbrev pub decl_with_text : List ℕ → DeclItem → Decl × List ℕ
decl_with_text source d = (d.decl, printed_declaration source d)

-- two rules, each with its source: the same selectors and declarations in the same order, each with the
-- same printed text
pub record AreTwinRules (source source' : List ℕ) (r r' : RuleParts) : Type 0 where
  pub selectors : map (selector_with_text source) r.selectors ≡ map (selector_with_text source') r'.selectors
  pub decls : map (decl_with_text source) r.decls ≡ map (decl_with_text source') r'.decls

-- two items: twin rules, or kept items that say the same
abbrev pub AreTwinItems : List ℕ → List ℕ → Item → Item → Type 0
AreTwinItems source source' (Rule r) (Rule r') = AreTwinRules source source' r r'
AreTwinItems source source' (KeptRule k) (KeptRule k') = (k.decls ≡ k'.decls) × (kept_text source k.piece ≡ kept_text source' k'.piece) × (k.reason ≡ k'.reason)
AreTwinItems source source' (KeptBlock p) (KeptBlock p') = kept_text source p ≡ kept_text source' p'
AreTwinItems source source' _ _ = ⊥

-- two sheets are twins, item by item
abbrev pub AreTwins : List ℕ → List ℕ → List Item → List Item → Type 0
AreTwins source source' items items' = AllZip (AreTwinItems source source') items items'
