-- What a contract sees of a rule.
use Rattle.std.specs.Prelude.{List}
use Rattle.css_model.specs.declared.sheet.SelItem.{SelItem}
use Rattle.css_model.specs.declared.sheet.DeclItem.{DeclItem}

-- its selectors and its declarations, in the order of the source
pub record RuleParts : Type 0 where
  pub selectors : List SelItem
  pub decls : List DeclItem
