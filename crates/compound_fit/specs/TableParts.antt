-- What a contract sees of a table: its two selectors, and its fits.
use Rattle.std.specs.Prelude.{List, Option}
use Rattle.css_model.specs.Documents.FeatureParts.{FeatureParts}
use Rattle.css_model.specs.Documents.SelectorParts.{SelectorParts}

pub record TableParts : Type 0 where
  pub left : SelectorParts
  pub right : SelectorParts
  pub fits : List (Option FeatureParts)
