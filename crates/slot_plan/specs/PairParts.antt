-- What a contract sees of the plan of a pair.
use Rattle.css_model.specs.Documents.SelectorParts.{SelectorParts}

-- its two selectors
pub record PairParts : Type 0 where
  pub left : SelectorParts
  pub right : SelectorParts
