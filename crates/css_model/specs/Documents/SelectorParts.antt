-- What a contract sees of a selector.
use Rattle.std.specs.Prelude.{List, Option}
use Rattle.css_model.specs.declared.selector.Simple.{Simple}
use Rattle.css_model.specs.declared.selector.Combinator.{Combinator}
use Rattle.css_model.specs.declared.selector.Pseudo.{Pseudo}

-- its compounds and its combinators from right to left, and its pseudo-element
pub record SelectorParts : Type 0 where
  pub chain : List (List Simple)
  pub links : List Combinator
  pub pseudo : Option Pseudo
