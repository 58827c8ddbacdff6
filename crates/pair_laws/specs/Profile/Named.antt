-- The tests of a selector of the profile name something.
use Rattle.std.specs.Prelude.{◌≢◌, List, []}
use Rattle.std.specs.List.{AllByRecursion}
use Rattle.css_model.specs.declared.selector.Simple.{Simple}
use Rattle.css_model.specs.declared.selector.Test.{Test}
use Rattle.css_model.specs.declared.selector.Test.TheVariants.{Kind, Attr}
use Rattle.css_model.specs.Documents.SelectorParts.{SelectorParts}
use Rattle.css_model.specs.Selectors.Profile.{IsInProfile}

-- the name of a type or an attribute is not empty
abbrev pub HasName : Test → Type 0
HasName (Kind name) = name ≢ []
HasName (Attr test) = test.name ≢ []
HasName _ = Unit {0}

abbrev pub HaveNames : List Simple → Type 0
HaveNames simples = AllByRecursion (λ s. HasName s.test) simples

-- the names in each compound of a selector of the profile
abbrev pub ProfileHasNames : Type 0
ProfileHasNames = (x : SelectorParts) → IsInProfile x → AllByRecursion HaveNames x.chain
