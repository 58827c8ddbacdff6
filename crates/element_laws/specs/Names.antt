-- Selectors whose types and attributes have names (own: no text is read as another one).
use Rattle.std.specs.Prelude.{◌≢◌, List, []}
use Rattle.std.specs.List.{AllByRecursion}
use Rattle.css_model.specs.declared.selector.Simple.{Simple}
use Rattle.css_model.specs.declared.selector.Test.{Test}
use Rattle.css_model.specs.declared.selector.Test.TheVariants.{Kind, Attr}

-- the type or the attribute that a test names has a name that is not empty
abbrev pub HasName : Test → Type 0
HasName (Kind name) = name ≢ []
HasName (Attr test) = test.name ≢ []
HasName _ = Unit {0}

-- each test of a compound is so
abbrev pub HaveNames : List Simple → Type 0
HaveNames simples = AllByRecursion (λ s. HasName s.test) simples
