-- What simple selectors say of an element, from its features and what stands around it (Selectors 3, section 6).
use Rattle.std.specs.Prelude.{suc, ◌==◌, Bool, true, not, ◌&&◌, if◌then◌else◌, List, map, codes}
use Rattle.std.specs.List.{list_all}
use Rattle.css_model.specs.declared.selector.Simple.{Simple}
use Rattle.css_model.specs.declared.selector.Test.{Test}
use Rattle.css_model.specs.declared.selector.Test.TheVariants.{Any, Kind, Id, Attr, Nth, NthLast, OnlyChild, Root, Empty, State}
use Rattle.css_model.specs.Documents.Attribute.{passes}
use Rattle.css_model.specs.Documents.Document.{Element, attribute_value}
use Rattle.css_model.specs.Documents.Matching.{is_nth, some_passes}
use Rattle.css_model.specs.Lists.{same_text}
use Rattle.cascade_laws.specs.declared.reaching.Surroundings.{Surroundings}

-- whether a test holds of an element in these surroundings (Selectors 3, section 6)
abbrev pub test_among : Element → Surroundings → Test → Bool
test_among e s Any = true
test_among e s (Kind name) = same_text e.kind name
test_among e s (Id name) = some_passes (λ value. same_text value name) (attribute_value e (codes "id"))
test_among e s (Attr test) = some_passes (passes test.op test.value) (attribute_value e test.name)
test_among e s (Nth x) = s.is_child && is_nth x (suc s.before)
test_among e s (NthLast x) = s.is_child && is_nth x (suc s.behind)
test_among e s OnlyChild = s.is_child && (s.before == 0 && s.behind == 0)
test_among e s Root = s.is_root
test_among e s Empty = not s.has_children && not e.text
test_among e s (State flag) = e.flags flag

-- whether a simple selector does, which may be a negation (section 6.6.7)
abbrev pub simple_among : Element → Surroundings → Simple → Bool
simple_among e s simple = if simple.negated then not (test_among e s simple.test) else test_among e s simple.test

-- whether all of a sequence do (section 4)
abbrev pub compound_among : Element → Surroundings → List Simple → Bool
compound_among e s simples = list_all (simple_among e s) simples

-- which sequences of a chain do
abbrev pub chain_among : List (List Simple) → Element → Surroundings → List Bool
chain_among chain e s = map (compound_among e s) chain
