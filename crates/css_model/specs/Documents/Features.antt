-- What the simple selectors of a compound ask of an element itself, apart from its place among its
-- siblings, from being the root and from what stands in it (Selectors 3, sections 6.1 to 6.6.4).
use Rattle.std.specs.Prelude.{◌≡◌, ℕ, ◌%◌, ◌/◌, ◌^◌, ◌==◌, Bool, true, false, List, map, Some, IsSomeAnd, codes}
use Rattle.std.specs.Bool.{MatchBool}
use Rattle.std.specs.List.{All}
use Rattle.css_model.specs.declared.selector.Flag.{Flag}
use Rattle.css_model.specs.declared.selector.Flag.TheVariants.{Link, Visited, Hover, Active, Focus, Target, Enabled, Disabled, Checked}
use Rattle.css_model.specs.declared.selector.Simple.{Simple}
use Rattle.css_model.specs.declared.selector.Test.{Test}
use Rattle.css_model.specs.declared.selector.Test.TheVariants.{Any, Kind, Id, Attr, Nth, NthLast, OnlyChild, Root, Empty, State}
use Rattle.css_model.specs.Documents.Attribute.{Passes}
use Rattle.css_model.specs.Documents.Document.{Element, IsLegalElement, attribute_value}
use Rattle.css_model.specs.Documents.FeatureParts.{FeatureParts}

-- whether a test speaks of the element's place, or of what stands in it
abbrev pub is_structural : Test → Bool
is_structural (Nth x) = true
is_structural (NthLast x) = true
is_structural OnlyChild = true
is_structural Root = true
is_structural Empty = true
is_structural _ = false

-- what any other test says of an element
abbrev pub HoldsOf : Element → Test → Type 0
HoldsOf e (Kind name) = e.kind ≡ name
HoldsOf e (Id value) = attribute_value e (codes "id") ≡ Some value
HoldsOf e (Attr test) = IsSomeAnd (attribute_value e test.name) (λ value. Passes test.op test.value value)
HoldsOf e (State flag) = e.flags flag ≡ true
HoldsOf e _ = Unit {0}

-- the element passes a simple selector; a structural one asks nothing of it
abbrev pub PassesSimple : Element → Simple → Type 0
PassesSimple e s = MatchBool (is_structural s.test) (Unit {0}) (MatchBool s.negated (HoldsOf e s.test → ⊥) (HoldsOf e s.test))

-- the element passes each of these
abbrev pub Suits : List Simple → Element → Type 0
Suits simples e = All (PassesSimple e) simples

-- some element does that a legal document may have
abbrev pub CanSuit : List Simple → Type 0
CanSuit simples = (e : Element) × IsLegalElement e × Suits simples e

-- the number of a flag, from 0
abbrev pub flag_number : Flag → ℕ
flag_number Link = 0
flag_number Visited = 1
flag_number Hover = 2
flag_number Active = 3
flag_number Focus = 4
flag_number Target = 5
flag_number Enabled = 6
flag_number Disabled = 7
flag_number Checked = 8

-- the flags that a number has: a flag of number k where bit k is set
abbrev pub flags_of : ℕ → Flag → Bool
flags_of bits flag = (bits / 2 ^ flag_number flag) % 2 == 1

-- the element that has these features
abbrev pub element_of : FeatureParts → Element
element_of f = record { kind = f.kind; attributes = map (λ a. record { name = a.0; value = a.1 }) f.attrs; flags = flags_of f.flags; text = f.text }
