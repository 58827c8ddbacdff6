-- What is asked of the id of an element (Selectors 3, section 6.5), by `#` and by tests of the attribute `id`.
use Rattle.std.specs.Prelude.{ℕ, Bool, true, false, not, ◌&&◌, if◌then◌else◌, List, [], ◌++◌, Option, Some, None, codes}
use Rattle.std.specs.List.{filter_map, flat_map, list_any}
use Rattle.css_model.specs.declared.selector.Op.TheVariants.{Equal}
use Rattle.css_model.specs.declared.selector.Simple.{Simple}
use Rattle.css_model.specs.declared.selector.Test.{Test}
use Rattle.css_model.specs.declared.selector.Test.TheVariants.{Id, Attr}
use Rattle.css_model.specs.Documents.SelectorParts.{SelectorParts}
use Rattle.css_model.specs.Lists.{same_text}
use Rattle.attr_values.specs.Asked.{some_of}
use Rattle.compound_fit.specs.FreeNames.{is_among}
use Rattle.slot_plan.specs.ValidShape.{asked_id}

-- whether a test is one of the id
abbrev pub is_id_test : Test → Bool
is_id_test (Id v) = true
is_id_test (Attr t) = same_text t.name (codes "id")
is_id_test _ = false

-- the id that it names, by `#` or by `=`
abbrev pub id_value : Test → Option (List ℕ)
id_value (Id v) = Some v
id_value (Attr t) = if same_text t.name (codes "id") then (elim t.op [ Equal ↦ Some t.value | _ ↦ None ]) else None
id_value _ = None

-- whether some test of the id is asked to hold, so that the element has one
abbrev pub asks_for_id : List Simple → Bool
asks_for_id simples = list_any (λ s. not s.negated && is_id_test s.test) simples

-- the ids that are asked for, other than the empty one
abbrev pub asked_ids : List Simple → List (List ℕ)
asked_ids simples = filter_map asked_id simples

-- the ids that are refused
abbrev pub refused_id : Simple → Option (List ℕ)
refused_id s = if s.negated then id_value s.test else None

abbrev pub refused_ids : List Simple → List (List ℕ)
refused_ids simples = filter_map refused_id simples

-- An id is free: there has to be one, none is asked for, and the empty one is refused.
abbrev pub is_id_free : List Simple → Bool
is_id_free simples = asks_for_id simples && (not (some_of (asked_ids simples)) && is_among (refused_ids simples) [])

-- the ids that are asked for anywhere in two selectors
abbrev pub ids_of_pair : SelectorParts → SelectorParts → List (List ℕ)
ids_of_pair x y = flat_map asked_ids x.chain ++ flat_map asked_ids y.chain
