-- Elements for the slots of a shape.
use Rattle.std.specs.Prelude.{◌≡◌, ℕ, suc, Bool, not, ◌&&◌, List, [], ◌∷◌, length, Option, Some, Contains, codes}
use Rattle.std.specs.List.{cons_option, list_any}
use Rattle.css_model.specs.declared.selector.Simple.{Simple}
use Rattle.css_model.specs.Documents.Document.{IsLegalElement, attribute_value, if_not_empty}
use Rattle.css_model.specs.Documents.FeatureParts.{FeatureParts}
use Rattle.css_model.specs.Documents.Features.{Suits, element_of}
use Rattle.css_model.specs.Documents.RunDocuments.{AreRunFeatures}
use Rattle.css_model.specs.Documents.SelectorParts.{SelectorParts}
use Rattle.slot_plan.specs.ShapeParts.{ShapeParts}
use Rattle.slot_plan.specs.Steps.{is_parent}
use Rattle.slot_plan.specs.ValidShape.{is_empty_test, simples_in}

-- whether `:not(:empty)` is asked (Selectors 3, sections 6.6.5.12 and 6.6.7)
abbrev pub asks_for_content : List Simple → Bool
asks_for_content simples = list_any (λ s. s.negated && is_empty_test s.test) simples

-- The features of the element in a slot: a legal one that passes what is asked of it alone, as a line may have
-- it, with text where content is asked for and no child is there.
pub record SuitsSlot (parent : Bool) (simples : List Simple) (f : FeatureParts) : Type 0 where
  pub suits : Suits simples (element_of f)
  pub legal : IsLegalElement (element_of f)
  pub text : f.text ≡ (not parent && asks_for_content simples)
  pub written : AreRunFeatures f

-- what holds of each slot's element, by the number of the slot, from this number on
abbrev pub EachFrom : ℕ → (ℕ → FeatureParts → Type 0) → List FeatureParts → Type 0
EachFrom k P [] = Unit {0}
EachFrom k P (f ∷ elements) = P k f × EachFrom (suc k) P elements

-- the id of an element, if it is not empty (Selectors 3, section 6.5)
abbrev pub own_id : FeatureParts → Option (List ℕ)
own_id f = if_not_empty (attribute_value (element_of f) (codes "id"))

-- no element has an id that stands among those or that an earlier one has
abbrev pub HaveNewIds : List (List ℕ) → List FeatureParts → Type 0
HaveNewIds ids [] = Unit {0}
HaveNewIds ids (f ∷ elements) = ((id : List ℕ) → own_id f ≡ Some id → Contains ids id → ⊥) × HaveNewIds (cons_option (own_id f) ids) elements

-- one element for each slot of a shape of two selectors, and no two with the same id
pub record AreSlotElements (x y : SelectorParts) (shape : ShapeParts) (elements : List FeatureParts) : Type 0 where
  pub count : length elements ≡ suc (length shape.steps)
  pub each : EachFrom 0 (λ k f. SuitsSlot (is_parent shape.steps k) (simples_in x y shape k) f) elements
  pub ids : HaveNewIds [] elements
