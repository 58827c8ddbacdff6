-- The elements that are chosen for the slots of a shape (own).
use Rattle.std.specs.Prelude.{◌≡◌, ℕ, suc, Bool, true, false, not, ◌&&◌, if◌then◌else◌, List, [], ◌∷◌, ◌++◌, length, map, codes}
use Rattle.std.specs.List.{cons_option}
use Rattle.css_model.specs.declared.selector.Simple.{Simple}
use Rattle.css_model.specs.Documents.Document.{IsText}
use Rattle.css_model.specs.Documents.FeatureParts.{FeatureParts}
use Rattle.css_model.specs.Documents.SelectorParts.{SelectorParts}
use Rattle.css_model.specs.Lists.{same_text}
use Rattle.compound_fit.specs.Fitting.{AreFeatures}
use Rattle.compound_fit.specs.FreeNames.{IsFirstFree}
use Rattle.shape_laws.specs.Document.SlotElements.{asks_for_content, own_id}
use Rattle.element_laws.specs.Ids.{ids_of_pair, is_id_free, refused_ids}
use Rattle.slot_plan.specs.ShapeParts.{ShapeParts}
use Rattle.slot_plan.specs.Steps.{is_parent}
use Rattle.slot_plan.specs.ValidShape.{simples_in}

-- attributes with this id in place of theirs
abbrev pub with_id : List ℕ → List (List ℕ × List ℕ) → List (List ℕ × List ℕ)
with_id id attrs = map (λ a. if same_text a.0 (codes "id") then (a.0, id) else a) attrs

-- The attributes that an element gets: those that fit, and where its id is free the first free name as the id.
abbrev pub AreGiven : (is_free : Bool) (refused : List (List ℕ)) (attrs given : List (List ℕ × List ℕ)) → Type 0
AreGiven false refused attrs given = given ≡ attrs
AreGiven true refused attrs given = (id : List ℕ) × IsFirstFree id refused × IsText id × (given ≡ with_id id attrs)

-- The element of a slot, where these ids are taken: features that fit what is asked there, an id of its own where
-- any will do, and text where content is asked for and no child is there.
pub record IsChosen (parent : Bool) (simples : List Simple) (taken : List (List ℕ)) (f : FeatureParts) : Type 0 where
  pub fit : FeatureParts
  pub features : AreFeatures fit simples
  pub kind : f.kind ≡ fit.kind
  pub attrs : AreGiven (is_id_free simples) (refused_ids simples ++ taken) fit.attrs f.attrs
  pub flags : f.flags ≡ fit.flags
  pub text : f.text ≡ (not parent && asks_for_content simples)

-- the ids that are taken, once an element has one that was free
abbrev pub taken_with : Bool → FeatureParts → List (List ℕ) → List (List ℕ)
taken_with false f taken = taken
taken_with true f taken = taken ++ cons_option (own_id f) []

-- the elements of the slots from this number on, chosen one after the other
abbrev pub AreChosenFrom : SelectorParts → SelectorParts → ShapeParts → ℕ → List (List ℕ) → List FeatureParts → Type 0
AreChosenFrom x y shape k taken [] = Unit {0}
AreChosenFrom x y shape k taken (f ∷ elements) =
    IsChosen (is_parent shape.steps k) (simples_in x y shape k) taken f
    × AreChosenFrom x y shape (suc k) (taken_with (is_id_free (simples_in x y shape k)) f taken) elements

-- one for each slot; the ids that are asked for anywhere are taken
pub record AreChosen (x y : SelectorParts) (shape : ShapeParts) (elements : List FeatureParts) : Type 0 where
  pub count : length elements ≡ suc (length shape.steps)
  pub each : AreChosenFrom x y shape 0 (ids_of_pair x y) elements
