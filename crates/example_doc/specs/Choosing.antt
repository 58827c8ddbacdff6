-- One step of choosing the elements for the slots of a shape.
use Rattle.std.specs.Prelude.{◌≡◌, ℕ, Bool, true, false, List, [], ◌∷◌, ◌++◌, Option, Some, None}
use Rattle.css_model.specs.declared.selector.Simple.{Simple}
use Rattle.css_model.specs.Documents.Document.{IsText}
use Rattle.css_model.specs.Documents.FeatureParts.{FeatureParts}
use Rattle.compound_fit.specs.FreeNames.{IsFirstFree}
use Rattle.element_laws.specs.Chosen.{IsChosen, taken_with, with_id}
use Rattle.element_laws.specs.Ids.{is_id_free, refused_ids}

-- the id that an element gets: the first free name where its id is free, and else none
abbrev pub IsOwnId : (is_free : Bool) (refused : List (List ℕ)) → Option (List ℕ) → Type 0
IsOwnId false refused o = o ≡ None
IsOwnId true refused o = (id : List ℕ) × (o ≡ Some id) × IsFirstFree id refused × IsText id

-- The element that is made of features that fit: one is appended, and its id to those that are taken where it was free.
abbrev pub IsElementOf : (is_free : Bool) (refused : List (List ℕ)) (fit : FeatureParts) (text : Bool) (elements more : List FeatureParts) (taken now : List (List ℕ)) → Type 0
IsElementOf false refused fit text elements more taken now =
    (more ≡ elements ++ record { kind = fit.kind; attrs = fit.attrs; flags = fit.flags; text = text } ∷ []) × (now ≡ taken)
IsElementOf true refused fit text elements more taken now =
    (id : List ℕ) × IsFirstFree id refused × IsText id
    × (more ≡ elements ++ record { kind = fit.kind; attrs = with_id id fit.attrs; flags = fit.flags; text = text } ∷ []) × (now ≡ taken ++ id ∷ [])

abbrev pub IsElement : List Simple → FeatureParts → Bool → (elements more : List FeatureParts) (taken now : List (List ℕ)) → Type 0
IsElement simples fit text elements more taken now = IsElementOf (is_id_free simples) (refused_ids simples ++ taken) fit text elements more taken now

-- a slot gets its element
pub record GetsElement (parent : Bool) (simples : List Simple) (elements more : List FeatureParts) (taken now : List (List ℕ)) : Type 0 where
  pub element : FeatureParts
  pub chosen : IsChosen parent simples taken element
  pub added : more ≡ elements ++ element ∷ []
  pub new : now ≡ taken_with (is_id_free simples) element taken
