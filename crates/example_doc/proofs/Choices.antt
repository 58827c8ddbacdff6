-- The elements that are chosen, one after the other.
use Rattle.std.proofs.Common.{Bool, List, None, Some, [], ap, arith, false, get_or, length, not, refl, subst, suc, sym, true, zero, ℕ, ◌&&◌, ◌++◌, ◌+◌, ◌-◌, ◌<◌, ◌||◌, ◌∙◌, ◌∷◌, ◌≡◌, ◌≤◌}
use Rattle.std.proofs.lemmas.List.Elements.{filter_map-append}
use Rattle.std.proofs.lemmas.List.Folds.{list_any-append}
use Rattle.std.specs.List.{cons_option}
use Rattle.css_model.specs.Documents.Document.{IsText}
use Rattle.css_model.specs.Documents.FeatureParts.{FeatureParts}
use Rattle.css_model.specs.Documents.SelectorParts.{SelectorParts}
use Rattle.css_model.specs.declared.selector.Simple.{Simple}
use Rattle.css_model.specs.Sheets.Limits.{max_compounds}
use Rattle.compound_fit.specs.Fitting.{AreFeatures}
use Rattle.compound_fit.specs.FreeNames.{IsFirstFree}
use Rattle.shape_laws.specs.Document.SlotElements.{asks_for_content}
use Rattle.element_laws.proofs.ForCallers.{own_given}
use Rattle.element_laws.specs.Chosen.{AreChosen, AreChosenFrom, AreGiven, IsChosen, taken_with, with_id}
use Rattle.element_laws.specs.Ids.{asked_ids, asks_for_id, ids_of_pair, is_id_free, is_id_test, refused_id, refused_ids}
use Rattle.example_doc.specs.Choosing.{GetsElement, IsElement, IsElementOf, IsOwnId}
use Rattle.shape_laws.proofs.ForCallers.{slots_few, slots_length}
use Rattle.slot_plan.specs.ShapeParts.{ShapeParts}
use Rattle.slot_plan.specs.Steps.{is_parent, is_up}
use Rattle.slot_plan.specs.ValidShape.{ValidShape, asked_id, is_empty_test, simples_in}
use Rattle.slot_plan.specs.declared.shape.SlotStep.{SlotStep}

-- the elements that are chosen from a slot on, and which ids are taken then
abbrev pub ChosenTo : SelectorParts → SelectorParts → ShapeParts → ℕ → List (List ℕ) → List FeatureParts → List (List ℕ) → Type 0
ChosenTo x y shape k taken [] end = end ≡ taken
ChosenTo x y shape k taken (f ∷ elements) end =
    IsChosen (is_parent shape.steps k) (simples_in x y shape k) taken f
    × ChosenTo x y shape (suc k) (taken_with (is_id_free (simples_in x y shape k)) f taken) elements end

-- one more
pub chosen_more : (x y : SelectorParts) (shape : ShapeParts) (k n : ℕ) (taken : List (List ℕ)) (elements more : List FeatureParts) (end now : List (List ℕ)) → n ≡ k + length elements →
    ChosenTo x y shape k taken elements end → GetsElement (is_parent shape.steps n) (simples_in x y shape n) elements more end now → ChosenTo x y shape k taken more now
chosen_more x y shape k n taken elements more end now at chosen gets =
    subst (λ l. ChosenTo x y shape k taken l now) (sym gets.added)
    (push k taken elements at chosen)
  where
    f : FeatureParts
    f = gets.element

    push : (k : ℕ) (taken : List (List ℕ)) (fs : List FeatureParts) → n ≡ k + length fs → ChosenTo x y shape k taken fs end → ChosenTo x y shape k taken (fs ++ f ∷ []) now
    push k taken [] at e =
        let here : n ≡ k = omega arith in
        subst (λ (m : ℕ). ChosenTo x y shape m taken (f ∷ []) now) here
        (subst (λ t. ChosenTo x y shape n t (f ∷ []) now) e (gets.chosen, gets.new))
    push k taken (g ∷ fs) at (one, rest) = (one, push (suc k) (taken_with (is_id_free (simples_in x y shape k)) g taken) fs (omega arith) rest)

-- all of them
pub all_chosen : (x y : SelectorParts) (shape : ShapeParts) (elements : List FeatureParts) (end : List (List ℕ)) → ChosenTo x y shape 0 (ids_of_pair x y) elements end → length elements ≡ length shape.steps + 1 → AreChosen x y shape elements
all_chosen x y shape elements end chosen count = record { count = (omega arith); each = from 0 (ids_of_pair x y) elements chosen }
  where
    from : (k : ℕ) (taken : List (List ℕ)) (fs : List FeatureParts) → ChosenTo x y shape k taken fs end → AreChosenFrom x y shape k taken fs
    from k taken [] h = tt
    from k taken (f ∷ fs) (one, rest) = (one, from (suc k) (taken_with (is_id_free (simples_in x y shape k)) f taken) fs rest)

-- whether a slot is a parent, by the step that leads to it
pub parent_at : (steps : List SlotStep) (k : ℕ) (d : SlotStep) → 0 < k → k ≤ length steps → is_parent steps k ≡ is_up (get_or steps (k - 1) d)
parent_at steps zero d some h = absurd (omega arith)
parent_at [] (suc k) d some h = absurd (omega arith)
parent_at (s ∷ steps) (suc zero) d some h = refl
parent_at (s ∷ steps) (suc (suc k)) d some h =
    parent_at steps (suc k) d (omega arith) (omega arith)
    ∙ ap (λ (n : ℕ). is_up (get_or steps n d)) (let e : suc k - 1 ≡ k = omega arith in e)
    ∙ ap (λ (n : ℕ). is_up (get_or (s ∷ steps) n d)) (let e : suc k ≡ suc (suc k) - 1 = omega arith in e)

-- content is asked for where one of two compounds asks for it
pub content_of_both : (left right : List Simple) → asks_for_content (left ++ right) ≡ (asks_for_content left || asks_for_content right)
content_of_both left right = list_any-append (λ s. s.negated && is_empty_test s.test) left right

-- so with ids
pub id_of_both : (left right : List Simple) → asks_for_id (left ++ right) ≡ (asks_for_id left || asks_for_id right)
id_of_both left right = list_any-append (λ s. not s.negated && is_id_test s.test) left right

pub refused_of_both : (left right : List Simple) → ([] ++ refused_ids left) ++ refused_ids right ≡ refused_ids (left ++ right)
refused_of_both left right = sym (filter_map-append refused_id left right)

pub asked_of_both : (left right : List Simple) → ([] ++ asked_ids left) ++ asked_ids right ≡ asked_ids (left ++ right)
asked_of_both left right = sym (filter_map-append asked_id left right)

-- the id that an element gets
pub no_own_id : (b : Bool) (refused : List (List ℕ)) → false ≡ b → IsOwnId b refused None
no_own_id b refused e = subst (λ c. IsOwnId c refused None) e refl

pub an_own_id : (b : Bool) (refused : List (List ℕ)) (id : List ℕ) → true ≡ b → IsFirstFree id refused → IsText id → IsOwnId b refused (Some id)
an_own_id b refused id e first text = subst (λ c. IsOwnId c refused (Some id)) e (id, refl, first, text)

-- the element that is made with it
pub free_element : (b : Bool) (refused : List (List ℕ)) (fit : FeatureParts) (text : Bool) (elements more : List FeatureParts) (taken now : List (List ℕ)) (id : List ℕ) → IsOwnId b refused (Some id) →
    more ≡ elements ++ record { kind = fit.kind; attrs = with_id id fit.attrs; flags = fit.flags; text = text } ∷ [] → now ≡ taken ++ id ∷ [] → IsElementOf b refused fit text elements more taken now
free_element true refused fit text elements more taken now id (id', is, first, is_text) added new =
    let same : id' ≡ id = cc in
    (id, subst (λ v. IsFirstFree v refused) same first, subst IsText same is_text, added, new)
free_element false refused fit text elements more taken now id is added new = absurd (let bad : Some id ≡ None = is in cc)

pub other_element : (b : Bool) (refused : List (List ℕ)) (fit : FeatureParts) (text : Bool) (elements more : List FeatureParts) (taken now : List (List ℕ)) → IsOwnId b refused None →
    more ≡ elements ++ record { kind = fit.kind; attrs = fit.attrs; flags = fit.flags; text = text } ∷ [] → now ≡ taken → IsElementOf b refused fit text elements more taken now
other_element true refused fit text elements more taken now (id, is, first, is_text) added new = absurd (let bad : None ≡ Some id = is in cc)
other_element false refused fit text elements more taken now is added new = (added, new)

-- a slot gets it
pub gets_element : (parent : Bool) (simples : List Simple) (fit : FeatureParts) (text : Bool) (elements more : List FeatureParts) (taken now : List (List ℕ)) → AreFeatures fit simples → text ≡ (not parent && asks_for_content simples) →
    IsElement simples fit text elements more taken now → GetsElement parent simples elements more taken now
gets_element parent simples fit text elements more taken now features is = by (is_id_free simples) refl
  where
    by : (b : Bool) → is_id_free simples ≡ b → IsElementOf b (refused_ids simples ++ taken) fit text elements more taken now → GetsElement parent simples elements more taken now
    by false e (added, new) = record {
      element = record { kind = fit.kind; attrs = fit.attrs; flags = fit.flags; text = text };
      chosen = record { fit = fit; features = features; kind = refl; attrs = subst (λ c. AreGiven c (refused_ids simples ++ taken) fit.attrs fit.attrs) (sym e) refl; flags = refl; text = is };
      added = added;
      new = new ∙ ap (λ c. taken_with c (record { kind = fit.kind; attrs = fit.attrs; flags = fit.flags; text = text }) taken) (sym e);
    }
    by true e (id, first, is_text, added, new) = record {
      element = record { kind = fit.kind; attrs = with_id id fit.attrs; flags = fit.flags; text = text };
      chosen = record { fit = fit; features = features; kind = refl; attrs = subst (λ c. AreGiven c (refused_ids simples ++ taken) fit.attrs (with_id id fit.attrs)) (sym e) (id, first, is_text, refl); flags = refl; text = is };
      added = added;
      new =
          new
          ∙ ap (λ o. taken ++ cons_option o []) (sym (own_given simples (refused_ids simples ++ taken) fit (record { kind = fit.kind; attrs = with_id id fit.attrs; flags = fit.flags; text = text }) id features e first refl))
          ∙ ap (λ c. taken_with c (record { kind = fit.kind; attrs = with_id id fit.attrs; flags = fit.flags; text = text }) taken) (sym e);
    }

-- the same, where its compounds are known by other names
pub gets_from : (parent : Bool) (l r left right : List Simple) (fit : FeatureParts) (text : Bool) (elements more : List FeatureParts) (taken now : List (List ℕ)) → left ≡ l → right ≡ r → AreFeatures fit (l ++ r) → text ≡ (not parent && asks_for_content (left ++ right)) →
    IsElement (left ++ right) fit text elements more taken now → GetsElement parent (l ++ r) elements more taken now
gets_from parent l r left right fit text elements more taken now is-l is-r features is made =
    gets_element parent (l ++ r) fit text elements more taken now features
    (subst (λ k. text ≡ (not parent && asks_for_content (l ++ k))) is-r (subst (λ k. text ≡ (not parent && asks_for_content (k ++ right))) is-l is))
    (subst (λ k. IsElement (l ++ k) fit text elements more taken now) is-r (subst (λ k. IsElement (k ++ right) fit text elements more taken now) is-l made))

-- a shape has few steps
pub few_steps : (x y : SelectorParts) (shape : ShapeParts) → ValidShape x y shape → length x.chain ≤ max_compounds → length y.chain ≤ max_compounds → length shape.steps < 24
few_steps x y shape valid left right =
    let n = slots_few x y shape valid in
    let l = slots_length x.chain x.links shape.steps shape.left valid.left in
    let r = slots_length y.chain y.links shape.steps shape.right valid.right in
    omega arith
