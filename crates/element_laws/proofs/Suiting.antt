-- An element that is chosen suits its slot.
use Rattle.std.proofs.Common.{Bool, List, None, Option, Some, [], ap, false, map, not, refl, subst, sym, true, ℕ, ◌&&◌, ◌++◌, ◌<◌, ◌^◌, ◌∙◌, ◌∷◌, ◌≡◌, ◌≢◌}
use Rattle.std.proofs.lemmas.Bool.{false≢true}
use Rattle.std.proofs.lemmas.List.Elements.{All-cons, All-head, All-map, All-nil, All-tail, Contains-append_left}
use Rattle.std.specs.Cmp.Lexicographic.{bytes_decides, slice_cmp}
use Rattle.std.specs.List.{All}
use Rattle.std.specs.List.Sorted.{IsStrictlySortedBy}
use Rattle.std.specs.Ordering.{nat_cmp}
use Rattle.std.specs.Prelude.{Contains, codes}
use Rattle.css_model.specs.Documents.Document.{Attribute, IsText, attribute_value, if_not_empty}
use Rattle.css_model.specs.Documents.FeatureParts.{FeatureParts}
use Rattle.css_model.specs.Documents.Features.{element_of}
use Rattle.css_model.specs.Documents.RunDocuments.{AreRunFeatures}
use Rattle.css_model.specs.Lists.{same_text}
use Rattle.css_model.specs.declared.selector.Simple.{Simple}
use Rattle.attr_values.specs.Asked.{some_of}
use Rattle.compound_fit.specs.Attributes.{attribute_tests, tests_of, value_of}
use Rattle.compound_fit.specs.Fitting.{AreFeatures, SolvesName, as_answer}
use Rattle.compound_fit.specs.FreeNames.{IsFirstFree, is_among}
use Rattle.compound_fit.specs.Ids.{HasPlainIds}
use Rattle.shape_laws.specs.Document.SlotElements.{SuitsSlot, asks_for_content, own_id}
use Rattle.element_laws.proofs.Asking.{own_asked}
use Rattle.element_laws.proofs.Attributes.{all_with_id, attribute, names_differ, names_stay, not_among, other_value, own_value}
use Rattle.element_laws.proofs.Named.{free_full, kind_full, names_full}
use Rattle.element_laws.proofs.Passing.{any_some, has_id, not_empty, suits_same, suits_with}
use Rattle.element_laws.specs.Chosen.{AreGiven, IsChosen, with_id}
use Rattle.element_laws.specs.Ids.{asked_ids, asks_for_id, is_id_free, refused_ids}
use Rattle.element_laws.specs.Names.{HaveNames}
use Rattle.list_facts.proofs.Members.{Contains-nil}
use Rattle.shape_laws.proofs.ForCallers.{given}
use Rattle.slot_plan.specs.ValidShape.{asked_id}

-- what holds of attributes holds of the pairs that they are
of_pairs : (P : Attribute → Type 0) (attrs : List (List ℕ × List ℕ)) → All P (map attribute attrs) → All (λ a. P (attribute a)) attrs
of_pairs P [] all = All-nil (λ a. P (attribute a))
of_pairs P (a ∷ attrs) all = All-cons (λ a. P (attribute a)) a attrs (All-head P (attribute a) (map attribute attrs) all) (of_pairs P attrs (All-tail P (attribute a) (map attribute attrs) all))

-- both facts of each
both : {X : Type 0} (P Q : X → Type 0) (xs : List X) → All P xs → All Q xs → All (λ x. P x × Q x) xs
both P Q xs p q k d h = (p k d h, q k d h)

-- the parts of the test whether an id is free
pub free_parts : (simples : List Simple) → is_id_free simples ≡ true → (asks_for_id simples ≡ true) × (some_of (asked_ids simples) ≡ false) × (is_among (refused_ids simples) [] ≡ true)
free_parts simples e = by (asks_for_id simples) (some_of (asked_ids simples)) (is_among (refused_ids simples) []) e
  where
    by : (a b c : Bool) → (a && (not b && c)) ≡ true → (a ≡ true) × (b ≡ false) × (c ≡ true)
    by true false c e = (refl, refl, e)
    by true true c e = absurd (false≢true e)
    by false b c e = absurd (false≢true e)

-- where none is asked for, no simple selector asks for one
none_asks : (simples : List Simple) → some_of (asked_ids simples) ≡ false → (s : Simple) → Contains simples s → asked_id s ≡ None
none_asks simples none s in' = by (asked_id s) refl
  where
    empty : (vs : List (List ℕ)) → some_of vs ≡ false → vs ≡ []
    empty [] e = refl
    empty (v ∷ vs) e = absurd (false≢true (sym e))

    by : (o : Option (List ℕ)) → asked_id s ≡ o → o ≡ None
    by None e = refl
    by (Some v) e = absurd (Contains-nil v (subst (λ l. Contains l v) (empty (asked_ids simples) none) (given asked_id simples s v in' e)))

-- the empty text is among texts
among : (texts : List (List ℕ)) → is_among texts [] ≡ true → Contains texts []
among texts e = let f = any_some (λ r. same_text r []) texts e in subst (Contains texts) ((bytes_decides f.0 []).0 f.2) f.1

-- ---- Features as a line may have them

written : (kind : List ℕ) (attrs : List (List ℕ × List ℕ)) (flags : ℕ) (text : Bool) → IsText kind → kind ≢ [] → All (λ a. IsText a.0 × IsText a.1) attrs → All (λ a. a.0 ≢ []) attrs →
    IsStrictlySortedBy (slice_cmp nat_cmp) (map (λ a. a.0) attrs) → flags < 2 ^ 9 → AreRunFeatures (record { kind = kind; attrs = attrs; flags = flags; text = text })
written kind attrs flags text is_text kind_full texts names ascending few = record {
  kind = (is_text, kind_full);
  attributes = λ k d h. (let t = texts k d h in (t.0, names k d h, t.1));
  ascending = ascending;
  flags = few;
}

-- features of which these are the parts
are_parts : (f : FeatureParts) (kind : List ℕ) (attrs : List (List ℕ × List ℕ)) (flags : ℕ) (text : Bool) → f.kind ≡ kind → f.attrs ≡ attrs → f.flags ≡ flags → f.text ≡ text → record { kind = kind; attrs = attrs; flags = flags; text = text } ≡ f
are_parts f kind attrs flags text e0 e1 e2 e3 = λ i. record { kind = sym e0 i; attrs = sym e1 i; flags = sym e2 i; text = sym e3 i }

-- with the id that fits
suits_plain : (parent : Bool) (simples : List Simple) (fit : FeatureParts) → AreFeatures fit simples → HaveNames simples →
    SuitsSlot parent simples (record { kind = fit.kind; attrs = fit.attrs; flags = fit.flags; text = not parent && asks_for_content simples })
suits_plain parent simples fit f named = record {
  suits = suits_same simples (element_of fit) (element_of (record { kind = fit.kind; attrs = fit.attrs; flags = fit.flags; text = not parent && asks_for_content simples })) refl refl refl f.suits;
  legal = record { kind = f.legal.kind; attributes = f.legal.attributes; names = f.legal.names; links = f.legal.links; controls = f.legal.controls };
  text = refl;
  written = written fit.kind fit.attrs fit.flags (not parent && asks_for_content simples) f.legal.kind (kind_full fit.kind simples named f.kind)
      (of_pairs (λ (a : Attribute). IsText a.name × IsText a.value) fit.attrs f.legal.attributes) (names_full fit.attrs simples named f.attributes) f.attributes.ascending f.few;
}

-- with another id
suits_free : (parent : Bool) (simples : List Simple) (taken : List (List ℕ)) (fit : FeatureParts) (id : List ℕ) → AreFeatures fit simples → HaveNames simples → HasPlainIds simples → is_id_free simples ≡ true → IsFirstFree id (refused_ids simples ++ taken) → IsText id →
    SuitsSlot parent simples (record { kind = fit.kind; attrs = with_id id fit.attrs; flags = fit.flags; text = not parent && asks_for_content simples })
suits_free parent simples taken fit id f named plain free first is_text = record {
  suits = suits_with simples (element_of fit) (element_of given') was.0 id (record {
    suits = f.suits;
    plain = plain;
    kind = refl;
    flags = refl;
    other = other_value id fit.attrs;
    was = was.1;
    full = not_empty simples (element_of fit) was.0 f.suits (among (refused_ids simples) parts.2) was.1;
    is = own_value id fit.attrs was.0 was.1;
    none = none_asks simples parts.1;
    free = λ v in'. not_among (refused_ids simples ++ taken) id v first.free (Contains-append_left (refused_ids simples) taken v in');
  });
  legal = record {
    kind = f.legal.kind;
    attributes = All-map (λ (a : Attribute). IsText a.name × IsText a.value) attribute (with_id id fit.attrs) texts;
    names = names_differ id fit.attrs f.legal.names;
    links = f.legal.links;
    controls = f.legal.controls;
  };
  text = refl;
  written = written fit.kind (with_id id fit.attrs) fit.flags (not parent && asks_for_content simples) f.legal.kind (kind_full fit.kind simples named f.kind) texts
      (all_with_id (λ name value. name ≢ []) id fit.attrs (λ name value h. h) (names_full fit.attrs simples named f.attributes))
      (subst (IsStrictlySortedBy (slice_cmp nat_cmp)) (sym (names_stay id fit.attrs)) f.attributes.ascending) f.few;
}
  where
    given' : FeatureParts
    given' = record { kind = fit.kind; attrs = with_id id fit.attrs; flags = fit.flags; text = not parent && asks_for_content simples }

    parts : (asks_for_id simples ≡ true) × (some_of (asked_ids simples) ≡ false) × (is_among (refused_ids simples) [] ≡ true)
    parts = free_parts simples free

    was : (w : List ℕ) × (attribute_value (element_of fit) (codes "id") ≡ Some w)
    was = has_id simples (element_of fit) f.suits parts.0

    texts : All (λ a. IsText a.0 × IsText a.1) (with_id id fit.attrs)
    texts = all_with_id (λ name value. IsText name × IsText value) id fit.attrs (λ name value h. (h.0, is_text))
        (of_pairs (λ (a : Attribute). IsText a.name × IsText a.value) fit.attrs f.legal.attributes)

-- an element that is chosen
pub chosen_suits : (parent : Bool) (simples : List Simple) (taken : List (List ℕ)) (f : FeatureParts) → HaveNames simples → HasPlainIds simples → IsChosen parent simples taken f → SuitsSlot parent simples f
chosen_suits parent simples taken f named plain c = by (is_id_free simples) refl c.attrs
  where
    by : (b : Bool) → is_id_free simples ≡ b → AreGiven b (refused_ids simples ++ taken) c.fit.attrs f.attrs → SuitsSlot parent simples f
    by false e attrs = subst (SuitsSlot parent simples) (are_parts f c.fit.kind c.fit.attrs c.fit.flags (not parent && asks_for_content simples) c.kind attrs c.flags c.text) (suits_plain parent simples c.fit c.features named)
    by true e (id, first, is_text, attrs) =
        subst (SuitsSlot parent simples) (are_parts f c.fit.kind (with_id id c.fit.attrs) c.fit.flags (not parent && asks_for_content simples) c.kind attrs c.flags c.text) (suits_free parent simples taken c.fit id c.features named plain e first is_text)

-- ---- Its id

-- a text that an option holds
held : (o : Option (List ℕ)) (v : List ℕ) → if_not_empty o ≡ Some v → (o ≡ Some v) × (if_not_empty (Some v) ≡ Some v)
held None v e = absurd (let bad : ⊥ = cc in bad)
held (Some []) v e = absurd (let bad : ⊥ = cc in bad)
held (Some (c ∷ cs)) v e = (e, subst (λ (w : List ℕ). if_not_empty (Some w) ≡ Some w) (let r : c ∷ cs ≡ v = cc in r) refl)

-- where it is free, it is neither refused nor taken
pub free_id : (parent : Bool) (simples : List Simple) (taken : List (List ℕ)) (f : FeatureParts) (v : List ℕ) → IsChosen parent simples taken f → is_id_free simples ≡ true → own_id f ≡ Some v → is_among (refused_ids simples ++ taken) v ≡ false
free_id parent simples taken f v c free own = by (subst (λ b. AreGiven b (refused_ids simples ++ taken) c.fit.attrs f.attrs) free c.attrs)
  where
    by : AreGiven true (refused_ids simples ++ taken) c.fit.attrs f.attrs → is_among (refused_ids simples ++ taken) v ≡ false
    by (id, first, is_text, attrs) =
        let was = has_id simples (element_of c.fit) c.features.suits (free_parts simples free).0 in
        let is : value_of f.attrs (codes "id") ≡ Some id = ap (λ l. value_of l (codes "id")) attrs ∙ own_value id c.fit.attrs was.0 was.1 in
        let h = held (value_of f.attrs (codes "id")) v own in
        subst (λ (w : List ℕ). is_among (refused_ids simples ++ taken) w ≡ false) (let q : Some id ≡ Some v = sym is ∙ h.0 in let r : id ≡ v = cc in r) first.free

-- and else it is asked for
pub asked_own : (parent : Bool) (simples : List Simple) (taken : List (List ℕ)) (f : FeatureParts) (v : List ℕ) → IsChosen parent simples taken f → is_id_free simples ≡ false → own_id f ≡ Some v → Contains (asked_ids simples) v
asked_own parent simples taken f v c not_free own =
    let attrs : f.attrs ≡ c.fit.attrs = subst (λ b. AreGiven b (refused_ids simples ++ taken) c.fit.attrs f.attrs) not_free c.attrs in
    let h = held (value_of c.fit.attrs (codes "id")) v (ap (λ l. if_not_empty (value_of l (codes "id"))) (sym attrs) ∙ own) in
    own_asked simples v (subst (λ o. SolvesName (codes "id") (as_answer o) (tests_of (codes "id") (attribute_tests simples))) h.0 (c.features.attributes.each (codes "id"))) not_free h.1

-- the id that it was given
pub own_given : (simples : List Simple) (refused : List (List ℕ)) (fit f : FeatureParts) (id : List ℕ) → AreFeatures fit simples → is_id_free simples ≡ true → IsFirstFree id refused → f.attrs ≡ with_id id fit.attrs → own_id f ≡ Some id
own_given simples refused fit f id features free first attrs =
    let was = has_id simples (element_of fit) features.suits (free_parts simples free).0 in
    ap (λ l. if_not_empty (value_of l (codes "id"))) attrs ∙ ap if_not_empty (own_value id fit.attrs was.0 was.1) ∙ full id (free_full id refused first)
  where
    full : (v : List ℕ) → v ≢ [] → if_not_empty (Some v) ≡ Some v
    full [] h = absurd (h refl)
    full (c ∷ cs) h = refl
