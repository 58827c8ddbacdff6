-- The elements that are chosen suit their slots, and no two have the same id.
use Rattle.std.proofs.Common.{Bool, List, None, Option, Some, [], ap, arith, false, inl, inr, length, refl, subst, suc, sym, true, ℕ, ◌++◌, ◌+◌, ◌<◌, ◌∷◌, ◌≡◌, ◌≤◌, ◌⊎◌}
use Rattle.std.proofs.lemmas.List.Elements.{Contains-append_cases, Contains-append_left, Contains-append_right, filter_map-append}
use Rattle.std.specs.List.{AllByRecursion, cons_option, flat_map}
use Rattle.std.specs.Prelude.{Contains, if◌then◌else◌, ◌==◌}
use Rattle.css_model.specs.Documents.FeatureParts.{FeatureParts}
use Rattle.css_model.specs.Documents.SelectorParts.{SelectorParts}
use Rattle.css_model.specs.declared.selector.Simple.{Simple}
use Rattle.compound_fit.specs.Ids.{HasPlainIds}
use Rattle.shape_laws.specs.Document.SlotElements.{AreSlotElements, EachFrom, HaveNewIds, SuitsSlot, own_id}
use Rattle.element_laws.proofs.Attributes.{not_among}
use Rattle.element_laws.proofs.Suiting.{asked_own, chosen_suits, free_id}
use Rattle.element_laws.specs.Chosen.{AreChosen, AreChosenFrom, IsChosen, taken_with}
use Rattle.element_laws.specs.Ids.{asked_ids, ids_of_pair, is_id_free, refused_ids}
use Rattle.element_laws.specs.Names.{HasName, HaveNames}
use Rattle.cascade_laws.proofs.ForCallers.{all_append}
use Rattle.list_facts.proofs.Members.{Contains-cons_cases, Contains-here, Contains-nil}
use Rattle.slot_plan.specs.ShapeParts.{ShapeParts}
use Rattle.slot_plan.specs.Steps.{is_parent}
use Rattle.slot_plan.specs.ValidShape.{ValidShape, asked_id, simples_at, simples_in}

-- ---- Slots and chains

-- all tests in a slot are of its chain
named_at : (chain : List (List Simple)) (slots : List ℕ) (k : ℕ) → AllByRecursion HaveNames chain → HaveNames (simples_at chain slots k)
named_at [] slots k all = tt
named_at (c ∷ chain) [] k all = tt
named_at (c ∷ chain) (p ∷ slots) k (here, all) = by (p == k) here (named_at chain slots k all)
  where
    by : (b : Bool) → HaveNames c → HaveNames (simples_at chain slots k) → HaveNames (if b then c else simples_at chain slots k)
    by true here rest = here
    by false here rest = rest

-- so are the ids that are asked for there
asked_at : (chain : List (List Simple)) (slots : List ℕ) (k : ℕ) (v : List ℕ) → Contains (asked_ids (simples_at chain slots k)) v → Contains (flat_map asked_ids chain) v
asked_at [] slots k v in' = absurd (Contains-nil v in')
asked_at (c ∷ chain) [] k v in' = absurd (Contains-nil v in')
asked_at (c ∷ chain) (p ∷ slots) k v in' = by (p == k) in' (asked_at chain slots k v)
  where
    by : (b : Bool) → Contains (asked_ids (if b then c else simples_at chain slots k)) v → (Contains (asked_ids (simples_at chain slots k)) v → Contains (flat_map asked_ids chain) v) → Contains (asked_ids c ++ flat_map asked_ids chain) v
    by true h rest = Contains-append_left (asked_ids c) (flat_map asked_ids chain) v h
    by false h rest = Contains-append_right (asked_ids c) (flat_map asked_ids chain) v (rest h)

asked_in_pair : (x y : SelectorParts) (shape : ShapeParts) (k : ℕ) (v : List ℕ) → Contains (asked_ids (simples_in x y shape k)) v → Contains (ids_of_pair x y) v
asked_in_pair x y shape k v in' =
    elim (Contains-append_cases (asked_ids (simples_at x.chain shape.left k)) (asked_ids (simples_at y.chain shape.right k)) v
    (subst (λ l. Contains l v) (filter_map-append asked_id (simples_at x.chain shape.left k) (simples_at y.chain shape.right k)) in')) [
      | inl a ↦ Contains-append_left (flat_map asked_ids x.chain) (flat_map asked_ids y.chain) v (asked_at x.chain shape.left k v a)
      | inr a ↦ Contains-append_right (flat_map asked_ids x.chain) (flat_map asked_ids y.chain) v (asked_at y.chain shape.right k v a)
    ]

-- ---- Ids

-- where an id that is there comes from: an earlier slot asks for it, or it was free
abbrev pub Origin : SelectorParts → SelectorParts → ShapeParts → ℕ → List (List ℕ) → List ℕ → Type 0
Origin x y shape k taken v =
    ((j : ℕ) × (j < k) × Contains (asked_ids (simples_in x y shape j)) v)
    ⊎ (Contains taken v × (Contains (ids_of_pair x y) v → ⊥))

-- what is known when a slot's element is chosen
pub record Known (x y : SelectorParts) (shape : ShapeParts) (k : ℕ) (seen taken : List (List ℕ)) : Type 0 where
  pub origins : (v : List ℕ) → Contains seen v → Origin x y shape k taken v
  pub asked : (v : List ℕ) → Contains (ids_of_pair x y) v → Contains taken v

-- its id is new
is_new : (x y : SelectorParts) (shape : ShapeParts) → ValidShape x y shape → (k : ℕ) → k ≤ length shape.steps → (seen taken : List (List ℕ)) → Known x y shape k seen taken → (parent : Bool) (f : FeatureParts) →
    IsChosen parent (simples_in x y shape k) taken f → (v : List ℕ) → own_id f ≡ Some v → Contains seen v → ⊥
is_new x y shape valid k h seen taken known parent f c v own in' = by (is_id_free (simples_in x y shape k)) refl
  where
    refused : List (List ℕ)
    refused = refused_ids (simples_in x y shape k)

    by : (b : Bool) → is_id_free (simples_in x y shape k) ≡ b → ⊥
    by true free =
        let out : (Contains taken v → ⊥) = λ t. not_among (refused ++ taken) v v (free_id parent (simples_in x y shape k) taken f v c free own) (Contains-append_right refused taken v t) refl in
        elim (known.origins v in') [
          | inl a ↦ out (known.asked v (asked_in_pair x y shape a.0 v a.2))
          | inr t ↦ out t.0
        ]
    by false not_free =
        let asked = asked_own parent (simples_in x y shape k) taken f v c not_free own in
        elim (known.origins v in') [
          | inl a ↦ valid.ids a.0 k v a.1 h a.2 asked
          | inr t ↦ t.1 (asked_in_pair x y shape k v asked)
        ]

-- a value in front of others, or among them
cons_cases : {Y : Type 0} (o : Option Y) (ys : List Y) (v : Y) → Contains (cons_option o ys) v → (o ≡ Some v) ⊎ Contains ys v
cons_cases None ys v h = inr h
cons_cases (Some w) ys v h = elim (Contains-cons_cases w ys v h) [ inl e ↦ inl (ap Some e) | inr more ↦ inr more ]

-- what is known for the next slot
known_next : (x y : SelectorParts) (shape : ShapeParts) (k : ℕ) (seen taken : List (List ℕ)) → Known x y shape k seen taken → (parent : Bool) (f : FeatureParts) → IsChosen parent (simples_in x y shape k) taken f →
    Known x y shape (suc k) (cons_option (own_id f) seen) (taken_with (is_id_free (simples_in x y shape k)) f taken)
known_next x y shape k seen taken known parent f c = record {
  origins = λ v in'. elim (cons_cases (own_id f) seen v in') [
    | inl own ↦ now v own
    | inr before ↦ (elim (known.origins v before) [
      | inl a ↦ inl (a.0, omega (arith, a.1), a.2)
      | inr t ↦ inr (still v t.0, t.1)
    ])
  ];
  asked = λ v in'. still v (known.asked v in');
}
  where
    still : (v : List ℕ) → Contains taken v → Contains (taken_with (is_id_free (simples_in x y shape k)) f taken) v
    still v = by (is_id_free (simples_in x y shape k))
      where
        by : (b : Bool) → Contains taken v → Contains (taken_with b f taken) v
        by false t = t
        by true t = Contains-append_left taken (cons_option (own_id f) []) v t

    now : (v : List ℕ) → own_id f ≡ Some v → Origin x y shape (suc k) (taken_with (is_id_free (simples_in x y shape k)) f taken) v
    now v own = by (is_id_free (simples_in x y shape k)) refl
      where
        by : (b : Bool) → is_id_free (simples_in x y shape k) ≡ b → Origin x y shape (suc k) (taken_with b f taken) v
        by false not_free = inl (k, omega arith, asked_own parent (simples_in x y shape k) taken f v c not_free own)
        by true free = inr (
          Contains-append_right taken (cons_option (own_id f) []) v (subst (λ o. Contains (cons_option o []) v) (sym own) (Contains-here v [])),
          λ in'. not_among (refused_ids (simples_in x y shape k) ++ taken) v v (free_id parent (simples_in x y shape k) taken f v c free own) (Contains-append_right (refused_ids (simples_in x y shape k)) taken v (known.asked v in')) refl,
        )

-- all ids are new
new_ids : (x y : SelectorParts) (shape : ShapeParts) → ValidShape x y shape → (k : ℕ) (seen taken : List (List ℕ)) (elements : List FeatureParts) → k + length elements ≡ suc (length shape.steps) → Known x y shape k seen taken →
    AreChosenFrom x y shape k taken elements → HaveNewIds seen elements
new_ids x y shape valid k seen taken [] same known chosen = tt
new_ids x y shape valid k seen taken (f ∷ elements) same known (c, chosen) = (
  is_new x y shape valid k (omega arith) seen taken known (is_parent shape.steps k) f c,
  new_ids x y shape valid (suc k) (cons_option (own_id f) seen) (taken_with (is_id_free (simples_in x y shape k)) f taken) elements (omega arith) (known_next x y shape k seen taken known (is_parent shape.steps k) f c) chosen,
)

-- all elements suit
all_suit : (x y : SelectorParts) (shape : ShapeParts) → ((k : ℕ) → k ≤ length shape.steps → HasPlainIds (simples_in x y shape k)) → AllByRecursion HaveNames x.chain → AllByRecursion HaveNames y.chain →
    (k : ℕ) (taken : List (List ℕ)) (elements : List FeatureParts) → k + length elements ≡ suc (length shape.steps) → AreChosenFrom x y shape k taken elements →
    EachFrom k (λ k f. SuitsSlot (is_parent shape.steps k) (simples_in x y shape k) f) elements
all_suit x y shape plain left right k taken [] same chosen = tt
all_suit x y shape plain left right k taken (f ∷ elements) same (c, chosen) = (
  chosen_suits (is_parent shape.steps k) (simples_in x y shape k) taken f
      (all_append (λ s. HasName s.test) (simples_at x.chain shape.left k) (simples_at y.chain shape.right k) (named_at x.chain shape.left k left) (named_at y.chain shape.right k right))
      (plain k (omega arith)) c,
  all_suit x y shape plain left right (suc k) (taken_with (is_id_free (simples_in x y shape k)) f taken) elements (omega arith) chosen,
)

pub elements_suit : (x y : SelectorParts) (shape : ShapeParts) (elements : List FeatureParts) → ValidShape x y shape → ((k : ℕ) → k ≤ length shape.steps → HasPlainIds (simples_in x y shape k)) → AllByRecursion HaveNames x.chain → AllByRecursion HaveNames y.chain →
    AreChosen x y shape elements → AreSlotElements x y shape elements
elements_suit x y shape elements valid plain left right chosen = record {
  count = chosen.count;
  each = all_suit x y shape plain left right 0 (ids_of_pair x y) elements (let e = chosen.count in omega arith) chosen.each;
  ids = new_ids x y shape valid 0 [] (ids_of_pair x y) elements (let e = chosen.count in omega arith)
      (record { origins = λ v in'. absurd (Contains-nil v in'); asked = λ v in'. in' }) chosen.each;
}
