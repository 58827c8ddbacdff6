-- An element that passes still does with other text, and with another id where its id is free.
use Rattle.std.proofs.Common.{Bool, List, None, Option, Some, [], ap, cond, false, get_or, inl, inr, not, refl, subst, sym, true, ℕ, ◌&&◌, ◌||◌, ◌∙◌, ◌∷◌, ◌≡◌, ◌≢◌}
use Rattle.std.proofs.lemmas.Bool.{false≢true}
use Rattle.std.proofs.lemmas.List.Elements.{All-contains, Contains-get_or}
use Rattle.std.specs.Bool.{MatchBool}
use Rattle.std.specs.Cmp.Lexicographic.{bytes_decides}
use Rattle.std.specs.List.{list_any}
use Rattle.std.specs.Prelude.{Contains, IsSomeAnd, codes, if◌then◌else◌}
use Rattle.css_model.specs.Documents.Attribute.{Passes}
use Rattle.css_model.specs.Documents.Document.{Element, attribute_value, if_not_empty, value_among}
use Rattle.css_model.specs.Documents.Features.{HoldsOf, PassesSimple, Suits, is_structural}
use Rattle.css_model.specs.Lists.{same_text}
use Rattle.css_model.specs.declared.selector.AttrTest.{AttrTest}
use Rattle.css_model.specs.declared.selector.Op.{Op}
use Rattle.css_model.specs.declared.selector.Op.TheVariants.{Dash, Equal, Part, Prefix, Present, Suffix, Word}
use Rattle.css_model.specs.declared.selector.Simple.{Simple}
use Rattle.css_model.specs.declared.selector.Test.{Test}
use Rattle.css_model.specs.declared.selector.Test.TheVariants.{Any, Attr, Empty, Id, Kind, Nth, NthLast, OnlyChild, Root, State}
use Rattle.compound_fit.specs.Attributes.{attribute_test, attribute_tests, id_test, tests_of}
use Rattle.compound_fit.specs.Ids.{HasPlainIds, is_plain}
use Rattle.element_laws.specs.Ids.{asks_for_id, id_value, is_id_test, refused_id, refused_ids}
use Rattle.list_facts.proofs.Members.{Contains-cons_cases, Contains-here, Contains-nil, Contains-there}
use Rattle.shape_laws.proofs.ForCallers.{from_given, given}
use Rattle.slot_plan.specs.ValidShape.{asked_id}

-- ---- Other text

-- what is asked of an element says the same of one with the same type, attributes and flags
holds_same : (e e' : Element) → e.kind ≡ e'.kind → e.attributes ≡ e'.attributes → e.flags ≡ e'.flags → (t : Test) → HoldsOf e t ≡ HoldsOf e' t
holds_same e e' kind attributes flags Any = refl
holds_same e e' kind attributes flags (Kind name) = ap (λ k. k ≡ name) kind
holds_same e e' kind attributes flags (Id value) = ap (λ as'. value_among as' (codes "id") ≡ Some value) attributes
holds_same e e' kind attributes flags (Attr test) = ap (λ as'. IsSomeAnd (value_among as' test.name) (λ value. Passes test.op test.value value)) attributes
holds_same e e' kind attributes flags (State flag) = ap (λ fs. fs flag ≡ true) flags
holds_same e e' kind attributes flags (Nth x) = refl
holds_same e e' kind attributes flags (NthLast x) = refl
holds_same e e' kind attributes flags OnlyChild = refl
holds_same e e' kind attributes flags Root = refl
holds_same e e' kind attributes flags Empty = refl

pub suits_same : (simples : List Simple) (e e' : Element) → e.kind ≡ e'.kind → e.attributes ≡ e'.attributes → e.flags ≡ e'.flags → Suits simples e → Suits simples e'
suits_same simples e e' kind attributes flags suits k d h =
    subst (λ P. MatchBool (is_structural (get_or simples k d).test) (Unit {0}) (MatchBool (get_or simples k d).negated (P → ⊥) P)) (holds_same e e' kind attributes flags (get_or simples k d).test) (suits k d h)

-- ---- Another id

-- a member that a test finds
pub any_some : {X : Type 0} (p : X → Bool) (xs : List X) → list_any p xs ≡ true → (x : X) × Contains xs x × (p x ≡ true)
any_some p [] e = absurd (false≢true e)
any_some p (x ∷ xs) e = by (p x) refl e (any_some p xs)
  where
    by : (b : Bool) → p x ≡ b → (b || list_any p xs) ≡ true → (list_any p xs ≡ true → (y : _) × Contains xs y × (p y ≡ true)) → (y : _) × Contains (x ∷ xs) y × (p y ≡ true)
    by true is e rest = (x, Contains-here x xs, is)
    by false is e rest = let r = rest e in (r.0, Contains-there x xs r.0 r.1, r.2)

-- a simple selector that an element passes
passes : (simples : List Simple) (e : Element) (s : Simple) → Suits simples e → Contains simples s → PassesSimple e s
passes simples e s suits in' = All-contains (PassesSimple e) simples s suits in'

-- what a value that is there says
some_there : {A : Type 0} (P : A → Type 0) (o : Option A) → IsSomeAnd o P → (x : A) × (o ≡ Some x)
some_there P None h = absurd h
some_there P (Some x) h = (x, refl)

-- where an id is asked for, the element has one
pub has_id : (simples : List Simple) (e : Element) → Suits simples e → asks_for_id simples ≡ true → (w : List ℕ) × (attribute_value e (codes "id") ≡ Some w)
has_id simples e suits asks =
    let found = any_some (λ s. not s.negated && is_id_test s.test) simples asks in
    by found.0.test found.0.negated found.2 (passes simples e found.0 suits found.1)
  where
    by : (t : Test) (n : Bool) → (not n && is_id_test t) ≡ true → PassesSimple e (record { negated = n; test = t }) → (w : List ℕ) × (attribute_value e (codes "id") ≡ Some w)
    by t true is h = absurd (false≢true is)
    by (Id v) false is h = (v, h)
    by (Attr t) false is h =
        let there = some_there (λ value. Passes t.op t.value value) (attribute_value e t.name) h in
        (there.0, ap (attribute_value e) (sym ((bytes_decides t.name (codes "id")).0 is)) ∙ there.1)
    by Any false is h = absurd (false≢true is)
    by (Kind name) false is h = absurd (false≢true is)
    by (Nth x) false is h = absurd (false≢true is)
    by (NthLast x) false is h = absurd (false≢true is)
    by OnlyChild false is h = absurd (false≢true is)
    by Root false is h = absurd (false≢true is)
    by Empty false is h = absurd (false≢true is)
    by (State flag) false is h = absurd (false≢true is)

-- where an id is refused, the element has another
has_other : (simples : List Simple) (e : Element) (v : List ℕ) → Suits simples e → Contains (refused_ids simples) v → attribute_value e (codes "id") ≡ Some v → ⊥
has_other simples e v suits in' has =
    let found = from_given refused_id simples v in' in
    by found.0.test found.0.negated found.2 (passes simples e found.0 suits found.1)
  where
    not_there : {A : Type 0} → None ≡ Some v → A
    not_there h = absurd (let bad : ⊥ = cc in bad)

    by : (t : Test) (n : Bool) → (if n then id_value t else None) ≡ Some v → PassesSimple e (record { negated = n; test = t }) → ⊥
    by t false is h = not_there is
    by (Id w) true is h = h (has ∙ sym is)
    by (Attr t) true is h = of (same_text t.name (codes "id")) refl t.op is h
      where
        of : (b : Bool) → same_text t.name (codes "id") ≡ b → (op : Op) → (if b then (elim op [ Equal ↦ Some t.value | _ ↦ None ]) else None) ≡ Some v →
            (IsSomeAnd (attribute_value e t.name) (λ value. Passes op t.value value) → ⊥) → ⊥
        of false same op is h = not_there is
        of true same Equal is h =
            h (subst (λ o. IsSomeAnd o (λ value. value ≡ t.value)) (sym (ap (attribute_value e) ((bytes_decides t.name (codes "id")).0 same) ∙ has)) (let q : Some t.value ≡ Some v = is in let r : v ≡ t.value = cc in r))
        of true same Present is h = not_there is
        of true same Word is h = not_there is
        of true same Dash is h = not_there is
        of true same Prefix is h = not_there is
        of true same Suffix is h = not_there is
        of true same Part is h = not_there is
    by Any true is h = not_there is
    by (Kind name) true is h = not_there is
    by (Nth x) true is h = not_there is
    by (NthLast x) true is h = not_there is
    by OnlyChild true is h = not_there is
    by Root true is h = not_there is
    by Empty true is h = not_there is
    by (State flag) true is h = not_there is

-- a test of an attribute among those of simple selectors
test_in : (simples : List Simple) (s : Simple) (t : AttrTest) → Contains simples s → s.test ≡ Attr t → same_text t.name (codes "id") ≡ true → Contains (tests_of (codes "id") (attribute_tests simples)) (t, not s.negated)
test_in [] s t in' is same = absurd (Contains-nil s in')
test_in (x ∷ simples) s t in' is same = elim (Contains-cons_cases x simples s in') [
  | inl e ↦ subst (λ r. Contains (tests_of (codes "id") (attribute_test r (not x.negated) (attribute_tests simples))) (t, not s.negated)) (sym (ap (λ (y : Simple). y.test) e ∙ is))
      (subst (λ b. Contains (cond b ((t, not x.negated) ∷ tests_of (codes "id") (attribute_tests simples)) (tests_of (codes "id") (attribute_tests simples))) (t, not s.negated)) (sym same)
      (subst (λ (y : Simple). Contains ((t, not y.negated) ∷ tests_of (codes "id") (attribute_tests simples)) (t, not s.negated)) (sym e) (Contains-here (t, not s.negated) (tests_of (codes "id") (attribute_tests simples)))))
  | inr more ↦ behind x.test (test_in simples s t more is same)
]
  where
    rest : List (AttrTest × Bool)
    rest = attribute_tests simples

    if_kept : (b : Bool) (a : AttrTest × Bool) → Contains (tests_of (codes "id") rest) (t, not s.negated) → Contains (cond b (a ∷ tests_of (codes "id") rest) (tests_of (codes "id") rest)) (t, not s.negated)
    if_kept true a h = Contains-there a (tests_of (codes "id") rest) (t, not s.negated) h
    if_kept false a h = h

    behind : (u : Test) → Contains (tests_of (codes "id") rest) (t, not s.negated) → Contains (tests_of (codes "id") (attribute_test u (not x.negated) rest)) (t, not s.negated)
    behind (Attr a) h = if_kept (same_text a.name (codes "id")) (a, not x.negated) h
    behind (Id v) h = if_kept true (id_test v, not x.negated) h
    behind Any h = h
    behind (Kind name) h = h
    behind (Nth n) h = h
    behind (NthLast n) h = h
    behind OnlyChild h = h
    behind Root h = h
    behind Empty h = h
    behind (State flag) h = h

-- What is known of an element with another id.
pub record HasId (simples : List Simple) (e e' : Element) (w id : List ℕ) : Type 0 where
  pub suits : Suits simples e
  pub plain : HasPlainIds simples
  pub kind : e'.kind ≡ e.kind
  pub flags : e'.flags ≡ e.flags
  pub other : (name : List ℕ) → same_text name (codes "id") ≡ false → attribute_value e' name ≡ attribute_value e name
  pub was : attribute_value e (codes "id") ≡ Some w
  pub full : w ≢ []
  pub is : attribute_value e' (codes "id") ≡ Some id
  pub none : (s : Simple) → Contains simples s → asked_id s ≡ None
  pub free : (v : List ℕ) → Contains (refused_ids simples) v → id ≢ v

-- it still passes
passes_with : (simples : List Simple) (e e' : Element) (w id : List ℕ) → HasId simples e e' w id → (s : Simple) → Contains simples s → PassesSimple e' s
passes_with simples e e' w id h s in' = by s.test s.negated refl (h.none s in') (λ v is. h.free v (given refused_id simples s v in' is)) (passes simples e s h.suits in')
  where
    empty_of : (v : List ℕ) → if_not_empty (Some v) ≡ None → v ≡ []
    empty_of [] e = refl
    empty_of (c ∷ cs) e = absurd (let bad : ⊥ = cc in bad)

    by : (t : Test) (n : Bool) → s.test ≡ t → asked_id (record { negated = n; test = t }) ≡ None → ((v : List ℕ) → (if n then id_value t else None) ≡ Some v → id ≢ v) → PassesSimple e (record { negated = n; test = t }) → PassesSimple e' (record { negated = n; test = t })
    by Any n at none free p = p
    by (Kind name) n at none free p = subst (λ k. MatchBool n (k ≡ name → ⊥) (k ≡ name)) (sym h.kind) p
    by (State flag) n at none free p = subst (λ fs. MatchBool n (fs flag ≡ true → ⊥) (fs flag ≡ true)) (sym h.flags) p
    by (Nth x) n at none free p = tt
    by (NthLast x) n at none free p = tt
    by OnlyChild n at none free p = tt
    by Root n at none free p = tt
    by Empty n at none free p = tt
    by (Id v) false at none free p = absurd (h.full (let q : Some w ≡ Some v = sym h.was ∙ p in let r : w ≡ v = cc in r ∙ empty_of v none))
    by (Id v) true at none free p = λ is'. free v refl (let q : Some id ≡ Some v = sym h.is ∙ is' in let r : id ≡ v = cc in r)
    by (Attr t) n at none free p = of (same_text t.name (codes "id")) refl
      where
        of : (b : Bool) → same_text t.name (codes "id") ≡ b → MatchBool n (IsSomeAnd (attribute_value e' t.name) (λ value. Passes t.op t.value value) → ⊥) (IsSomeAnd (attribute_value e' t.name) (λ value. Passes t.op t.value value))
        of false same = subst (λ o. MatchBool n (IsSomeAnd o (λ value. Passes t.op t.value value) → ⊥) (IsSomeAnd o (λ value. Passes t.op t.value value))) (sym (h.other t.name same)) p
        of true same =
            subst (λ o. MatchBool n (IsSomeAnd o (λ value. Passes t.op t.value value) → ⊥) (IsSomeAnd o (λ value. Passes t.op t.value value))) (sym (ap (attribute_value e') name ∙ h.is))
            (op t.op n (All-contains (λ u. is_plain u.0.op ≡ true) (tests_of (codes "id") (attribute_tests simples)) (t, not s.negated) h.plain (test_in simples s t in' at same))
            (sym (ap (λ b. if n then None else (if b then (elim t.op [ Equal ↦ if_not_empty (Some t.value) | _ ↦ None ]) else None)) same) ∙ none)
            (λ v is. free v (ap (λ b. if n then (if b then (elim t.op [ Equal ↦ Some t.value | _ ↦ None ]) else None) else None) same ∙ is))
            (subst (λ o. MatchBool n (IsSomeAnd o (λ value. Passes t.op t.value value) → ⊥) (IsSomeAnd o (λ value. Passes t.op t.value value))) (ap (attribute_value e) name ∙ h.was) p))
          where
            name : t.name ≡ codes "id"
            name = (bytes_decides t.name (codes "id")).0 same

            op : (o : Op) (n : Bool) → is_plain o ≡ true → (if n then None else (elim o [ Equal ↦ if_not_empty (Some t.value) | _ ↦ None ])) ≡ None →
                ((v : List ℕ) → (if n then (elim o [ Equal ↦ Some t.value | _ ↦ None ]) else None) ≡ Some v → id ≢ v) →
                MatchBool n (Passes o t.value w → ⊥) (Passes o t.value w) → MatchBool n (Passes o t.value id → ⊥) (Passes o t.value id)
            op Present false plain none free p = tt
            op Present true plain none free p = p
            op Equal false plain none free p = absurd (h.full (p ∙ empty_of t.value none))
            op Equal true plain none free p = λ is'. free t.value refl is'
            op Word n plain none free p = absurd (false≢true plain)
            op Dash n plain none free p = absurd (false≢true plain)
            op Prefix n plain none free p = absurd (false≢true plain)
            op Suffix n plain none free p = absurd (false≢true plain)
            op Part n plain none free p = absurd (false≢true plain)

pub suits_with : (simples : List Simple) (e e' : Element) (w id : List ℕ) → HasId simples e e' w id → Suits simples e'
suits_with simples e e' w id h k d less = passes_with simples e e' w id h (get_or simples k d) (Contains-get_or simples k d less)

-- the refused empty id says that the element's is not empty
pub not_empty : (simples : List Simple) (e : Element) (w : List ℕ) → Suits simples e → Contains (refused_ids simples) [] → attribute_value e (codes "id") ≡ Some w → w ≢ []
not_empty simples e w suits in' was empty = has_other simples e [] suits in' (was ∙ ap Some empty)
