-- What a compound asks holds of the element in its slot.
use Rattle.std.proofs.Common.{Bool, List, [], ap, false, get_or, inl, inr, not, refl, subst, sym, true, ℕ, ◌&&◌, ◌++◌, ◌||◌, ◌↔◌, ◌∙◌, ◌∷◌, ◌≡◌, ◌≢◌}
use Rattle.std.proofs.lemmas.Bool.{false≢true}
use Rattle.std.specs.Bool.{MatchBool}
use Rattle.std.specs.List.{All, list_any}
use Rattle.std.specs.Prelude.{Contains}
use Rattle.std.proofs.lemmas.List.Elements.{Contains-get_or}
use Rattle.css_model.specs.Documents.Document.{Document, Element, ElementAt, none}
use Rattle.css_model.specs.Documents.FeatureParts.{FeatureParts}
use Rattle.css_model.specs.Documents.Features.{HoldsOf, element_of, is_structural}
use Rattle.css_model.specs.Documents.Matching.{SimpleHolds, TestHolds, count_siblings}
use Rattle.css_model.specs.declared.selector.Simple.{Simple}
use Rattle.css_model.specs.declared.selector.Test.{Test}
use Rattle.css_model.specs.declared.selector.Test.TheVariants.{Any, Attr, Empty, Id, Kind, Nth, NthLast, OnlyChild, Root, State}
use Rattle.shape_laws.proofs.Document.Standing.{SlotAt}
use Rattle.shape_laws.specs.Document.SlotElements.{SuitsSlot, asks_for_content}
use Rattle.list_facts.proofs.Members.{Contains-cons_cases, Contains-here, Contains-nil, Contains-there}
use Rattle.shape_laws.proofs.Elements.Features.{alone_same}
use Rattle.shape_laws.proofs.Elements.Positions.{child_position, root_position}
use Rattle.slot_plan.specs.Positions.{PositionFits, PositionHolds, is_position}
use Rattle.slot_plan.specs.ValidShape.{EmptyFits, is_empty_test}

-- a member that passes is found
pub any_in : {X : Type 0} (p : X → Bool) (xs : List X) (x : X) → Contains xs x → p x ≡ true → list_any p xs ≡ true
any_in p [] x h e = absurd (Contains-nil x h)
any_in p (y ∷ ys) x h e = elim (Contains-cons_cases y ys x h) [
  | inl same ↦ ap (λ b. b || list_any p ys) (ap p same ∙ e)
  | inr more ↦ or_true (p y) (list_any p ys) (any_in p ys x more e)
]
  where
    or_true : (a b : Bool) → b ≡ true → (a || b) ≡ true
    or_true true b e = refl
    or_true false b e = e

-- where no member passes, none is found
any_none : {X : Type 0} (p : X → Bool) (xs : List X) → ((x : X) → Contains xs x → p x ≡ false) → list_any p xs ≡ false
any_none p [] h = refl
any_none p (y ∷ ys) h =
    ap (λ b. b || list_any p ys) (h y (Contains-here y ys)) ∙ any_none p ys (λ x in'. h x (Contains-there y ys x in'))

-- where a slot stands: at the root, or so many siblings from its first one
pub record StandsAt (path : List ℕ) (is_root : Bool) (b : ℕ) : Type 0 where
  pub root : is_root ≡ true → path ≡ []
  pub child : is_root ≡ false → (parent : List ℕ) × (path ≡ parent ++ b ∷ [])

-- a test on positions
position : (doc : Document) (path : List ℕ) (here : ElementAt) (is_root : Bool) (b a : ℕ) (t : Test) → StandsAt path is_root b → count_siblings here.later ≡ a → is_position t ≡ true →
    TestHolds doc path here t ↔ PositionHolds is_root doc.root_is_child b a t
position doc path here true b a t at later test = subst (λ p. TestHolds doc p here t ↔ PositionHolds true doc.root_is_child b a t) (sym (at.root refl)) (root_position doc here b a t test)
position doc path here false b a t at later test =
    let c = at.child refl in
    subst (λ p. TestHolds doc p here t ↔ PositionHolds false doc.root_is_child b a t) (sym c.1)
    (subst (λ (n : ℕ). TestHolds doc (c.0 ++ b ∷ []) here t ↔ PositionHolds false doc.root_is_child b n t) later (child_position doc c.0 b here t test))

-- what is asked, from facts that say the same
asked_as : (T P : Type 0) (negated : Bool) → T ↔ P → MatchBool negated (P → ⊥) P → MatchBool negated (T → ⊥) T
asked_as T P true same no' = λ t. no' (same.0 t)
asked_as T P false same yes' = same.1 yes'

-- `:empty`
empty_is : (doc : Document) (path : List ℕ) (here : ElementAt) (t : Test) → is_empty_test t ≡ true → TestHolds doc path here t ≡ ((here.children ≡ none) × (here.element.text ≡ false))
empty_is doc path here Empty e = refl
empty_is doc path here Any bad = absurd (false≢true bad)
empty_is doc path here (Kind name) bad = absurd (false≢true bad)
empty_is doc path here (Id name) bad = absurd (false≢true bad)
empty_is doc path here (Attr test) bad = absurd (false≢true bad)
empty_is doc path here (Nth x) bad = absurd (false≢true bad)
empty_is doc path here (NthLast x) bad = absurd (false≢true bad)
empty_is doc path here OnlyChild bad = absurd (false≢true bad)
empty_is doc path here Root bad = absurd (false≢true bad)
empty_is doc path here (State flag) bad = absurd (false≢true bad)

-- other tests are of the element alone
is_alone : (t : Test) → is_position t ≡ false → is_empty_test t ≡ false → is_structural t ≡ false
is_alone Any p e = refl
is_alone (Kind name) p e = refl
is_alone (Id name) p e = refl
is_alone (Attr test) p e = refl
is_alone (State flag) p e = refl
is_alone (Nth x) p e = absurd (false≢true (sym p))
is_alone (NthLast x) p e = absurd (false≢true (sym p))
is_alone OnlyChild p e = absurd (false≢true (sym p))
is_alone Root p e = absurd (false≢true (sym p))
is_alone Empty p e = absurd (false≢true (sym e))

-- `:empty`, as it is asked of a slot
empty_as_asked : (here : ElementAt) (parent : Bool) (simples : List Simple) (s : Simple) → EmptyFits parent simples → Contains simples s → is_empty_test s.test ≡ true →
    here.element.text ≡ (not parent && asks_for_content simples) → (parent ≡ true → here.children ≢ none) → (parent ≡ false → here.children ≡ none) →
    (b : Bool) → s.negated ≡ b → MatchBool b (((here.children ≡ none) × (here.element.text ≡ false)) → ⊥) ((here.children ≡ none) × (here.element.text ≡ false))
empty_as_asked here parent simples s fits in' test text some nothing false e =
    let asked = fits s in' test e in
    (nothing asked.0, text ∙ ap (λ p. not p && asks_for_content simples) asked.0 ∙ any_none (λ s. s.negated && is_empty_test s.test) simples not_asked)
  where
    not_asked : (t : Simple) → Contains simples t → (t.negated && is_empty_test t.test) ≡ false
    not_asked t in-t = by t.negated (is_empty_test t.test) refl refl
      where
        by : (n m : Bool) → t.negated ≡ n → is_empty_test t.test ≡ m → (n && m) ≡ false
        by false m n-is m-is = refl
        by true false n-is m-is = refl
        by true true n-is m-is = absurd (false≢true (sym ((fits s in' test e).1 t in-t m-is) ∙ n-is))
empty_as_asked here true simples s fits in' test text some nothing true e = λ holds. some refl holds.0
empty_as_asked here false simples s fits in' test text some nothing true e = λ holds.
    false≢true (sym holds.1 ∙ text ∙ any_in (λ s. s.negated && is_empty_test s.test) simples s in' (ap (λ b. b && is_empty_test s.test) e ∙ test))

-- all that is asked of a slot
pub all_hold : (doc : Document) (path : List ℕ) (f : FeatureParts) (a b : ℕ) (is_root parent : Bool) (simples : List Simple) (slot : SlotAt doc path f a parent) → StandsAt path is_root b → SuitsSlot parent simples f → EmptyFits parent simples →
    All (PositionFits is_root doc.root_is_child b a) simples → All (λ s. SimpleHolds doc path slot.here s) simples
all_hold doc path f a b is_root parent simples slot at suits empties positions k d h =
    by (is_position s.test) (is_empty_test s.test) refl refl
  where
    s : Simple
    s = get_or simples k d

    in' : Contains simples s
    in' = Contains-get_or simples k d h

    text : slot.here.element.text ≡ (not parent && asks_for_content simples)
    text = ap (λ (e : Element). e.text) slot.element ∙ suits.text

    alone : MatchBool (is_structural s.test) (Unit {0}) (MatchBool s.negated (HoldsOf (element_of f) s.test → ⊥) (HoldsOf (element_of f) s.test))
    alone = suits.suits k d h

    by : (p e : Bool) → is_position s.test ≡ p → is_empty_test s.test ≡ e → SimpleHolds doc path slot.here s
    by true e p-is e-is = asked_as (TestHolds doc path slot.here s.test) (PositionHolds is_root doc.root_is_child b a s.test) s.negated (position doc path slot.here is_root b a s.test at slot.later p-is) (positions k d h p-is)
    by false true p-is e-is =
        subst (λ T. MatchBool s.negated (T → ⊥) T) (sym (empty_is doc path slot.here s.test e-is)) (empty_as_asked slot.here parent simples s empties in' e-is text slot.some slot.nothing s.negated refl)
    by false false p-is e-is =
        subst (λ T. MatchBool s.negated (T → ⊥) T) (sym (alone_same doc path slot.here s.test (is_alone s.test p-is e-is) ∙ ap (λ e. HoldsOf e s.test) slot.element))
        (subst (λ b. MatchBool b (Unit {0}) (MatchBool s.negated (HoldsOf (element_of f) s.test → ⊥) (HoldsOf (element_of f) s.test))) (is_alone s.test p-is e-is) alone)
