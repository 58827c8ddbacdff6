-- Attributes one name at a time.
use Rattle.std.proofs.Common.{◌≡◌, ℕ, Bool, true, false, cond, List, [], ◌∷◌, Option, Some, None, refl, subst}
use Rattle.std.proofs.lemmas.Bool.{true≢false}
use Rattle.std.proofs.lemmas.List.Elements.{All-head, All-tail, All-nil, All-cons}
use Rattle.std.specs.Prelude.{IsSomeAnd}
use Rattle.std.specs.Bool.{MatchBool}
use Rattle.std.specs.Cmp.Lexicographic.{bytes_decides}
use Rattle.std.specs.List.{All}
use Rattle.css_model.specs.declared.selector.AttrTest.{AttrTest}
use Rattle.css_model.specs.Documents.Attribute.{Passes}
use Rattle.css_model.specs.Documents.Document.{Element, attribute_value}
use Rattle.css_model.specs.Lists.{same_text}
use Rattle.attr_values.specs.Asked.{PassesOne}
use Rattle.compound_fit.specs.Attributes.{AttributeFits, tests_of}

-- an attribute, or its absence, passes one test as it is asked
abbrev pub HoldsFor : Option (List ℕ) → AttrTest × Bool → Type 0
HoldsFor o t = MatchBool t.1 (IsSomeAnd o (λ value. Passes t.0.op t.0.value value)) (IsSomeAnd o (λ value. Passes t.0.op t.0.value value) → ⊥)

abbrev pub Holds : Element → AttrTest × Bool → Type 0
Holds e t = HoldsFor (attribute_value e t.0.name) t

pub empty_fits : (o : Option (List ℕ)) → AttributeFits o []
empty_fits None = All-nil (λ t. t.1 ≡ false)
empty_fits (Some v) = All-nil (PassesOne v)

-- one more test of the attribute
fits_cons : (o : Option (List ℕ)) (t : AttrTest) (w : Bool) (rest : List (AttrTest × Bool)) → HoldsFor o (t, w) → AttributeFits o rest → AttributeFits o ((t, w) ∷ rest)
fits_cons None t true rest h fits = absurd h
fits_cons None t false rest h fits = All-cons (λ t. t.1 ≡ false) (t, false) rest refl fits
fits_cons (Some v) t w rest h fits = All-cons (PassesOne v) (t, w) rest h fits

fits_first : (o : Option (List ℕ)) (t : AttrTest) (w : Bool) (rest : List (AttrTest × Bool)) → AttributeFits o ((t, w) ∷ rest) → HoldsFor o (t, w) × AttributeFits o rest
fits_first None t true rest fits = absurd (true≢false (All-head (λ t. t.1 ≡ false) (t, true) rest fits))
fits_first None t false rest fits = (λ h. h, All-tail (λ t. t.1 ≡ false) (t, false) rest fits)
fits_first (Some v) t w rest fits = (All-head (PassesOne v) (t, w) rest fits, All-tail (PassesOne v) (t, w) rest fits)

pub all_fit : (e : Element) (tests : List (AttrTest × Bool)) → All (Holds e) tests → (name : List ℕ) → AttributeFits (attribute_value e name) (tests_of name tests)
all_fit e [] h name = empty_fits (attribute_value e name)
all_fit e (t ∷ tests) h name = cases (same_text t.0.name name) refl (all_fit e tests (All-tail (Holds e) t tests h) name)
  where
    cases : (b : Bool) → same_text t.0.name name ≡ b → AttributeFits (attribute_value e name) (tests_of name tests) →
        AttributeFits (attribute_value e name) (cond b (t ∷ tests_of name tests) (tests_of name tests))
    cases true is fits =
        fits_cons (attribute_value e name) t.0 t.1 (tests_of name tests)
        (subst (λ (n : List ℕ). HoldsFor (attribute_value e n) t) ((bytes_decides t.0.name name).0 is) (All-head (Holds e) t tests h)) fits
    cases false is fits = fits

pub all_hold : (e : Element) (tests : List (AttrTest × Bool)) → ((name : List ℕ) → AttributeFits (attribute_value e name) (tests_of name tests)) → All (Holds e) tests
all_hold e [] h = All-nil (Holds e)
all_hold e (t ∷ tests) h = All-cons (Holds e) t tests first (all_hold e tests (λ name. rest name (same_text t.0.name name) (h name)))
  where
    first : Holds e t
    first =
        (fits_first (attribute_value e t.0.name) t.0 t.1 (tests_of t.0.name tests)
        (subst (λ (b : Bool). AttributeFits (attribute_value e t.0.name) (cond b (t ∷ tests_of t.0.name tests) (tests_of t.0.name tests))) ((bytes_decides t.0.name t.0.name).1 refl) (h t.0.name))).0

    rest : (name : List ℕ) (b : Bool) → AttributeFits (attribute_value e name) (cond b (t ∷ tests_of name tests) (tests_of name tests)) → AttributeFits (attribute_value e name) (tests_of name tests)
    rest name true fits = (fits_first (attribute_value e name) t.0 t.1 (tests_of name tests) fits).1
    rest name false fits = fits
