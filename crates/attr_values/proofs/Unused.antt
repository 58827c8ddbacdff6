-- The least code point that stands in no value.
use Rattle.std.proofs.Common.{◌≡◌, ◌≢◌, ◌⊎◌, ℕ, zero, suc, ◌<◌, ◌≤◌, ◌+◌, ◌-◌, Bool, true, false, Option, Some, None, List, [], ◌∷◌, refl, sym, ap, inl, inr, ◌∙◌, arith, slice_index_or}
use Rattle.std.specs.Prelude.{◌==◌, nat_le, MatchOption}
use Rattle.std.specs.Char.{IsScalar}
use lib.Utf8.{scalar, scalar_cases}
use Rattle.std.specs.List.{All}
use Rattle.std.proofs.lemmas.List.Elements.{All-head, All-tail, All-nil, All-cons}
use Rattle.std.proofs.lemmas.Bool.{true≢false, false≢true, or_parts, or_from, ne_eqb, eqb-false}
use Rattle.std.proofs.lemmas.Bool.Decides.{leb_tells}
use Rattle.css_model.specs.declared.selector.AttrTest.{AttrTest}
use Rattle.attr_values.specs.Separators.{IsUnused, holds, is_used, HasUnused, IsFirstUnused, first_separator, AreMarks, AllMarkedBelow, IsFirstUnmarked}

free_of : (c : ℕ) (v : List ℕ) → holds c v ≡ false → All (λ d. d ≢ c) v
free_of c [] e = All-nil (λ d. d ≢ c)
free_of c (d ∷ v) e =
    let both = or_parts (d == c) (holds c v) e in
    All-cons (λ d. d ≢ c) d v (eqb-false d c both.0) (free_of c v both.1)

not_held : (c : ℕ) (v : List ℕ) → All (λ d. d ≢ c) v → holds c v ≡ false
not_held c [] h = refl
not_held c (d ∷ v) h = or_from (d == c) (holds c v) (ne_eqb d c (All-head (λ d. d ≢ c) d v h)) (not_held c v (All-tail (λ d. d ≢ c) d v h))

unused_is : (c : ℕ) (tests : List (AttrTest × Bool)) → is_used c tests ≡ false → IsUnused c tests
unused_is c [] e = All-nil (λ t. All (λ d. d ≢ c) t.0.value)
unused_is c (t ∷ tests) e =
    let both = or_parts (holds c t.0.value) (is_used c tests) e in
    All-cons (λ t. All (λ d. d ≢ c) t.0.value) t tests (free_of c t.0.value both.0) (unused_is c tests both.1)

not_used : (c : ℕ) (tests : List (AttrTest × Bool)) → IsUnused c tests → is_used c tests ≡ false
not_used c [] h = refl
not_used c (t ∷ tests) h =
    or_from (holds c t.0.value) (is_used c tests) (not_held c t.0.value (All-head (λ t. All (λ d. d ≢ c) t.0.value) t tests h)) (not_used c tests (All-tail (λ t. All (λ d. d ≢ c) t.0.value) t tests h))

-- a scalar value is below U+110000
small : (g : ℕ) → IsScalar g → g < 0x110000
small g is = cases (scalar_cases g is)
  where
    cases : (g < 55296) ⊎ ((57344 ≤ g) × (g < 1114112)) → g < 0x110000
    cases (inl h) = omega arith
    cases (inr h) = h.1

-- what a mark says of its code point
mark_tells : (marks : List Bool) (tests : List (AttrTest × Bool)) (c : ℕ) → AreMarks marks tests → first_separator ≤ c →
    slice_index_or marks (c - first_separator) false ≡ is_used c tests
mark_tells marks tests c are le =
    are (c - first_separator) ∙ ap (λ (n : ℕ). is_used n tests) (let e : first_separator + (c - first_separator) ≡ c = omega arith in e)

first_is : (f : ℕ) (marks : List Bool) (tests : List (AttrTest × Bool)) → AreMarks marks tests → IsFirstUnmarked f marks → IsFirstUnused f tests
first_is f marks tests are first =
    record { scalar = first.scalar; from_a = first.from_a; unused = unused_is f tests (sym (mark_tells marks tests f are first.from_a) ∙ first.unmarked); least = least }
  where
    least : (g : ℕ) → IsScalar g → first_separator ≤ g → IsUnused g tests → f ≤ g
    least g is le free = cases (leb_tells f g)
      where
        cases : ((nat_le f g ≡ true) × (f ≤ g)) ⊎ ((nat_le f g ≡ false) × (g < f)) → f ≤ g
        cases (inl t) = t.1
        cases (inr t) = absurd (true≢false (sym (first.least g is le t.1) ∙ mark_tells marks tests g are le ∙ not_used g tests free))

none_is : (marks : List Bool) (tests : List (AttrTest × Bool)) → AreMarks marks tests → AllMarkedBelow 0x110000 marks → HasUnused tests → ⊥
none_is marks tests are below has =
    true≢false (sym (below has.0 has.1 has.2 (small has.0 has.1)) ∙ mark_tells marks tests has.0 are has.2 ∙ not_used has.0 tests has.3)

-- Where some code point is unused, one is the first: the search from k on, of which n steps are left.
search_from : (tests : List (AttrTest × Bool)) (n k : ℕ) → ((g : ℕ) → IsScalar g → first_separator ≤ g → IsUnused g tests → k ≤ g) →
    (g : ℕ) → IsScalar g → first_separator ≤ g → IsUnused g tests → g < k + n → (f : ℕ) × IsFirstUnused f tests
search_from tests zero k below g is le free near = absurd (let low = below g is le free in let bad : ⊥ = omega arith in bad)
search_from tests (suc n) k below g is le free near = cases (scalar k) refl (leb_tells first_separator k) (is_used k tests) refl
    (λ above. search_from tests n (suc k) above g is le free (omega arith))
  where
    -- k is none of those that are looked for
    later : (((h : ℕ) → IsScalar h → first_separator ≤ h → IsUnused h tests → suc k ≤ h) → (f : ℕ) × IsFirstUnused f tests) →
        ((h : ℕ) → IsScalar h → first_separator ≤ h → IsUnused h tests → k ≢ h) → (f : ℕ) × IsFirstUnused f tests
    later go none = go (λ h is_h le_h free_h. let low = below h is_h le_h free_h in let other = none h is_h le_h free_h in omega arith)

    cases : (s : Bool) → scalar k ≡ s → ((nat_le first_separator k ≡ true) × (first_separator ≤ k)) ⊎ ((nat_le first_separator k ≡ false) × (k < first_separator)) →
        (u : Bool) → is_used k tests ≡ u → (((h : ℕ) → IsScalar h → first_separator ≤ h → IsUnused h tests → suc k ≤ h) → (f : ℕ) × IsFirstUnused f tests) →
        (f : ℕ) × IsFirstUnused f tests
    cases false not_one low u is_u go = later go (λ h is_h le_h free_h same. false≢true (sym not_one ∙ ap scalar same ∙ is_h))
    cases true is_k (inr low) u is_u go = later go (λ h is_h le_h free_h same. absurd (let small = low.1 in let bad : ⊥ = omega arith in bad))
    cases true is_k (inl high) true is_u go = later go (λ h is_h le_h free_h same. true≢false (sym is_u ∙ ap (λ (n : ℕ). is_used n tests) same ∙ not_used h tests free_h))
    cases true is_k (inl high) false is_u go = (k, record { scalar = is_k; from_a = high.1; unused = unused_is k tests is_u; least = below })

pub some_first : (tests : List (AttrTest × Bool)) → HasUnused tests → (f : ℕ) × IsFirstUnused f tests
some_first tests has = search_from tests (suc has.0) 0 (λ g is le free. omega arith) has.0 has.1 has.2 has.3 (omega arith)

-- what is found by the marks
pub unmarked_is : (marks : List Bool) (tests : List (AttrTest × Bool)) (r : Option ℕ) → AreMarks marks tests →
    MatchOption r (AllMarkedBelow 0x110000 marks) (λ f. IsFirstUnmarked f marks) →
    MatchOption r (HasUnused tests → ⊥) (λ f. IsFirstUnused f tests)
unmarked_is marks tests None are h = none_is marks tests are h
unmarked_is marks tests (Some f) are h = first_is f marks tests are h
