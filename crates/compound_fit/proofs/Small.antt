-- What is small can be fit.
use Rattle.std.proofs.Common.{◌≡◌, ◌⊎◌, ℕ, ◌+◌, ◌<◌, ◌≤◌, Bool, true, false, not, ◌&&◌, ◌||◌, cond, List, [], ◌∷◌, ◌++◌, Option, Some, None, length, refl, sym, ap, inl, inr, ◌∙◌, arith}
use Rattle.std.specs.Prelude.{nat_le, codes, MatchOption, is_some}
use Rattle.std.specs.List.{filter, flat_map}
use Rattle.std.proofs.lemmas.Bool.{and_parts, le-leb, leb-true}
use Rattle.std.proofs.lemmas.Bool.Decides.{leb_tells}
use Rattle.std.proofs.lemmas.List.{length-append}
use Rattle.std.proofs.lemmas.List.Elements.{All-nil, All-cons}
use Rattle.css_model.specs.declared.selector.AttrTest.{AttrTest}
use Rattle.css_model.specs.declared.selector.Simple.{Simple}
use Rattle.css_model.specs.declared.selector.Test.{Test}
use Rattle.css_model.specs.declared.selector.Test.TheVariants.{Any, Kind, Id, Attr, Nth, NthLast, OnlyChild, Root, Empty, State}
use Rattle.css_model.specs.Lists.{same_text}
use Rattle.compound_fit.specs.Attributes.{attribute_test, attribute_tests, tests_of}
use Rattle.compound_fit.specs.Conditions.{IsFittable, has_plain_tests, is_plain_id, is_small, most_values, value_size, values_size}
use Rattle.compound_fit.specs.Ids.{ArePlain, HasPlainIds, is_plain}
use Rattle.compound_fit.specs.Laws.{wide_of}
use Rattle.compound_fit.proofs.Left.{enough_left}

-- the size of the values of tests
size : List (AttrTest × Bool) → ℕ
size tests = length (flat_map (λ t. t.0.value) tests)

fewer : (p : ℕ → Bool) (cs : List ℕ) → length (filter p cs) ≤ length cs
fewer p [] = omega arith
fewer p (c ∷ cs) = cases (p c) (fewer p cs)
  where
    cases : (b : Bool) → length (filter p cs) ≤ length cs → length (cond b (c ∷ filter p cs) (filter p cs)) ≤ length (c ∷ cs)
    cases true le = omega arith
    cases false le = omega arith

fewer_tests : (name : List ℕ) (tests : List (AttrTest × Bool)) → size (tests_of name tests) ≤ size tests
unfolding size
fewer_tests name [] = omega arith
fewer_tests name (t ∷ tests) = cases (same_text t.0.name name) (fewer_tests name tests)
  where
    cases : (b : Bool) → length (flat_map (λ t. t.0.value) (tests_of name tests)) ≤ length (flat_map (λ t. t.0.value) tests) →
        length (flat_map (λ t. t.0.value) (cond b (t ∷ tests_of name tests) (tests_of name tests))) ≤ length (t.0.value ++ flat_map (λ t. t.0.value) tests)
    cases true le =
        let part = length-append t.0.value (flat_map (λ t. t.0.value) (tests_of name tests)) in
        let whole = length-append t.0.value (flat_map (λ t. t.0.value) tests) in
        omega arith
    cases false le = let whole = length-append t.0.value (flat_map (λ t. t.0.value) tests) in omega arith

one_size : (test : Test) (w : Bool) (rest : List (AttrTest × Bool)) → size (attribute_test test w rest) ≡ value_size test + size rest
unfolding size
one_size (Attr t) w rest = length-append t.value (flat_map (λ t. t.0.value) rest)
one_size (Id v) w rest = length-append v (flat_map (λ t. t.0.value) rest)
one_size Any w rest = omega arith
one_size (Kind name) w rest = omega arith
one_size (Nth x) w rest = omega arith
one_size (NthLast x) w rest = omega arith
one_size OnlyChild w rest = omega arith
one_size Root w rest = omega arith
one_size Empty w rest = omega arith
one_size (State flag) w rest = omega arith

all_size : (simples : List Simple) → size (attribute_tests simples) ≡ values_size simples
unfolding size
all_size [] = refl
all_size (s ∷ simples) = one_size s.test (not s.negated) (attribute_tests simples) ∙ ap (λ (n : ℕ). value_size s.test + n) (all_size simples)

plain_one : (test : Test) (w : Bool) (rest : List (AttrTest × Bool)) → is_plain_id test ≡ true → ArePlain (tests_of (codes "id") rest) → ArePlain (tests_of (codes "id") (attribute_test test w rest))
plain_one (Attr t) w rest plain all = cases (same_text t.name (codes "id")) plain
  where
    cases : (b : Bool) → (not b || is_plain t.op) ≡ true → ArePlain (cond b ((t, w) ∷ tests_of (codes "id") rest) (tests_of (codes "id") rest))
    cases true is = All-cons (λ t. is_plain t.0.op ≡ true) (t, w) (tests_of (codes "id") rest) is all
    cases false is = all
plain_one (Id v) w rest plain all = All-cons (λ t. is_plain t.0.op ≡ true) _ (tests_of (codes "id") rest) refl all
plain_one Any w rest plain all = all
plain_one (Kind name) w rest plain all = all
plain_one (Nth x) w rest plain all = all
plain_one (NthLast x) w rest plain all = all
plain_one OnlyChild w rest plain all = all
plain_one Root w rest plain all = all
plain_one Empty w rest plain all = all
plain_one (State flag) w rest plain all = all

pub plain_all : (simples : List Simple) → has_plain_tests simples ≡ true → HasPlainIds simples
plain_all [] plain = All-nil (λ t. is_plain t.0.op ≡ true)
plain_all (s ∷ simples) plain =
    let both = and_parts (is_plain_id s.test) (has_plain_tests simples) plain in
    plain_one s.test (not s.negated) (attribute_tests simples) both.0 (plain_all simples both.1)

pub small_is_fittable : (simples : List Simple) → is_small simples ≡ true → IsFittable simples
unfolding size
small_is_fittable simples small =
    let both = and_parts (has_plain_tests simples) (nat_le (values_size simples) most_values) small in
    record {
      ids = plain_all simples both.0;
      unused = λ name. enough_left (tests_of name (attribute_tests simples)) (few name (leb-true (values_size simples) most_values both.1));
    }
  where
    few : (name : List ℕ) → values_size simples ≤ most_values → length (wide_of (tests_of name (attribute_tests simples))) ≤ 0xFFFFF
    few name le =
        let wide = fewer (λ c. nat_le 0x10000 c) (flat_map (λ t. t.0.value) (tests_of name (attribute_tests simples))) in
        let named = fewer_tests name (attribute_tests simples) in
        let whole = all_size simples in
        omega arith

-- two lists together
pub plain_both : (x y : List Simple) → has_plain_tests (x ++ y) ≡ (has_plain_tests x && has_plain_tests y)
plain_both [] y = refl
plain_both (s ∷ x) y = ap (λ (b : Bool). is_plain_id s.test && b) (plain_both x y) ∙ assoc (is_plain_id s.test)
  where
    assoc : (a : Bool) → (a && (has_plain_tests x && has_plain_tests y)) ≡ ((a && has_plain_tests x) && has_plain_tests y)
    assoc true = refl
    assoc false = refl

pub size_both : (x y : List Simple) → values_size (x ++ y) ≡ values_size x + values_size y
size_both [] y = omega arith
size_both (s ∷ x) y = let rest = size_both x y in omega arith

-- what the rooms tell
not_within : (n most : ℕ) → most < n → false ≡ nat_le n most
not_within n most lt = cases (leb_tells n most)
  where
    cases : ((nat_le n most ≡ true) × (n ≤ most)) ⊎ ((nat_le n most ≡ false) × (most < n)) → false ≡ nat_le n most
    cases (inl t) = absurd (let le = t.1 in let bad : ⊥ = omega arith in bad)
    cases (inr t) = sym t.0

pub room_tells : (x y : List Simple) (room : ℕ) (r : Option ℕ) (s : Bool) → room + values_size x ≡ most_values → MatchOption r (room < values_size y) (λ left. left + values_size y ≡ room) →
    s ≡ is_some r → s ≡ nat_le (values_size (x ++ y)) most_values
room_tells x y room None s first second e = e ∙ not_within (values_size (x ++ y)) most_values (let both = size_both x y in omega arith)
room_tells x y room (Some left) s first second e = e ∙ sym (le-leb (values_size (x ++ y)) most_values (let both = size_both x y in let behind : left + values_size y ≡ room = second in omega arith))

pub no_room_tells : (x y : List Simple) → most_values < values_size x → false ≡ nat_le (values_size (x ++ y)) most_values
no_room_tells x y lt = not_within (values_size (x ++ y)) most_values (let both = size_both x y in omega arith)
