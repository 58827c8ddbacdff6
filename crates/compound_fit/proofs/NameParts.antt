-- The names of tests, and the tests that have a name.
use Rattle.std.proofs.Common.{◌≡◌, ◌∙◌, ℕ, Bool, true, false, cond, List, [], ◌∷◌, ap, refl, sym, subst}
use Rattle.std.proofs.lemmas.Bool.{and_parts}
use Rattle.std.proofs.lemmas.List.Elements.{All-nil, All-cons, All-weaker}
use Rattle.std.proofs.lemmas.List.Kept.{Contains-dedup, IsStrictlySortedBy-dedup}
use Rattle.std.proofs.lemmas.List.Sorted.{Contains-permutation}
use Rattle.std.specs.Prelude.{nat_eq}
use Rattle.std.specs.Cmp.Lexicographic.{pointwise, slice_cmp, bytes_decides, nat_list_cmp_total, nat_list_eq_equiv, texts_ties}
use Rattle.std.specs.Ordering.{nat_cmp}
use Rattle.std.specs.List.{All, Contains, dedup, filter, list_all}
use Rattle.std.specs.List.Sorted.{IsPermutation, IsSorted, IsStrictlySortedBy}
use Rattle.css_model.specs.declared.selector.AttrTest.{AttrTest}
use Rattle.css_model.specs.Lists.{same_text}
use Rattle.list_facts.proofs.Members.{Contains-here, Contains-there, filter-none}
use Rattle.compound_fit.specs.Attributes.{AreNames, names_of, tests_of}
use Rattle.compound_fit.specs.FreeNames.{is_among}
use Rattle.compound_fit.proofs.Members.{contained_differs, other_text}

all_named : (tests : List (AttrTest × Bool)) → All (λ t. Contains (names_of tests) t.0.name) tests
all_named [] = All-nil (λ t. Contains [] t.0.name)
all_named (t ∷ tests) =
    All-cons (λ u. Contains (names_of (t ∷ tests)) u.0.name) t tests (Contains-here t.0.name (names_of tests))
    (All-weaker (λ u. Contains (names_of tests) u.0.name) (λ u. Contains (names_of (t ∷ tests)) u.0.name) (λ u has. Contains-there t.0.name (names_of tests) u.0.name has) tests (all_named tests))

pub unnamed : (names : List (List ℕ)) (tests : List (AttrTest × Bool)) (name : List ℕ) → AreNames names tests → is_among names name ≡ false → tests_of name tests ≡ []
unnamed names tests name are none =
    filter-none (λ t. same_text t.0.name name) tests
    (All-weaker (λ t. Contains names t.0.name) (λ t. same_text t.0.name name ≡ false) (λ t has. other_text t.0.name name (contained_differs names name t.0.name none has)) tests are.all)

-- after a sort, and without repeats
pub names_are : (tests : List (AttrTest × Bool)) (all sorted names : List (List ℕ)) → all ≡ names_of tests → IsPermutation all sorted →
    IsSorted (slice_cmp nat_cmp) sorted → names ≡ dedup (pointwise nat_eq) sorted → AreNames names tests
names_are tests all sorted names is moved ascend kept = record {
  ascending = subst (IsStrictlySortedBy (slice_cmp nat_cmp)) (sym kept) (IsStrictlySortedBy-dedup nat_list_cmp_total texts_ties sorted ascend);
  all =
      subst (λ (xs : List (List ℕ)). All (λ t. Contains xs t.0.name) tests) (sym kept)
      (All-weaker (λ t. Contains (names_of tests) t.0.name) (λ t. Contains (dedup (pointwise nat_eq) sorted) t.0.name)
      (λ t has. Contains-dedup nat_list_eq_equiv (λ x y e. (bytes_decides x y).0 e) sorted t.0.name
      (Contains-permutation all sorted t.0.name moved (subst (λ (xs : List (List ℕ)). Contains xs t.0.name) (sym is) has))) tests (all_named tests));
}

-- tests that have one name
filter_all : {X : Type 0} (p : X → Bool) (xs : List X) → list_all p xs ≡ true → filter p xs ≡ xs
filter_all p [] all = refl
filter_all {X} p (x ∷ xs) all =
    let both = and_parts (p x) (list_all p xs) all in
    ap (λ (b : Bool). cond b (x ∷ filter p xs) (filter p xs)) both.0 ∙ ap (λ (t : List X). x ∷ t) (filter_all p xs both.1)

pub tests_are_of : (name : List ℕ) (tests : List (AttrTest × Bool)) → list_all (λ t. same_text t.0.name name) tests ≡ true → tests ≡ tests_of name tests
tests_are_of name tests all = sym (filter_all (λ t. same_text t.0.name name) tests all)

one_named : (name : List ℕ) (tests : List (AttrTest × Bool)) → list_all (λ t. same_text t.0.name name) tests ≡ true → All (λ t. Contains (name ∷ []) t.0.name) tests
one_named name [] all = All-nil (λ t. Contains (name ∷ []) t.0.name)
one_named name (t ∷ tests) all =
    let both = and_parts (same_text t.0.name name) (list_all (λ t. same_text t.0.name name) tests) all in
    All-cons (λ t. Contains (name ∷ []) t.0.name) t tests (subst (Contains (name ∷ [])) (sym ((bytes_decides t.0.name name).0 both.0)) (Contains-here name []))
    (one_named name tests both.1)

pub name_is : (name : List ℕ) (tests : List (AttrTest × Bool)) → list_all (λ t. same_text t.0.name name) tests ≡ true → AreNames (name ∷ []) tests
unfolding IsStrictlySortedBy
name_is name tests all = record { ascending = (tt, tt); all = one_named name tests all }
