-- What a search in a list finds, and tests of all members of a list.
use Rattle.std.proofs.Common.{◌≡◌, ◌⊎◌, ℕ, zero, suc, Bool, true, false, List, [], ◌∷◌, Some, None, refl, sym, ap, ◌∙◌, subst, inl, inr, true≢false}
use Rattle.std.specs.Prelude.{slice_get, find}
use Rattle.std.specs.List.{Contains, list_all}
use Rattle.std.proofs.lemmas.Bool.{false≢true, cond_both, and_cases, and_from, and_parts}
use Rattle.cascade_laws.proofs.ForCallers.{some-same}
use Rattle.list_facts.proofs.Members.{Contains-here, Contains-there, Contains-nil, Contains-cons_cases}

-- ---- Members by their places

pub member : {X : Type 0} (xs : List X) (i : ℕ) (x : X) → slice_get xs i ≡ Some x → Contains xs x
member [] i x at = absurd (let e : None ≡ Some x = at in cc)
member (y ∷ xs) zero x at = subst (λ z. Contains (y ∷ xs) z) (some-same at) (Contains-here y xs)
member (y ∷ xs) (suc i) x at = Contains-there y xs x (member xs i x at)

-- ---- The first that passes

-- what is found is in the list and passes
pub found_in : {X : Type 0} (test : X → Bool) (xs : List X) (x : X) → find test xs ≡ Some x → Contains xs x × (test x ≡ true)
found_in test [] x e = absurd (let g : None ≡ Some x = e in cc)
found_in test (y ∷ ys) x e =
    cond_both (test y) (Some y) (find test ys) (λ o. o ≡ Some x → Contains (y ∷ ys) x × (test x ≡ true))
    (λ passes here. (subst (λ z. Contains (y ∷ ys) z) (some-same here) (Contains-here y ys), subst (λ z. test z ≡ true) (some-same here) passes))
    (λ fails there. (Contains-there y ys x (found_in test ys x there).0, (found_in test ys x there).1)) e

-- where one passes, one is found
pub finds : {X : Type 0} (test : X → Bool) (xs : List X) (x : X) → Contains xs x → test x ≡ true → (y : X) × (find test xs ≡ Some y)
finds test [] x h passes = absurd (Contains-nil x h)
finds {X = X} test (z ∷ zs) x h passes =
    cond_both (test z) (Some z) (find test zs) (λ o. (y : X) × (o ≡ Some y)) (λ _. (z, refl)) (λ fails. rest fails (Contains-cons_cases z zs x h) (λ g. finds test zs x g passes))
  where
    rest : test z ≡ false → (z ≡ x) ⊎ Contains zs x → (Contains zs x → (y : X) × (find test zs ≡ Some y)) → (y : X) × (find test zs ≡ Some y)
    rest fails (inl e) later = absurd (false≢true (sym fails ∙ ap test e ∙ passes))
    rest fails (inr g) later = later g

-- ---- Tests of all members

pub all_at : {X : Type 0} (test : X → Bool) (xs : List X) (x : X) → list_all test xs ≡ true → Contains xs x → test x ≡ true
all_at test [] x h g = absurd (Contains-nil x g)
all_at test (y ∷ ys) x h g = which (and_parts (test y) (list_all test ys) h) (Contains-cons_cases y ys x g) (λ k l. all_at test ys x k l)
  where
    which : (test y ≡ true) × (list_all test ys ≡ true) → (y ≡ x) ⊎ Contains ys x → (list_all test ys ≡ true → Contains ys x → test x ≡ true) → test x ≡ true
    which both (inl e) rest = subst (λ z. test z ≡ true) e both.0
    which both (inr l) rest = rest both.1 l

pub all_from : {X : Type 0} (test : X → Bool) (xs : List X) → ((x : X) → Contains xs x → test x ≡ true) → list_all test xs ≡ true
all_from test [] h = refl
all_from test (y ∷ ys) h = and_from (test y) (list_all test ys) (h y (Contains-here y ys)) (all_from test ys (λ x g. h x (Contains-there y ys x g)))

-- where not all pass, one does not
pub all_fails : {X : Type 0} (test : X → Bool) (xs : List X) → list_all test xs ≡ false → (x : X) × Contains xs x × (test x ≡ false)
all_fails test [] h = absurd (true≢false h)
all_fails {X = X} test (y ∷ ys) h = which (and_cases (test y) (list_all test ys) h) (λ g. all_fails test ys g)
  where
    which : (test y ≡ false) ⊎ (list_all test ys ≡ false) → (list_all test ys ≡ false → (x : X) × Contains ys x × (test x ≡ false)) → (x : X) × Contains (y ∷ ys) x × (test x ≡ false)
    which (inl e) rest = (y, Contains-here y ys, e)
    which (inr g) rest = let w : (x : X) × Contains ys x × (test x ≡ false) = rest g in (w.0, Contains-there y ys w.0 w.1, w.2)

-- where one fails, not all pass
pub all_not : {X : Type 0} (test : X → Bool) (xs : List X) (x : X) → Contains xs x → test x ≡ false → list_all test xs ≡ false
all_not test xs x g fails = which (list_all test xs) refl
  where
    which : (b : Bool) → list_all test xs ≡ b → list_all test xs ≡ false
    which true h = absurd (false≢true (sym fails ∙ all_at test xs x h g))
    which false h = h
