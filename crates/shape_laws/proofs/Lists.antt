-- Lists: their last elements, what a `filter_map` gives, and lists that go with others.
use Rattle.std.proofs.Common.{Bool, List, None, Option, Some, [], ap, arith, false, inl, inr, length, refl, subst, suc, sym, true, zero, ℕ, ◌++◌, ◌<◌, ◌∙◌, ◌∷◌, ◌≡◌, ◌≢◌, ◌≤◌}
use Rattle.std.proofs.lemmas.Bool.{eqb-true}
use Rattle.std.specs.List.{AllByRecursion, AllZip, cons_option, filter_map}
use Rattle.std.specs.Prelude.{Contains, if◌then◌else◌, ◌==◌}
use Rattle.list_facts.proofs.Members.{Contains-cons_cases, Contains-here, Contains-nil, Contains-there}

-- a list is empty, or has a last element
pub data Snoc {A : Type 0} (xs : List A) : Type 0 where
  empty : xs ≡ [] → Snoc xs
  last : (front : List A) (x : A) → xs ≡ front ++ x ∷ [] → Snoc xs

-- which of the two holds
pub snoc : {A : Type 0} (xs : List A) → Snoc xs
snoc [] = empty refl
snoc (x ∷ xs) = more (snoc xs)
  where
    more : Snoc xs → Snoc (x ∷ xs)
    more (empty e) = last [] x (ap (λ ys. x ∷ ys) e)
    more (last front y e) = last (x ∷ front) y (ap (λ ys. x ∷ ys) e)

-- a list with a last element is not empty
pub push_some : {A : Type 0} (xs : List A) (x : A) → xs ++ x ∷ [] ≡ [] → ⊥
push_some [] x e = cc
push_some (y ∷ ys) x e = cc

-- both parts of an empty list are empty
pub append_some : {A : Type 0} (xs ys : List A) → xs ++ ys ≡ [] → ys ≡ []
append_some [] ys e = e
append_some (x ∷ xs) ys e = absurd (let n : x ∷ (xs ++ ys) ≡ [] = e in cc)

-- what follows from each pair holds of each second one
pub zip_all : {X Y : Type 0} (Q : X → Y → Type 0) (P : Y → Type 0) → ((x : X) (y : Y) → Q x y → P y) → (xs : List X) (ys : List Y) → AllZip Q xs ys → AllByRecursion P ys
zip_all Q P each [] [] h = tt
zip_all Q P each [] (p ∷ ps) h = absurd h
zip_all Q P each (x ∷ xs) [] h = absurd h
zip_all Q P each (x ∷ xs) (p ∷ ps) (here, h) = (each x p here, zip_all Q P each xs ps h)

-- and of each pair
pub zip_weaker : {X Y : Type 0} (Q R : X → Y → Type 0) → ((x : X) (y : Y) → Q x y → R x y) → (xs : List X) (ys : List Y) → AllZip Q xs ys → AllZip R xs ys
zip_weaker Q R each [] [] h = tt
zip_weaker Q R each [] (p ∷ ps) h = absurd h
zip_weaker Q R each (x ∷ xs) [] h = absurd h
zip_weaker Q R each (x ∷ xs) (p ∷ ps) (here, h) = (each x p here, zip_weaker Q R each xs ps h)

-- lists that go together are equally long
pub zip_length : {X Y : Type 0} (Q : X → Y → Type 0) (xs : List X) (ys : List Y) → AllZip Q xs ys → length ys ≡ length xs
zip_length Q [] [] h = refl
zip_length Q [] (p ∷ ps) h = absurd h
zip_length Q (x ∷ xs) [] h = absurd h
zip_length Q (x ∷ xs) (p ∷ ps) (here, h) = ap suc (zip_length Q xs ps h)

-- a member of what a list gives comes from one of its members
pub from_given : {X Y : Type 0} (f : X → Option Y) (xs : List X) (y : Y) → Contains (filter_map f xs) y → (x : X) × Contains xs x × (f x ≡ Some y)
from_given f [] y h = absurd (Contains-nil y h)
from_given f (x ∷ xs) y h = by (f x) refl h (from_given f xs y)
  where
    further : (x' : _) × Contains xs x' × (f x' ≡ Some y) → (x' : _) × Contains (x ∷ xs) x' × (f x' ≡ Some y)
    further (x', in', e) = (x', Contains-there x xs x' in', e)

    by : (o : Option _) → f x ≡ o → Contains (cons_option o (filter_map f xs)) y → (Contains (filter_map f xs) y → (x' : _) × Contains xs x' × (f x' ≡ Some y)) → (x' : _) × Contains (x ∷ xs) x' × (f x' ≡ Some y)
    by None e h rest = further (rest h)
    by (Some z) e h rest = elim (Contains-cons_cases z (filter_map f xs) y h) [
      | inl same ↦ (x, Contains-here x xs, e ∙ ap Some same)
      | inr more ↦ further (rest more)
    ]

-- what a member gives is in what the list gives
pub given : {X Y : Type 0} (f : X → Option Y) (xs : List X) (x : X) (y : Y) → Contains xs x → f x ≡ Some y → Contains (filter_map f xs) y
given f [] x y h e = absurd (Contains-nil x h)
given f (z ∷ zs) x y h e = elim (Contains-cons_cases z zs x h) [
  | inl is ↦ subst (λ o. Contains (cons_option o (filter_map f zs)) y) (sym (ap f is ∙ e)) (Contains-here y (filter_map f zs))
  | inr more ↦ by (f z) (given f zs x y more e)
]
  where
    by : (o : Option _) → Contains (filter_map f zs) y → Contains (cons_option o (filter_map f zs)) y
    by None h = h
    by (Some w) h = Contains-there w (filter_map f zs) y h

-- lists with all numbers below n have n members or more
abbrev pub drop_one : ℕ → List ℕ → List ℕ
drop_one v [] = []
drop_one v (x ∷ xs) = if x == v then xs else x ∷ drop_one v xs

-- it is one shorter
length_drop_one : (v : ℕ) (xs : List ℕ) → Contains xs v → length xs ≡ suc (length (drop_one v xs))
length_drop_one v [] h = absurd (Contains-nil v h)
length_drop_one v (x ∷ xs) h = by (x == v) refl (λ h. length_drop_one v xs h)
  where
    by : (b : Bool) → (x == v) ≡ b → (Contains xs v → length xs ≡ suc (length (drop_one v xs))) → suc (length xs) ≡ suc (length (if b then xs else x ∷ drop_one v xs))
    by true e rest = refl
    by false e rest = elim (Contains-cons_cases x xs v h) [ inl is ↦ absurd (grind arith) | inr more ↦ ap suc (rest more) ]

-- it keeps the other numbers
kept : (v k : ℕ) (xs : List ℕ) → Contains xs k → k ≢ v → Contains (drop_one v xs) k
kept v k [] h n = absurd (Contains-nil k h)
kept v k (x ∷ xs) h n = by (x == v) refl (λ h. kept v k xs h n)
  where
    by : (b : Bool) → (x == v) ≡ b → (Contains xs k → Contains (drop_one v xs) k) → Contains (if b then xs else x ∷ drop_one v xs) k
    by true e rest = elim (Contains-cons_cases x xs k h) [ inl is ↦ absurd (n (sym is ∙ eqb-true x v e)) | inr more ↦ more ]
    by false e rest = elim (Contains-cons_cases x xs k h) [ inl is ↦ subst (λ (m : ℕ). Contains (x ∷ drop_one v xs) m) is (Contains-here x (drop_one v xs)) | inr more ↦ Contains-there x (drop_one v xs) k (rest more) ]

-- a list that has all numbers below n has at least n members
pub enough : (n : ℕ) (xs : List ℕ) → ((k : ℕ) → k < n → Contains xs k) → n ≤ length xs
enough zero xs h = omega arith
enough (suc n) xs h =
    let l = length_drop_one n xs (h n (omega arith)) in
    let ih = enough n (drop_one n xs) (λ k less. kept n k xs (h k (omega arith)) (λ e. let w : k ≡ n = e in omega arith)) in
    omega arith
