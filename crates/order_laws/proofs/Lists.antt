-- Members of mapped and joined lists, and of those in which a test finds one.
use Rattle.std.proofs.Common.{◌≡◌, ◌⊎◌, Bool, true, List, [], ◌∷◌, ◌++◌, map, sym, ap, ◌∙◌, subst, inl, inr}
use Rattle.std.specs.List.{Contains, flat_map, list_any}
use Rattle.std.proofs.lemmas.Bool.{false≢true, or_cases, or_left, or_right}
use Rattle.std.proofs.lemmas.List.Concat.{flat_map-cons}
use Rattle.std.proofs.lemmas.List.Elements.{Contains-append_left, Contains-append_right, Contains-append_cases}
use Rattle.list_facts.proofs.Members.{Contains-here, Contains-there, Contains-nil, Contains-cons_cases}

-- ---- A test that finds one

pub any_from : {X : Type 0} (f : X → Bool) (xs : List X) → list_any f xs ≡ true → (x : X) × Contains xs x × (f x ≡ true)
any_from f [] h = absurd (false≢true h)
any_from {X = X} f (x ∷ xs) h = which (or_cases (f x) (list_any f xs) h) (any_from f xs)
  where
    which : (f x ≡ true) ⊎ (list_any f xs ≡ true) → (list_any f xs ≡ true → (y : X) × Contains xs y × (f y ≡ true)) → (y : X) × Contains (x ∷ xs) y × (f y ≡ true)
    which (inl e) rest = (x, Contains-here x xs, e)
    which (inr e) rest = let w : (y : X) × Contains xs y × (f y ≡ true) = rest e in (w.0, Contains-there x xs w.0 w.1, w.2)

pub any_of : {X : Type 0} (f : X → Bool) (xs : List X) (x : X) → Contains xs x → f x ≡ true → list_any f xs ≡ true
any_of f [] x h e = absurd (Contains-nil x h)
any_of f (y ∷ xs) x h e = which (Contains-cons_cases y xs x h) (λ g. any_of f xs x g e)
  where
    which : (y ≡ x) ⊎ Contains xs x → (Contains xs x → list_any f xs ≡ true) → list_any f (y ∷ xs) ≡ true
    which (inl same) rest = or_left (f y) (list_any f xs) (ap f same ∙ e)
    which (inr g) rest = or_right (f y) (list_any f xs) (rest g)

-- ---- Mapped lists

pub map_has : {X Y : Type 0} (f : X → Y) (xs : List X) (x : X) → Contains xs x → Contains (map f xs) (f x)
map_has f [] x h = absurd (Contains-nil x h)
map_has f (y ∷ xs) x h = which (Contains-cons_cases y xs x h) (map_has f xs x)
  where
    which : (y ≡ x) ⊎ Contains xs x → (Contains xs x → Contains (map f xs) (f x)) → Contains (map f (y ∷ xs)) (f x)
    which (inl e) rest = subst (λ z. Contains (map f (y ∷ xs)) (f z)) e (Contains-here (f y) (map f xs))
    which (inr g) rest = Contains-there (f y) (map f xs) (f x) (rest g)

pub map_from : {X Y : Type 0} (f : X → Y) (xs : List X) (y : Y) → Contains (map f xs) y → (x : X) × Contains xs x × (f x ≡ y)
map_from f [] y h = absurd (Contains-nil y h)
map_from {X = X} f (x ∷ xs) y h = which (Contains-cons_cases (f x) (map f xs) y h) (map_from f xs y)
  where
    which : (f x ≡ y) ⊎ Contains (map f xs) y → (Contains (map f xs) y → (z : X) × Contains xs z × (f z ≡ y)) → (z : X) × Contains (x ∷ xs) z × (f z ≡ y)
    which (inl e) rest = (x, Contains-here x xs, e)
    which (inr g) rest = let w : (z : X) × Contains xs z × (f z ≡ y) = rest g in (w.0, Contains-there x xs w.0 w.1, w.2)

-- ---- Lists of which each element gives some

pub flat_map_has : {X Y : Type 0} (f : X → List Y) (xs : List X) (x : X) (y : Y) → Contains xs x → Contains (f x) y → Contains (flat_map f xs) y
flat_map_has f [] x y h g = absurd (Contains-nil x h)
flat_map_has f (z ∷ xs) x y h g = subst (λ ys. Contains ys y) (sym (flat_map-cons f z xs)) (which (Contains-cons_cases z xs x h) (λ k. flat_map_has f xs x y k g))
  where
    which : (z ≡ x) ⊎ Contains xs x → (Contains xs x → Contains (flat_map f xs) y) → Contains (f z ++ flat_map f xs) y
    which (inl e) rest = Contains-append_left (f z) (flat_map f xs) y (subst (λ w. Contains (f w) y) (sym e) g)
    which (inr k) rest = Contains-append_right (f z) (flat_map f xs) y (rest k)

pub flat_map_from : {X Y : Type 0} (f : X → List Y) (xs : List X) (y : Y) → Contains (flat_map f xs) y → (x : X) × Contains xs x × Contains (f x) y
flat_map_from f [] y h = absurd (Contains-nil y h)
flat_map_from {X = X} f (x ∷ xs) y h = which (Contains-append_cases (f x) (flat_map f xs) y (subst (λ ys. Contains ys y) (flat_map-cons f x xs) h)) (flat_map_from f xs y)
  where
    which : Contains (f x) y ⊎ Contains (flat_map f xs) y → (Contains (flat_map f xs) y → (z : X) × Contains xs z × Contains (f z) y) → (z : X) × Contains (x ∷ xs) z × Contains (f z) y
    which (inl g) rest = (x, Contains-here x xs, g)
    which (inr g) rest = let w : (z : X) × Contains xs z × Contains (f z) y = rest g in (w.0, Contains-there x xs w.0 w.1, w.2)
