-- Members of lists and of filtered lists.
use Rattle.std.proofs.Common.{◌≡◌, ◌⊎◌, ℕ, zero, suc, ◌<◌, Bool, true, false, List, [], ◌∷◌, length, get_or, refl, sym, ap, ◌∙◌, subst, inl, inr, arith}
use Rattle.std.specs.List.{All, Contains, filter}
use Rattle.std.proofs.lemmas.Bool.{cond_both, false≢true, cond-true, cond-false}
use Rattle.std.proofs.lemmas.List.Elements.{All-cons, All-nil, All-head, All-tail}

pub Contains-here : {X : Type 0} (x : X) (xs : List X) → Contains (x ∷ xs) x
Contains-here x xs = (0, omega arith, refl)

pub Contains-there : {X : Type 0} (y : X) (xs : List X) (x : X) → Contains xs x → Contains (y ∷ xs) x
Contains-there y xs x h = (suc h.0, omega arith, h.2)

pub Contains-nil : {X : Type 0} (x : X) → Contains [] x → ⊥
Contains-nil x h = absurd (omega arith)

pub Contains-cons_cases : {X : Type 0} (y : X) (xs : List X) (x : X) → Contains (y ∷ xs) x → (y ≡ x) ⊎ Contains xs x
Contains-cons_cases y xs x h = at h.0 h.1 h.2
  where
    at : (k : ℕ) → k < length (y ∷ xs) → get_or (y ∷ xs) k x ≡ x → (y ≡ x) ⊎ Contains xs x
    at zero l e = inl e
    at (suc k) l e = inr (k, omega arith, e)

-- what a filter keeps is in the list and passes
pub Contains-filter : {X : Type 0} (p : X → Bool) (xs : List X) (x : X) → Contains (filter p xs) x → Contains xs x × (p x ≡ true)
Contains-filter p [] x = λ h. absurd (Contains-nil x h)
Contains-filter p (y ∷ ys) x = cond_both (p y) (y ∷ filter p ys) (filter p ys) (λ zs. Contains zs x → Contains (y ∷ ys) x × (p x ≡ true))
    (λ passes h. kept passes (Contains-cons_cases y (filter p ys) x h) (Contains-filter p ys x))
    (λ fails h. (Contains-there y ys x (Contains-filter p ys x h).0, (Contains-filter p ys x h).1))
  where
    kept : p y ≡ true → (y ≡ x) ⊎ Contains (filter p ys) x → (Contains (filter p ys) x → Contains ys x × (p x ≡ true)) → Contains (y ∷ ys) x × (p x ≡ true)
    kept passes (inl e) rest = (subst (λ z. Contains (y ∷ ys) z) e (Contains-here y ys), subst (λ z. p z ≡ true) e passes)
    kept passes (inr h) rest = (Contains-there y ys x (rest h).0, (rest h).1)

-- what is in the list and passes is kept
pub Contains-filtered : {X : Type 0} (p : X → Bool) (xs : List X) (x : X) → Contains xs x → p x ≡ true → Contains (filter p xs) x
Contains-filtered p [] x h passes = absurd (Contains-nil x h)
Contains-filtered p (y ∷ ys) x h passes = from (Contains-cons_cases y ys x h) (λ g. Contains-filtered p ys x g passes)
  where
    from : (y ≡ x) ⊎ Contains ys x → (Contains ys x → Contains (filter p ys) x) → Contains (filter p (y ∷ ys)) x
    from (inl e) rest = subst (λ zs. Contains zs x) (sym (cond-true (p y) (y ∷ filter p ys) (filter p ys) (ap p e ∙ passes))) (subst (λ z. Contains (y ∷ filter p ys) z) e (Contains-here y (filter p ys)))
    from (inr g) rest = cond_both (p y) (y ∷ filter p ys) (filter p ys) (λ zs. Contains zs x) (λ _. Contains-there y (filter p ys) x (rest g)) (λ _. rest g)

-- a fact of all that a filter keeps, as a fact of all that pass
pub All-of_filter : {X : Type 0} (p : X → Bool) (Q : X → Type 0) (xs : List X) → All Q (filter p xs) → All (λ x. p x ≡ true → Q x) xs
All-of_filter p Q [] = λ h. All-nil (λ x. p x ≡ true → Q x)
All-of_filter p Q (y ∷ ys) = cond_both (p y) (y ∷ filter p ys) (filter p ys) (λ zs. All Q zs → All (λ x. p x ≡ true → Q x) (y ∷ ys))
    (λ passes h. All-cons (λ x. p x ≡ true → Q x) y ys (λ _. All-head Q y (filter p ys) h) (All-of_filter p Q ys (All-tail Q y (filter p ys) h)))
    (λ fails h. All-cons (λ x. p x ≡ true → Q x) y ys (λ passes. absurd (false≢true (sym fails ∙ passes))) (All-of_filter p Q ys h))

-- and back
pub All-on_filter : {X : Type 0} (p : X → Bool) (Q : X → Type 0) (xs : List X) → All (λ x. p x ≡ true → Q x) xs → All Q (filter p xs)
All-on_filter p Q [] h = All-nil Q
All-on_filter p Q (y ∷ ys) h =
    let rest : All Q (filter p ys) = All-on_filter p Q ys (All-tail (λ x. p x ≡ true → Q x) y ys h) in
    cond_both (p y) (y ∷ filter p ys) (filter p ys) (λ zs. All Q zs)
    (λ passes. All-cons Q y (filter p ys) (All-head (λ x. p x ≡ true → Q x) y ys h passes) rest)
    (λ fails. rest)

-- a filter keeps nothing exactly where nothing passes
pub filter-none : {X : Type 0} (p : X → Bool) (xs : List X) → All (λ x. p x ≡ false) xs → filter p xs ≡ []
filter-none p [] h = refl
filter-none p (y ∷ ys) h = cond-false (p y) (y ∷ filter p ys) (filter p ys) (All-head (λ x. p x ≡ false) y ys h) ∙ filter-none p ys (All-tail (λ x. p x ≡ false) y ys h)

pub none-filter : {X : Type 0} (p : X → Bool) (xs : List X) → filter p xs ≡ [] → All (λ x. p x ≡ false) xs
none-filter p [] = λ h. All-nil (λ x. p x ≡ false)
none-filter p (y ∷ ys) = cond_both (p y) (y ∷ filter p ys) (filter p ys) (λ zs. zs ≡ [] → All (λ x. p x ≡ false) (y ∷ ys))
    (λ passes h. absurd (let e : length (y ∷ filter p ys) ≡ 0 = ap length h in omega arith))
    (λ fails h. All-cons (λ x. p x ≡ false) y ys fails (none-filter p ys h))
