-- The weights of parts of lists.
use Rattle.std.proofs.Common.{◌≡◌, ℕ, ◌+◌, ◌≤◌, Bool, true, false, not, cond, List, [], ◌∷◌, ◌++◌, length, arith}
use Rattle.std.specs.List.{filter}
use Rattle.std.proofs.lemmas.Bool.{cond_both}
use Rattle.step_laws.specs.Sizes.{weight}

pub weight-append : {A : Type 0} (text : A → List ℕ) (xs ys : List A) → weight text (xs ++ ys) ≡ weight text xs + weight text ys
weight-append text [] ys = let e : weight text ys ≡ 0 + weight text ys = omega arith in e
weight-append text (x ∷ xs) ys = let ih : weight text (xs ++ ys) ≡ weight text xs + weight text ys = weight-append text xs ys in
    let e : length (text x) + 1 + weight text (xs ++ ys) ≡ length (text x) + 1 + weight text xs + weight text ys = omega (arith, ih) in e

-- no part weighs more than the whole
pub weight-filter : {A : Type 0} (text : A → List ℕ) (p : A → Bool) (xs : List A) → weight text (filter p xs) ≤ weight text xs
weight-filter text p [] = omega arith
weight-filter text p (x ∷ xs) = let ih : weight text (filter p xs) ≤ weight text xs = weight-filter text p xs in
    cond_both (p x) (x ∷ filter p xs) (filter p xs) (λ ys. weight text ys ≤ length (text x) + 1 + weight text xs)
    (λ kept. let e : length (text x) + 1 + weight text (filter p xs) ≤ length (text x) + 1 + weight text xs = omega (arith, ih) in e)
    (λ gone. omega (arith, ih))

-- what passes a test and what does not weigh as much as the whole
pub weight-parted : {A : Type 0} (text : A → List ℕ) (p : A → Bool) (xs : List A) → weight text (filter p xs) + weight text (filter (λ x. not (p x)) xs) ≡ weight text xs
weight-parted text p [] = omega arith
weight-parted text p (x ∷ xs) = which (p x) (weight-parted text p xs)
  where
    which : (b : Bool) → weight text (filter p xs) + weight text (filter (λ x. not (p x)) xs) ≡ weight text xs →
        weight text (cond b (x ∷ filter p xs) (filter p xs)) + weight text (cond (not b) (x ∷ filter (λ x. not (p x)) xs) (filter (λ x. not (p x)) xs)) ≡ length (text x) + 1 + weight text xs
    which true ih = let e : length (text x) + 1 + weight text (filter p xs) + weight text (filter (λ x. not (p x)) xs) ≡ length (text x) + 1 + weight text xs = omega (arith, ih) in e
    which false ih = let e : weight text (filter p xs) + (length (text x) + 1 + weight text (filter (λ x. not (p x)) xs)) ≡ length (text x) + 1 + weight text xs = omega (arith, ih) in e
