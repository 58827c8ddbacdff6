-- The order of entries by their ranks: nothing outranks itself, outranking is transitive, and of
-- entries with different ranks one outranks the other.
use Rattle.std.proofs.Common.{◌≡◌, ◌⊎◌, ℕ, ◌<◌, Bool, true, false, List, [], ◌∷◌, length, refl, sym, ap, ap₂, ◌∙◌, inl, inr, arith}
use Rattle.std.proofs.lemmas.Bool.{false≢true, false_from_ne_true}
use Rattle.std.proofs.lemmas.Bool.Decides.{nat_tests}
use Rattle.css_model.specs.Cascade.Winner.{exceeds}

pub exceeds-irreflexive : (xs : List ℕ) → exceeds xs xs ≡ false
exceeds-irreflexive [] = refl
exceeds-irreflexive (x ∷ xs) = let ih : exceeds xs xs ≡ false = exceeds-irreflexive xs in grind (arith, nat_tests)

-- the first numbers decide, or are equal and the rest decides
pub exceeds-cases : (x y : ℕ) (xs ys : List ℕ) → exceeds (x ∷ xs) (y ∷ ys) ≡ true → (y < x) ⊎ ((x ≡ y) × (exceeds xs ys ≡ true))
exceeds-cases x y xs ys h = grind (arith, nat_tests)

pub exceeds-less : (x y : ℕ) (xs ys : List ℕ) → y < x → exceeds (x ∷ xs) (y ∷ ys) ≡ true
exceeds-less x y xs ys h = grind (arith, nat_tests)

pub exceeds-same : (x y : ℕ) (xs ys : List ℕ) → x ≡ y → exceeds xs ys ≡ true → exceeds (x ∷ xs) (y ∷ ys) ≡ true
exceeds-same x y xs ys e h = grind (arith, nat_tests)

exceeds-chain : (x y z : ℕ) (xs ys zs : List ℕ) → (exceeds xs ys ≡ true → exceeds ys zs ≡ true → exceeds xs zs ≡ true) →
    (y < x) ⊎ ((x ≡ y) × (exceeds xs ys ≡ true)) → (z < y) ⊎ ((y ≡ z) × (exceeds ys zs ≡ true)) → exceeds (x ∷ xs) (z ∷ zs) ≡ true
exceeds-chain x y z xs ys zs rest (inl l) (inl m) = exceeds-less x z xs zs (omega arith)
exceeds-chain x y z xs ys zs rest (inl l) (inr m) = exceeds-less x z xs zs (omega arith)
exceeds-chain x y z xs ys zs rest (inr l) (inl m) = exceeds-less x z xs zs (omega arith)
exceeds-chain x y z xs ys zs rest (inr l) (inr m) = exceeds-same x z xs zs (l.0 ∙ m.0) (rest l.1 m.1)

pub exceeds-transitive : (xs ys zs : List ℕ) → exceeds xs ys ≡ true → exceeds ys zs ≡ true → exceeds xs zs ≡ true
exceeds-transitive [] ys zs h g = absurd (false≢true h)
exceeds-transitive (x ∷ xs) [] zs h g = absurd (false≢true h)
exceeds-transitive (x ∷ xs) (y ∷ ys) [] h g = absurd (false≢true g)
exceeds-transitive (x ∷ xs) (y ∷ ys) (z ∷ zs) h g =
    exceeds-chain x y z xs ys zs (exceeds-transitive xs ys zs) (exceeds-cases x y xs ys h) (exceeds-cases y z ys zs g)

-- two lists of one length, none of which exceeds the other, are equal
pub exceeds-neither : (xs ys : List ℕ) → length xs ≡ length ys → exceeds xs ys ≡ false → exceeds ys xs ≡ false → xs ≡ ys
exceeds-neither [] [] l h g = refl
exceeds-neither [] (y ∷ ys) l h g = absurd (omega arith)
exceeds-neither (x ∷ xs) [] l h g = absurd (omega arith)
exceeds-neither (x ∷ xs) (y ∷ ys) l h g =
    let e : x ≡ y = grind (arith, nat_tests) in
    let h' : exceeds xs ys ≡ false = grind (arith, nat_tests) in
    let g' : exceeds ys xs ≡ false = grind (arith, nat_tests) in
    ap₂ (λ n ns. n ∷ ns) e (exceeds-neither xs ys (omega arith) h' g')

-- of lists of one length, what does not exceed the second does not exceed what the second does not
pub exceeds-not_transitive : (xs ys zs : List ℕ) → length xs ≡ length ys → exceeds xs ys ≡ false → exceeds ys zs ≡ false → exceeds xs zs ≡ false
exceeds-not_transitive xs ys zs l h g = which (exceeds ys xs) refl
  where
    which : (b : Bool) → exceeds ys xs ≡ b → exceeds xs zs ≡ false
    which true over = false_from_ne_true (exceeds xs zs) (λ far. false≢true (sym g ∙ exceeds-transitive ys xs zs over far))
    which false under = ap (λ ns. exceeds ns zs) (exceeds-neither xs ys l h under) ∙ g
