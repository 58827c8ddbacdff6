-- A text without a separator, inside texts with the separator between them.
use Rattle.std.proofs.Common.{◌≡◌, ◌≢◌, ◌⊎◌, ℕ, List, [], ◌∷◌, ◌++◌, refl, sym, ap₂, inl, inr}
use Rattle.std.specs.List.{All}
use Rattle.std.proofs.lemmas.List.Elements.{All-head, All-tail}

-- at the front
pub begins_before : (c : ℕ) (xs ys v rest : List ℕ) → All (λ d. d ≢ c) v → xs ++ c ∷ ys ≡ v ++ rest →
    (more : List ℕ) × (xs ≡ v ++ more) × (rest ≡ more ++ c ∷ ys)
begins_before c xs ys [] rest free e = (xs, refl, sym e)
begins_before c [] ys (d ∷ v) rest free e = absurd (All-head (λ d. d ≢ c) d v free (let h : d ≡ c = cc in h))
begins_before c (x ∷ xs) ys (d ∷ v) rest free e =
    let h = begins_before c xs ys v rest (All-tail (λ d. d ≢ c) d v free) (let t : xs ++ c ∷ ys ≡ v ++ rest = cc in t) in
    let same : x ≡ d = cc in
    (h.0, ap₂ (λ (n : ℕ) (ns : List ℕ). n ∷ ns) same h.1, h.2)

-- anywhere: before the separator or behind it
pub lies : (c : ℕ) (xs ys front v rest : List ℕ) → All (λ d. d ≢ c) v → xs ++ c ∷ ys ≡ front ++ v ++ rest →
    ((more : List ℕ) × (xs ≡ front ++ v ++ more) × (rest ≡ more ++ c ∷ ys)) ⊎ ((more : List ℕ) × (front ≡ xs ++ c ∷ more) × (ys ≡ more ++ v ++ rest))
lies c xs ys [] v rest free e = inl (begins_before c xs ys v rest free e)
lies c [] ys (d ∷ front) v rest free e = inr (front, (let h : d ∷ front ≡ c ∷ front = cc in h), (let t : ys ≡ front ++ v ++ rest = cc in t))
lies c (x ∷ xs) ys (d ∷ front) v rest free e = further (lies c xs ys front v rest free (let t : xs ++ c ∷ ys ≡ front ++ v ++ rest = cc in t)) (let h : x ≡ d = cc in h)
  where
    further : ((more : List ℕ) × (xs ≡ front ++ v ++ more) × (rest ≡ more ++ c ∷ ys)) ⊎ ((more : List ℕ) × (front ≡ xs ++ c ∷ more) × (ys ≡ more ++ v ++ rest)) → x ≡ d →
        ((more : List ℕ) × (x ∷ xs ≡ (d ∷ front) ++ v ++ more) × (rest ≡ more ++ c ∷ ys)) ⊎ ((more : List ℕ) × (d ∷ front ≡ (x ∷ xs) ++ c ∷ more) × (ys ≡ more ++ v ++ rest))
    further (inl h) same = inl (h.0, ap₂ (λ (n : ℕ) (ns : List ℕ). n ∷ ns) same h.1, h.2)
    further (inr h) same = inr (h.0, ap₂ (λ (n : ℕ) (ns : List ℕ). n ∷ ns) (sym same) h.1, h.2)
