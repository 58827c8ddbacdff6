-- Members of lists of numbers, and lists in which no number stands twice.
use Rattle.std.proofs.Common.{◌≡◌, ◌<◌, ◌⊎◌, ℕ, false, eqb, zero, suc, List, [], ◌∷◌, ◌++◌, length, get_or, refl, sym, ap, subst, ◌∙◌, inl, inr, arith}
use Rattle.std.specs.List.{Contains, IsDistinct, AllByRecursion}
use Rattle.std.proofs.lemmas.Bool.{cond-true, cond-false, eq-eqb, ne_eqb, false≢true}
use Rattle.std.proofs.lemmas.List.Elements.{Contains-append_left, Contains-append_right, Contains-append_cases, All-contains, All-from_recursion}
use Rattle.std.proofs.lemmas.Map.Keys.{IsDistinct-head, IsDistinct-tail, IsDistinct-cons}
use Rattle.sat_arena.specs.Arena.{without}

pub contains-none : (c : ℕ) → Contains [] c → ⊥
contains-none c h = let b = h.1 in absurd (omega arith)

pub contains-here : (c : ℕ) (cs : List ℕ) → Contains (c ∷ cs) c
contains-here c cs = (0, omega arith, refl)

pub contains-there : (d : ℕ) (ds : List ℕ) (c : ℕ) → Contains ds c → Contains (d ∷ ds) c
contains-there d ds c h = let b = h.1 in (suc h.0, omega arith, h.2)

pub contains-cases : (d : ℕ) (ds : List ℕ) (c : ℕ) → Contains (d ∷ ds) c → (d ≡ c) ⊎ Contains ds c
contains-cases d ds c h = at h.0 h.1 h.2
  where
    at : (k : ℕ) → k < length (d ∷ ds) → get_or (d ∷ ds) k c ≡ c → (d ≡ c) ⊎ Contains ds c
    at zero b e = inl e
    at (suc k) b e = inr (k, omega arith, e)

-- the head, where it is another number
pub contains-head : (d : ℕ) (ds : List ℕ) (c : ℕ) → d ≡ c → Contains (d ∷ ds) c
contains-head d ds c e = subst (Contains (d ∷ ds)) e (contains-here d ds)

-- a list with one more in the middle
pub contains-wider : (xs ys : List ℕ) (c d : ℕ) → Contains (xs ++ ys) d → Contains (xs ++ c ∷ ys) d
contains-wider xs ys c d h =
    elim (Contains-append_cases xs ys d h) [
      | inl a ↦ Contains-append_left xs (c ∷ ys) d a
      | inr a ↦ Contains-append_right xs (c ∷ ys) d (contains-there c ys d a)
    ]

pub contains-narrower : (xs ys : List ℕ) (c d : ℕ) → Contains (xs ++ c ∷ ys) d → (d ≡ c → ⊥) → Contains (xs ++ ys) d
contains-narrower xs ys c d h ne =
    elim (Contains-append_cases xs (c ∷ ys) d h) [
      | inl a ↦ Contains-append_left xs ys d a
      | inr a ↦ elim (contains-cases c ys d a) [ inl e ↦ absurd (ne (sym e)) | inr k ↦ Contains-append_right xs ys d k ]
    ]

-- the middle of a list
pub contains-middle : (xs : List ℕ) (c : ℕ) (ys : List ℕ) → Contains (xs ++ c ∷ ys) c
contains-middle xs c ys = Contains-append_right xs (c ∷ ys) c (contains-here c ys)

-- ---- no number twice

pub distinct-none : IsDistinct eqb []
unfolding IsDistinct
distinct-none = tt

pub distinct-apart : (c : ℕ) (cs : List ℕ) → IsDistinct eqb (c ∷ cs) → Contains cs c → ⊥
distinct-apart c cs h o =
    let other = All-contains (λ y. eqb c y ≡ false) cs c (All-from_recursion (λ y. eqb c y ≡ false) cs (IsDistinct-head eqb c cs h)) o in
    false≢true (sym other ∙ eq-eqb c c refl)

pub distinct-more : (c : ℕ) (cs : List ℕ) → (Contains cs c → ⊥) → IsDistinct eqb cs → IsDistinct eqb (c ∷ cs)
distinct-more c cs n h = IsDistinct-cons eqb c cs (elsewhere cs n) h
  where
    elsewhere : (ds : List ℕ) → (Contains ds c → ⊥) → AllByRecursion (λ y. eqb c y ≡ false) ds
    elsewhere [] n = tt
    elsewhere (d ∷ ds) n = (ne_eqb c d (λ e. n (contains-head d ds c (sym e))), elsewhere ds (λ k. n (contains-there d ds c k)))

-- the head of such a list is not in the middle of the rest
pub distinct-middle : (x : ℕ) (xs : List ℕ) (c : ℕ) (ys : List ℕ) → IsDistinct eqb (x ∷ (xs ++ c ∷ ys)) → x ≡ c → ⊥
distinct-middle x xs c ys a e = distinct-apart x (xs ++ c ∷ ys) a (subst (Contains (xs ++ c ∷ ys)) (sym e) (contains-middle xs c ys))

pub distinct-without : (xs : List ℕ) (c : ℕ) (ys : List ℕ) → IsDistinct eqb (xs ++ c ∷ ys) → IsDistinct eqb (xs ++ ys) × (Contains (xs ++ ys) c → ⊥)
distinct-without [] c ys a = (IsDistinct-tail eqb c ys a, distinct-apart c ys a)
distinct-without (x ∷ xs) c ys a =
    let rest = distinct-without xs c ys (IsDistinct-tail eqb x (xs ++ c ∷ ys) a) in (
      distinct-more x (xs ++ ys) (λ h. distinct-apart x (xs ++ c ∷ ys) a (contains-wider xs ys c x h)) rest.0,
      λ h. elim (contains-cases x (xs ++ ys) c h) [ inl e ↦ distinct-middle x xs c ys a e | inr k ↦ rest.1 k ],
    )

pub without-middle : (xs : List ℕ) (c : ℕ) (ys : List ℕ) → IsDistinct eqb (xs ++ c ∷ ys) → without c (xs ++ c ∷ ys) ≡ xs ++ ys
without-middle [] c ys a = cond-true (eqb c c) ys (c ∷ without c ys) (eq-eqb c c refl)
without-middle (x ∷ xs) c ys a =
    cond-false (eqb x c) (xs ++ c ∷ ys) (x ∷ without c (xs ++ c ∷ ys)) (ne_eqb x c (distinct-middle x xs c ys a))
    ∙ ap (λ zs. x ∷ zs) (without-middle xs c ys (IsDistinct-tail eqb x (xs ++ c ∷ ys) a))
