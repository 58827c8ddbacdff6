-- What stands in the slot of a node.
use Rattle.std.proofs.Common.{List, [], ap, arith, false, get_or, inl, inr, length, refl, suc, zero, ℕ, ◌<◌, ◌∙◌, ◌∷◌, ◌≡◌, ◌≤◌, ◌⊎◌}
use Rattle.std.proofs.lemmas.Bool.{eq-eqb}
use Rattle.std.specs.Prelude.{if◌then◌else◌, ◌==◌}
use Rattle.css_model.specs.declared.selector.Simple.{Simple}
use Rattle.grid_laws.proofs.Walks.Placed.{place_of}
use Rattle.slot_plan.specs.ValidShape.{Ascend, simples_at}

first_in : (c : List Simple) (cs : List (List Simple)) (p : ℕ) (ps : List ℕ) (k : ℕ) → p ≡ k → simples_at (c ∷ cs) (p ∷ ps) k ≡ c
first_in c cs p ps k e = ap (λ b. if b then c else simples_at cs ps k) (eq-eqb p k e)

not_first_in : (c : List Simple) (cs : List (List Simple)) (p : ℕ) (ps : List ℕ) (k : ℕ) → (p < k) ⊎ (k < p) → simples_at (c ∷ cs) (p ∷ ps) k ≡ simples_at cs ps k
not_first_in c cs p ps k h = ap (λ b. if b then c else simples_at cs ps k) (let w : (p == k) ≡ false = grind arith in w)

pub place_high : (p : ℕ) (ps : List ℕ) (i : ℕ) → Ascend p ps → p ≤ place_of p ps i
place_high p ps zero up = omega arith
place_high p [] (suc i) up = omega arith
place_high p (q ∷ qs) (suc i) (less, up) = let h = place_high q qs i up in omega arith

none_before : (chain : List (List Simple)) (p : ℕ) (ps : List ℕ) (k : ℕ) → Ascend p ps → k < p → simples_at chain (p ∷ ps) k ≡ []
none_before [] p ps k up h = refl
none_before (c ∷ cs) p [] k up h = not_first_in c cs p [] k (inr h) ∙ nothing cs
  where
    nothing : (cs : List (List Simple)) → simples_at cs [] k ≡ []
    nothing [] = refl
    nothing (d ∷ ds) = refl
none_before (c ∷ cs) p (q ∷ qs) k (less, up) h = not_first_in c cs p (q ∷ qs) k (inr h) ∙ none_before cs q qs k up (omega arith)

pub in_place : (chain : List (List Simple)) (p : ℕ) (ps : List ℕ) (i : ℕ) → Ascend p ps → length (p ∷ ps) ≡ length chain → i ≤ length ps → simples_at chain (p ∷ ps) (place_of p ps i) ≡ get_or chain i []
in_place [] p ps i up e h = absurd (omega arith)
in_place (c ∷ cs) p ps zero up e h = first_in c cs p ps p refl
in_place (c ∷ cs) p [] (suc i) up e h = absurd (omega arith)
in_place (c ∷ cs) p (q ∷ qs) (suc i) (less, up) e h =
    not_first_in c cs p (q ∷ qs) (place_of q qs i) (inl (let w = place_high q qs i up in omega arith)) ∙ in_place cs q qs i up (omega arith) (omega arith)

pub between : (chain : List (List Simple)) (p : ℕ) (ps : List ℕ) (j k : ℕ) → Ascend p ps → length (p ∷ ps) ≡ length chain → j ≤ length ps → place_of p ps j < k → (j < length ps → k < place_of p ps (suc j)) → simples_at chain (p ∷ ps) k ≡ []
between [] p ps j k up e h low high = refl
between (c ∷ cs) p [] zero k up e h low high = not_first_in c cs p [] k (inl low) ∙ nothing cs
  where
    nothing : (cs : List (List Simple)) → simples_at cs [] k ≡ []
    nothing [] = refl
    nothing (d ∷ ds) = refl
between (c ∷ cs) p [] (suc j) k up e h low high = absurd (omega arith)
between (c ∷ cs) p (q ∷ qs) zero k (less, up) e h low high = not_first_in c cs p (q ∷ qs) k (inl low) ∙ none_before cs q qs k up (high (omega arith))
between (c ∷ cs) p (q ∷ qs) (suc j) k (less, up) e h low high =
    not_first_in c cs p (q ∷ qs) k (inl (let w = place_high q qs j up in omega arith)) ∙ between cs q qs j k up (omega arith) (omega arith) low (λ l. high (omega arith))
