-- What is known of pairs by their numbers.
use Rattle.std.proofs.Common.{◌≡◌, ◌⊎◌, ℕ, zero, suc, List, [], ◌∷◌, set, Some, refl, sym, ap, ◌∙◌, subst, inl, inr}
use Rattle.std.specs.Prelude.{slice_get}
use Rattle.std.specs.List.{All}
use Rattle.std.proofs.lemmas.List.Elements.{All-contains}
use Rattle.cascade_laws.proofs.ForCallers.{some-same}
use Rattle.order_index.proofs.Around.{member_at}
use Rattle.order_index.specs.Walked.{AreKnown}
use Rattle.order_laws.specs.Places.{PlacedPair}
use Rattle.window_order.specs.Places.{IsKnownPair, unknown}
use Rattle.window_order.specs.declared.ends_known.KnownPair.{KnownPair}
use Rattle.window_order.specs.declared.window.Window.{Window}

pub none_known : (w : Window) (pairs : List PlacedPair) (known : List KnownPair) → All (λ k. k ≡ unknown) known → AreKnown w pairs known
none_known w pairs known all i p k at k_at = subst (IsKnownPair w p.pair) (sym (All-contains (λ k. k ≡ unknown) known k all (member_at known i k k_at))) (tt, tt)

-- what stands in a list in which one place was written
at_set : {X : Type 0} (xs : List X) (n i : ℕ) (x y : X) → slice_get (set xs n y) i ≡ Some x → ((i ≡ n) × (y ≡ x)) ⊎ (slice_get xs i ≡ Some x)
at_set [] n i x y at = inr at
at_set (z ∷ xs) zero zero x y at = inl (refl, some-same at)
at_set (z ∷ xs) zero (suc i) x y at = inr at
at_set (z ∷ xs) (suc n) zero x y at = inr at
at_set (z ∷ xs) (suc n) (suc i) x y at = which (at_set xs n i x y at)
  where
    which : ((i ≡ n) × (y ≡ x)) ⊎ (slice_get xs i ≡ Some x) → ((suc i ≡ suc n) × (y ≡ x)) ⊎ (slice_get xs i ≡ Some x)
    which (inl h) = inl (ap suc h.0, h.1)
    which (inr h) = inr h

pub one_noted : (w : Window) (pairs : List PlacedPair) (known : List KnownPair) (n : ℕ) (p : PlacedPair) (k : KnownPair) → AreKnown w pairs known → slice_get pairs n ≡ Some p → IsKnownPair w p.pair k → AreKnown w pairs (set known n k)
one_noted w pairs known n p k are at is i q l q_at l_at = which (at_set known n i l k l_at)
  where
    which : ((i ≡ n) × (k ≡ l)) ⊎ (slice_get known i ≡ Some l) → IsKnownPair w q.pair l
    which (inl h) =
        let same : p ≡ q = some-same (sym at ∙ subst (λ (j : ℕ). slice_get pairs j ≡ Some q) h.0 q_at) in
        subst (IsKnownPair w q.pair) h.1 (subst (λ (x : PlacedPair). IsKnownPair w x.pair k) same is)
    which (inr h) = are i q l q_at h
