-- Lengths that are known, while more come.
use Rattle.std.proofs.Common.{◌≡◌, ◌⊎◌, ℕ, zero, suc, ◌<◌, List, [], ◌∷◌, length, Some, refl, sym, ap, ◌∙◌, subst, inl, inr, arith}
use Rattle.std.specs.Prelude.{slice_get}
use Rattle.std.proofs.Math.ListN.{set}
use Rattle.cascade_laws.proofs.ForCallers.{some-same}
use Rattle.css_model.specs.declared.sheet.Piece.{Piece}
use Rattle.saved_bytes.specs.declared.lengths.Known.{Known}
use Rattle.saved_bytes.specs.Lengths.{AreKnown, text_of_piece, piece_at}

-- what stands in a list of which one element is set
set_there : {X : Type 0} (xs : List X) (n i : ℕ) (x y : X) → slice_get (set xs n y) i ≡ Some x → ((i ≡ n) × (y ≡ x)) ⊎ (slice_get xs i ≡ Some x)
set_there {X} [] n i x y at = inr at
set_there {X} (z ∷ xs) zero zero x y at = inl (refl, some-same at)
set_there {X} (z ∷ xs) zero (suc i) x y at = inr at
set_there {X} (z ∷ xs) (suc n) zero x y at = inr at
set_there {X} (z ∷ xs) (suc n) (suc i) x y at = on (set_there xs n i x y at)
  where
    on : ((i ≡ n) × (y ≡ x)) ⊎ (slice_get xs i ≡ Some x) → ((suc i ≡ suc n) × (y ≡ x)) ⊎ (slice_get xs i ≡ Some x)
    on (inl h) = inl (ap suc h.0, h.1)
    on (inr h) = inr h

-- one more length is known
pub known_set : (source : List ℕ) (known : List Known) (start : ℕ) (k : Known) → AreKnown source known → length (text_of_piece source (piece_at start k.behind)) ≡ k.len → AreKnown source (set known start k)
known_set source known start k are here i j at some = which (set_there known start i j k at)
  where
    which : ((i ≡ start) × (k ≡ j)) ⊎ (slice_get known i ≡ Some j) → length (text_of_piece source (piece_at i j.behind)) ≡ j.len
    which (inl h) = subst (λ (x : Known). length (text_of_piece source (piece_at i x.behind)) ≡ x.len) h.1
        (subst (λ (n : ℕ). length (text_of_piece source (piece_at n k.behind)) ≡ k.len) (sym h.0) here)
    which (inr g) = are i j g some

-- a length that is known
pub known_found : (source : List ℕ) (known : List Known) (piece : Piece) (k : Known) → AreKnown source known → slice_get known piece.start ≡ Some k → 0 < k.behind → k.behind ≡ piece.«end» →
    k.len ≡ length (text_of_piece source piece)
known_found source known piece k are at some ends = sym (are piece.start k at some) ∙ ap (λ (n : ℕ). length (text_of_piece source (piece_at piece.start n))) ends

-- where nothing is known all that is known is so
pub none_known : (source : List ℕ) (known : List Known) → ((i : ℕ) (k : Known) → slice_get known i ≡ Some k → k.behind ≡ 0) → AreKnown source known
none_known source known none start k at some = absurd (let z : k.behind ≡ 0 = none start k at in omega (arith, z, some))
