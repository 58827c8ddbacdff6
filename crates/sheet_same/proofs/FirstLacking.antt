-- The first lacking pair, member by member.
use Rattle.std.proofs.Common.{◌≡◌, ℕ, ◌+◌, ◌<◌, List, drop, get_or, length, Option, Some, None, sym, ap, ◌∙◌}
use Rattle.order_laws.specs.Places.{PlacedPair}
use Rattle.sheet_order.specs.declared.places.PairPlace.{PairPlace}
use Rattle.sheet_same.specs.Lacking.{lacking, first_found, first_lacking}
use Rattle.sheet_same.specs.Members.{Member}
use Rattle.sheet_same.proofs.Lists.{next_left}

module _ (pairs : List PlacedPair) (ms : List Member) (i : ℕ) (m : Member) (below : i < length ms) (at : m ≡ get_or ms i m) where
  left : first_lacking pairs (drop i ms) ≡ first_found (lacking pairs m) (first_lacking pairs (drop (i + 1) ms))
  left = ap (first_lacking pairs) (next_left ms i m below at)

  pub not_here : lacking pairs m ≡ None → first_lacking pairs (drop i ms) ≡ first_lacking pairs ms → first_lacking pairs (drop (i + 1) ms) ≡ first_lacking pairs ms
  not_here none h = sym (left ∙ ap (λ (o : Option PairPlace). first_found o (first_lacking pairs (drop (i + 1) ms))) none) ∙ h

  pub is_here : (place : PairPlace) → lacking pairs m ≡ Some place → first_lacking pairs (drop i ms) ≡ first_lacking pairs ms → Some place ≡ first_lacking pairs ms
  is_here place some h = sym (left ∙ ap (λ (o : Option PairPlace). first_found o (first_lacking pairs (drop (i + 1) ms))) some) ∙ h
