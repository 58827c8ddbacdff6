-- The masks of what a step moves.
use Rattle.std.proofs.Common.{◌≡◌, ◌⊎◌, ℕ, ◌<◌, List, [], ◌∷◌, ◌++◌, max, refl, sym, ◌∙◌, subst, inl, inr, arith}
use Rattle.std.specs.Prelude.{bit_or}
use Rattle.std.specs.Int.{bit_at}
use Rattle.std.specs.List.{Contains}
use Rattle.std.proofs.lemmas.Nat.Bits.{bit_at_or, bit_at-lt}
use Rattle.list_facts.proofs.Members.{Contains-nil, Contains-cons_cases}
use Rattle.order_index.specs.Walked.{with_masks}
use Rattle.order_laws.specs.Places.{PlacedPair}
use Rattle.related_props.specs.Masks.{IsWithin, decl_mask}

greatest_left : (a b : ℕ) → a ≡ 1 → b < 2 → max a b ≡ 1
greatest_left a b e less = grind (arith, e, less)

greatest_right : (a b : ℕ) → b ≡ 1 → a < 2 → max a b ≡ 1
greatest_right a b e less = grind (arith, e, less)

in_left : (m n i : ℕ) → bit_at m i ≡ 1 → bit_at (bit_or m n) i ≡ 1
in_left m n i h = bit_at_or m n i ∙ (let small : bit_at n i < 2 = bit_at-lt n i in greatest_left (bit_at m i) (bit_at n i) h small)

in_right : (m n i : ℕ) → bit_at n i ≡ 1 → bit_at (bit_or m n) i ≡ 1
in_right m n i h = bit_at_or m n i ∙ (let small : bit_at m i < 2 = bit_at-lt m i in greatest_right (bit_at m i) (bit_at n i) h small)

-- one more mask
pub masks_next : (mask : ℕ) (ps : List PlacedPair) (p : PlacedPair) → with_masks mask (ps ++ p ∷ []) ≡ bit_or (with_masks mask ps) (decl_mask p.pair.decl)
masks_next mask [] p = refl
masks_next mask (q ∷ ps) p = masks_next (bit_or mask (decl_mask q.pair.decl)) ps p

masks_stay : (mask : ℕ) (ps : List PlacedPair) → IsWithin mask (with_masks mask ps)
masks_stay mask [] i h = h
masks_stay mask (p ∷ ps) i h = masks_stay (bit_or mask (decl_mask p.pair.decl)) ps i (in_left mask (decl_mask p.pair.decl) i h)

-- the mask of each is within that of all
pub masks_put : (mask : ℕ) (ps : List PlacedPair) (p : PlacedPair) → Contains ps p → IsWithin (decl_mask p.pair.decl) (with_masks mask ps)
masks_put mask [] p inside i h = absurd (Contains-nil p inside)
masks_put mask (q ∷ ps) p inside i h = which (λ g. masks_put (bit_or mask (decl_mask q.pair.decl)) ps p g i h) (Contains-cons_cases q ps p inside)
  where
    which : (Contains ps p → bit_at (with_masks (bit_or mask (decl_mask q.pair.decl)) ps) i ≡ 1) → (q ≡ p) ⊎ Contains ps p → bit_at (with_masks (bit_or mask (decl_mask q.pair.decl)) ps) i ≡ 1
    which again (inl e) = masks_stay (bit_or mask (decl_mask q.pair.decl)) ps i (in_right mask (decl_mask q.pair.decl) i (subst (λ (x : PlacedPair). bit_at (decl_mask x.pair.decl) i ≡ 1) (sym e) h))
    which again (inr g) = again g
