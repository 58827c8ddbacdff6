-- The bits of selectors.
use Rattle.std.proofs.Common.{◌≡◌, ◌⊎◌, ℕ, ◌<◌, ◌%◌, List, [], ◌∷◌, sym, ◌∙◌, subst, inl, inr, arith}
use Rattle.std.specs.Prelude.{bit_and, bit_or, max}
use Rattle.std.specs.Int.{bit_at}
use Rattle.std.specs.List.{Contains}
use Rattle.std.proofs.lemmas.Nat.Bits.{bit_at-lt, bit_at-pow_same, bit_at_or}
use Rattle.css_model.specs.declared.sheet.SelItem.{SelItem}
use Rattle.css_model.specs.Documents.SelectorParts.{SelectorParts}
use Rattle.item_masks.specs.Masks.{selector_mask, with_selectors}
use Rattle.list_facts.proofs.Members.{Contains-cons_cases, Contains-nil}
use Rattle.related_props.proofs.MaskBits.{common_shows}
use Rattle.related_props.specs.Masks.{IsWithin}
use Rattle.rule_tables.specs.Digests.{selector_digest}

greatest_left : (a b : ℕ) → a ≡ 1 → b < 2 → max a b ≡ 1
greatest_left a b e less = grind (arith, e, less)

greatest_right : (a b : ℕ) → b ≡ 1 → a < 2 → max a b ≡ 1
greatest_right a b e less = grind (arith, e, less)

in_left : (m n : ℕ) → IsWithin m (bit_or m n)
in_left m n i h = bit_at_or m n i ∙ (let small : bit_at n i < 2 = bit_at-lt n i in greatest_left (bit_at m i) (bit_at n i) h small)

in_right : (m n : ℕ) → IsWithin n (bit_or m n)
in_right m n i h = bit_at_or m n i ∙ (let small : bit_at m i < 2 = bit_at-lt m i in greatest_right (bit_at m i) (bit_at n i) h small)

selectors_stay : (mask : ℕ) (xs : List SelItem) → IsWithin mask (with_selectors mask xs)
selectors_stay mask [] i h = h
selectors_stay mask (x ∷ xs) i h = selectors_stay (bit_or mask (selector_mask x.selector)) xs i (in_left mask (selector_mask x.selector) i h)

selectors_put : (mask : ℕ) (xs : List SelItem) (x : SelItem) → Contains xs x → IsWithin (selector_mask x.selector) (with_selectors mask xs)
selectors_put mask [] x inside i h = absurd (Contains-nil x inside)
selectors_put mask (y ∷ ys) x inside i h = which (λ g. selectors_put (bit_or mask (selector_mask y.selector)) ys x g i h) (Contains-cons_cases y ys x inside)
  where
    which : (Contains ys x → bit_at (with_selectors (bit_or mask (selector_mask y.selector)) ys) i ≡ 1) → (y ≡ x) ⊎ Contains ys x → bit_at (with_selectors (bit_or mask (selector_mask y.selector)) ys) i ≡ 1
    which again (inl e) =
        selectors_stay (bit_or mask (selector_mask y.selector)) ys i (in_right mask (selector_mask y.selector) i (subst (λ (z : SelItem). bit_at (selector_mask z.selector) i ≡ 1) (sym e) h))
    which again (inr g) = again g

-- a selector of a list has its bit in the list's mask
pub selector_shows : (xs : List SelItem) (x : SelItem) (s : SelectorParts) → Contains xs x → x.selector ≡ s → bit_and (with_selectors 0 xs) (selector_mask s) ≡ 0 → ⊥
selector_shows xs x s inside is =
    let bit = selector_digest s % 64 in
    let own : IsWithin (selector_mask s) (with_selectors 0 xs) = subst (λ (t : SelectorParts). IsWithin (selector_mask t) (with_selectors 0 xs)) is (selectors_put 0 xs x inside) in
    common_shows (with_selectors 0 xs) (selector_mask s) (bit, own bit (bit_at-pow_same bit), bit_at-pow_same bit)
