-- Which bits masks have.
use Rattle.std.proofs.Common.{◌≡◌, ◌⊎◌, ℕ, ◌<◌, List, [], ◌∷◌, sym, ap, ◌∙◌, subst, inl, inr, arith}
use Rattle.std.specs.Prelude.{bit_and, bit_or, max, min}
use Rattle.std.specs.Int.{bit_at}
use Rattle.std.specs.List.{Contains}
use Rattle.std.proofs.lemmas.Nat.Bits.{bit_at-pow_same, bit_at_ones, bit_at_and, bit_at_or, bit_at-zero, bit_at-lt}
use Rattle.list_facts.proofs.Members.{Contains-nil, Contains-cons_cases}
use Rattle.css_model.specs.declared.family.Family.{Family}
use Rattle.css_model.specs.declared.family.Family.TheVariants.{All, Custom, Named}
use Rattle.css_model.specs.declared.sheet.Decl.{Decl}
use Rattle.css_model.specs.declared.sheet.DeclItem.{DeclItem}
use Rattle.related_props.specs.Masks.{HaveCommon, IsWithin, all_bits, bit_of, decl_mask, family_mask, with_decls, with_items}

pub bit_is_small : (text : List ℕ) → bit_of text < 64
bit_is_small [] = omega arith
bit_is_small (a ∷ []) = omega arith
bit_is_small (a ∷ b ∷ rest) = omega arith

all_have : (i : ℕ) → i < 64 → bit_at all_bits i ≡ 1
all_have i less = bit_at_ones 64 i less

-- each family has a bit that a kept block has too
pub has_bit : (f : Family) → HaveCommon (family_mask f) all_bits
has_bit All = (0, all_have 0 (omega arith), all_have 0 (omega arith))
has_bit (Custom text) = (bit_of text, bit_at-pow_same (bit_of text), all_have (bit_of text) (bit_is_small text))
has_bit (Named text) = (bit_of text, bit_at-pow_same (bit_of text), all_have (bit_of text) (bit_is_small text))

swapped : (m n : ℕ) → HaveCommon m n → HaveCommon n m
swapped m n h = (h.0, h.2, h.1)

itself : (f : Family) → HaveCommon (family_mask f) (family_mask f)
itself f = let h = has_bit f in (h.0, h.1, h.1)

pub related_families_meet : (f g : Family) → (f ≡ All) ⊎ (g ≡ All) ⊎ (f ≡ g) → HaveCommon (family_mask f) (family_mask g)
related_families_meet f g (inl e) = subst (λ (x : Family). HaveCommon (family_mask x) (family_mask g)) (sym e) (swapped (family_mask g) all_bits (has_bit g))
related_families_meet f g (inr (inl e)) = subst (λ (x : Family). HaveCommon (family_mask f) (family_mask x)) (sym e) (has_bit f)
related_families_meet f g (inr (inr e)) = subst (λ (x : Family). HaveCommon (family_mask f) (family_mask x)) e (itself f)

-- ---- Masks with more put to them

greatest_left : (a b : ℕ) → a ≡ 1 → b < 2 → max a b ≡ 1
greatest_left a b e less = grind (arith, e, less)

greatest_right : (a b : ℕ) → b ≡ 1 → a < 2 → max a b ≡ 1
greatest_right a b e less = grind (arith, e, less)

in_or_left : (m n i : ℕ) → bit_at m i ≡ 1 → bit_at (bit_or m n) i ≡ 1
in_or_left m n i h = bit_at_or m n i ∙ (let small : bit_at n i < 2 = bit_at-lt n i in greatest_left (bit_at m i) (bit_at n i) h small)

in_or_right : (m n i : ℕ) → bit_at n i ≡ 1 → bit_at (bit_or m n) i ≡ 1
in_or_right m n i h = bit_at_or m n i ∙ (let small : bit_at m i < 2 = bit_at-lt m i in greatest_right (bit_at m i) (bit_at n i) h small)

pub decls_stay : (mask : ℕ) (ds : List Decl) → IsWithin mask (with_decls mask ds)
decls_stay mask [] i h = h
decls_stay mask (d ∷ ds) i h = decls_stay (bit_or mask (decl_mask d)) ds i (in_or_left mask (decl_mask d) i h)

pub items_stay : (mask : ℕ) (xs : List DeclItem) → IsWithin mask (with_items mask xs)
items_stay mask [] i h = h
items_stay mask (x ∷ xs) i h = items_stay (bit_or mask (decl_mask x.decl)) xs i (in_or_left mask (decl_mask x.decl) i h)

pub items_put : (mask : ℕ) (xs : List DeclItem) (x : DeclItem) → Contains xs x → IsWithin (decl_mask x.decl) (with_items mask xs)
items_put mask [] x inside i h = absurd (Contains-nil x inside)
items_put mask (y ∷ ys) x inside i h = which (λ g. items_put (bit_or mask (decl_mask y.decl)) ys x g i h) (Contains-cons_cases y ys x inside)
  where
    which : (Contains ys x → bit_at (with_items (bit_or mask (decl_mask y.decl)) ys) i ≡ 1) → (y ≡ x) ⊎ Contains ys x → bit_at (with_items (bit_or mask (decl_mask y.decl)) ys) i ≡ 1
    which again (inl e) = items_stay (bit_or mask (decl_mask y.decl)) ys i (in_or_right mask (decl_mask y.decl) i (subst (λ (z : DeclItem). bit_at (decl_mask z.decl) i ≡ 1) (sym e) h))
    which again (inr g) = again g

pub decls_put : (mask : ℕ) (ds : List Decl) (d : Decl) → Contains ds d → IsWithin (decl_mask d) (with_decls mask ds)
decls_put mask [] d inside i h = absurd (Contains-nil d inside)
decls_put mask (f ∷ fs) d inside i h = which (λ g. decls_put (bit_or mask (decl_mask f)) fs d g i h) (Contains-cons_cases f fs d inside)
  where
    which : (Contains fs d → bit_at (with_decls (bit_or mask (decl_mask f)) fs) i ≡ 1) → (f ≡ d) ⊎ Contains fs d → bit_at (with_decls (bit_or mask (decl_mask f)) fs) i ≡ 1
    which again (inl e) = decls_stay (bit_or mask (decl_mask f)) fs i (in_or_right mask (decl_mask f) i (subst (λ (z : Decl). bit_at (decl_mask z) i ≡ 1) (sym e) h))
    which again (inr g) = again g

-- ---- Bits that two masks have

least_of : (a b : ℕ) → a ≡ 1 → b ≡ 1 → min a b ≡ 1
least_of a b e f = grind (arith, e, f)

pub in_both : (m n i : ℕ) → bit_at m i ≡ 1 → bit_at n i ≡ 1 → bit_at (bit_and m n) i ≡ 1
in_both m n i h g = bit_at_and m n i ∙ least_of (bit_at m i) (bit_at n i) h g

pub common_shows : (m n : ℕ) → HaveCommon m n → bit_and m n ≡ 0 → ⊥
common_shows m n h none =
    let one : bit_at (bit_and m n) h.0 ≡ 1 = in_both m n h.0 h.1 h.2 in
    let nothing : bit_at (bit_and m n) h.0 ≡ 0 = ap (λ (k : ℕ). bit_at k h.0) none ∙ bit_at-zero h.0 in
    absurd (omega (arith, one, nothing))
