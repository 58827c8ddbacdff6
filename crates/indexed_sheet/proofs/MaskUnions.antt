-- Bits that are put together, and the masks of lists that are joined.
use Rattle.std.proofs.Common.{◌≡◌, ◌⊎◌, ℕ, Bool, true, false, List, [], ◌∷◌, ◌++◌, map, refl, sym, ap, ◌∙◌, inl, inr, arith}
use Rattle.std.specs.Prelude.{bit_or, max}
use Rattle.std.specs.Int.{bit_at}
use Rattle.std.specs.List.{Contains, filter}
use Rattle.std.proofs.lemmas.Bool.{cond-false, cond-true}
use Rattle.std.proofs.lemmas.Nat.{or_comm}
use Rattle.std.proofs.lemmas.Nat.Bits.{bit_at-zero, bit_at_or, same_from_bits}
use Rattle.css_model.specs.declared.sheet.DeclItem.{DeclItem}
use Rattle.css_model.specs.declared.sheet.SelItem.{SelItem}
use Rattle.item_masks.specs.Masks.{selector_mask, with_selectors}
use Rattle.list_facts.proofs.Members.{Contains-here, Contains-there, Contains-nil, Contains-cons_cases}
use Rattle.related_props.specs.Masks.{decl_mask, with_items}

-- ---- Numbers by their bits

max_assoc : (a b c : ℕ) → max (max a b) c ≡ max a (max b c)
max_assoc a b c = grind arith

max_self : (a : ℕ) → max a a ≡ a
max_self a = grind arith

max_zero : (a : ℕ) → max 0 a ≡ a
max_zero a = grind arith

or_assoc : (a b c : ℕ) → bit_or (bit_or a b) c ≡ bit_or a (bit_or b c)
or_assoc a b c = same_from_bits (bit_or (bit_or a b) c) (bit_or a (bit_or b c)) (λ i.
    bit_at_or (bit_or a b) c i ∙ ap (λ (m : ℕ). max m (bit_at c i)) (bit_at_or a b i) ∙ max_assoc (bit_at a i) (bit_at b i) (bit_at c i)
    ∙ ap (λ (m : ℕ). max (bit_at a i) m) (sym (bit_at_or b c i)) ∙ sym (bit_at_or a (bit_or b c) i))

or_self : (a : ℕ) → bit_or a a ≡ a
or_self a = same_from_bits (bit_or a a) a (λ i. bit_at_or a a i ∙ max_self (bit_at a i))

or_zero : (a : ℕ) → bit_or 0 a ≡ a
or_zero a = same_from_bits (bit_or 0 a) a (λ i. bit_at_or 0 a i ∙ ap (λ (m : ℕ). max m (bit_at a i)) (bit_at-zero i) ∙ max_zero (bit_at a i))

-- what is there already adds nothing
or_again : (a b : ℕ) → bit_or (bit_or a b) a ≡ bit_or a b
or_again a b = or_comm (bit_or a b) a ∙ sym (or_assoc a a b) ∙ ap (λ (m : ℕ). bit_or m b) (or_self a)

-- ---- The bits of a list

abbrev pub bits_of : {K : Type 0} → (K → ℕ) → List K → ℕ
bits_of mask [] = 0
bits_of mask (k ∷ ks) = bit_or (mask k) (bits_of mask ks)

pub bits_append : {K : Type 0} (mask : K → ℕ) (ks ls : List K) → bits_of mask (ks ++ ls) ≡ bit_or (bits_of mask ks) (bits_of mask ls)
bits_append mask [] ls = sym (or_zero (bits_of mask ls))
bits_append mask (k ∷ ks) ls = ap (λ (m : ℕ). bit_or (mask k) m) (bits_append mask ks ls) ∙ sym (or_assoc (mask k) (bits_of mask ks) (bits_of mask ls))

-- the bits of a member add nothing, and so those of some members
bits_has : {K : Type 0} (mask : K → ℕ) (ks : List K) (k : K) → Contains ks k → bit_or (bits_of mask ks) (mask k) ≡ bits_of mask ks
bits_has mask [] k h = absurd (Contains-nil k h)
bits_has mask (l ∷ ks) k h = which (λ g. bits_has mask ks k g) (Contains-cons_cases l ks k h)
  where
    which : (Contains ks k → bit_or (bits_of mask ks) (mask k) ≡ bits_of mask ks) → (l ≡ k) ⊎ Contains ks k → bit_or (bit_or (mask l) (bits_of mask ks)) (mask k) ≡ bit_or (mask l) (bits_of mask ks)
    which rest (inl e) = ap (λ (m : ℕ). bit_or (bit_or (mask l) (bits_of mask ks)) m) (ap mask (sym e)) ∙ or_again (mask l) (bits_of mask ks)
    which rest (inr g) = or_assoc (mask l) (bits_of mask ks) (mask k) ∙ ap (λ (m : ℕ). bit_or (mask l) m) (rest g)

pub bits_have : {K : Type 0} (mask : K → ℕ) (ks ls : List K) → ((k : K) → Contains ls k → Contains ks k) → bit_or (bits_of mask ks) (bits_of mask ls) ≡ bits_of mask ks
bits_have mask ks [] all = or_comm (bits_of mask ks) 0 ∙ or_zero (bits_of mask ks)
bits_have mask ks (l ∷ ls) all =
    sym (or_assoc (bits_of mask ks) (mask l) (bits_of mask ls))
    ∙ ap (λ (m : ℕ). bit_or m (bits_of mask ls)) (bits_has mask ks l (all l (Contains-here l ls)))
    ∙ bits_have mask ks ls (λ k h. all k (Contains-there l ls k h))

-- those that are not kept being members, the kept ones add what all do
pub bits_kept : {X K : Type 0} (mask : K → ℕ) (key : X → K) (keep : X → Bool) (ks : List K) (xs : List X) → ((x : X) → keep x ≡ false → Contains ks (key x)) →
    bit_or (bits_of mask ks) (bits_of mask (map key (filter keep xs))) ≡ bit_or (bits_of mask ks) (bits_of mask (map key xs))
bits_kept mask key keep ks [] all = refl
bits_kept {X} {K} mask key keep ks (x ∷ xs) all = which (bits_kept mask key keep ks xs all) (keep x) refl
  where
    all_of : List X → ℕ
    all_of ys = bit_or (bits_of mask ks) (bits_of mask (map key ys))

    put : ℕ → ℕ
    put m = bit_or (mask (key x)) m

    -- the bits of an element may be put in first
    first : (m : ℕ) → bit_or (bits_of mask ks) (bit_or (mask (key x)) m) ≡ bit_or (mask (key x)) (bit_or (bits_of mask ks) m)
    first m = sym (or_assoc (bits_of mask ks) (mask (key x)) m) ∙ ap (λ (i : ℕ). bit_or i m) (or_comm (bits_of mask ks) (mask (key x))) ∙ or_assoc (mask (key x)) (bits_of mask ks) m

    which : all_of (filter keep xs) ≡ all_of xs → (b : Bool) → keep x ≡ b → all_of (filter keep (x ∷ xs)) ≡ all_of (x ∷ xs)
    which ih true e =
        ap all_of (cond-true (keep x) (x ∷ filter keep xs) (filter keep xs) e)
        ∙ first (bits_of mask (map key (filter keep xs))) ∙ ap put ih ∙ sym (first (bits_of mask (map key xs)))
    which ih false e =
        ap all_of (cond-false (keep x) (x ∷ filter keep xs) (filter keep xs) e) ∙ ih
        ∙ ap (λ (i : ℕ). bit_or i (bits_of mask (map key xs))) (sym (bits_has mask ks (key x) (all x e)))
        ∙ or_assoc (bits_of mask ks) (mask (key x)) (bits_of mask (map key xs))

-- ---- The bits of selectors and of declarations

selectors_with : (mask : ℕ) (xs : List SelItem) → with_selectors mask xs ≡ bit_or mask (bits_of selector_mask (map (λ s. s.selector) xs))
selectors_with mask [] = sym (or_comm mask 0 ∙ or_zero mask)
selectors_with mask (x ∷ xs) = selectors_with (bit_or mask (selector_mask x.selector)) xs ∙ or_assoc mask (selector_mask x.selector) (bits_of selector_mask (map (λ s. s.selector) xs))

pub selectors_are : (xs : List SelItem) → with_selectors 0 xs ≡ bits_of selector_mask (map (λ s. s.selector) xs)
selectors_are xs = selectors_with 0 xs ∙ or_zero (bits_of selector_mask (map (λ s. s.selector) xs))

items_with : (mask : ℕ) (xs : List DeclItem) → with_items mask xs ≡ bit_or mask (bits_of decl_mask (map (λ d. d.decl) xs))
items_with mask [] = sym (or_comm mask 0 ∙ or_zero mask)
items_with mask (x ∷ xs) = items_with (bit_or mask (decl_mask x.decl)) xs ∙ or_assoc mask (decl_mask x.decl) (bits_of decl_mask (map (λ d. d.decl) xs))

pub items_are : (xs : List DeclItem) → with_items 0 xs ≡ bits_of decl_mask (map (λ d. d.decl) xs)
items_are xs = items_with 0 xs ∙ or_zero (bits_of decl_mask (map (λ d. d.decl) xs))
