-- Masks of declarations and items (own): a bit for each family, which some families have in common. What weighs
-- with one another has a bit in common.
use Rattle.std.specs.Prelude.{◌≡◌, ℕ, ◌+◌, ◌*◌, ◌-◌, ◌^◌, ◌%◌, List, [], ◌∷◌, length, bit_or}
use Rattle.std.specs.Int.{bit_at}
use Rattle.css_model.specs.declared.family.Family.{Family}
use Rattle.css_model.specs.declared.family.Family.TheVariants.{All, Custom, Named}
use Rattle.css_model.specs.declared.sheet.Decl.{Decl}
use Rattle.css_model.specs.declared.sheet.DeclItem.{DeclItem}
use Rattle.css_model.specs.declared.sheet.Item.{Item}
use Rattle.css_model.specs.declared.sheet.Item.TheVariants.{Rule, KeptRule, KeptBlock}
use Rattle.css_model.specs.Cascade.Family.{family_of}

-- each of the 64 bits
abbrev pub all_bits : ℕ
all_bits = 2 ^ 64 - 1

-- The bit of a family, by its text: common families have bits of their own.
abbrev pub bit_of : List ℕ → ℕ
bit_of [] = 0
bit_of (a ∷ []) = a % 64
bit_of (a ∷ b ∷ rest) = (a + 4 * b + 20 * length rest) % 64

abbrev pub family_mask : Family → ℕ
family_mask All = all_bits
family_mask (Custom text) = 2 ^ bit_of text
family_mask (Named text) = 2 ^ bit_of text

abbrev pub decl_mask : Decl → ℕ
decl_mask d = family_mask (family_of d.name)

-- a mask with those of declarations put to it
abbrev pub with_decls : ℕ → List Decl → ℕ
with_decls mask [] = mask
with_decls mask (d ∷ ds) = with_decls (bit_or mask (decl_mask d)) ds

abbrev pub with_items : ℕ → List DeclItem → ℕ
with_items mask [] = mask
with_items mask (x ∷ xs) = with_items (bit_or mask (decl_mask x.decl)) xs

-- the bits of the declarations of an item; of a kept block, which may have any, all
abbrev pub item_mask : Item → ℕ
item_mask (Rule r) = with_items 0 r.decls
item_mask (KeptRule k) = with_decls 0 k.decls
item_mask (KeptBlock piece) = all_bits

-- two masks have a bit in common
abbrev pub HaveCommon : ℕ → ℕ → Type 0
HaveCommon m n = (i : ℕ) × (bit_at m i ≡ 1) × (bit_at n i ≡ 1)

-- each bit of the one is a bit of the other
abbrev pub IsWithin : ℕ → ℕ → Type 0
IsWithin m n = (i : ℕ) → bit_at m i ≡ 1 → bit_at n i ≡ 1
