-- The masks of what a step leaves of its rules (own).
use Rattle.std.specs.Prelude.{◌≡◌, List, [], ◌∷◌, bit_or}
use Rattle.css_model.specs.declared.sheet.Item.{Item}
use Rattle.css_model.specs.declared.sheet.Item.TheVariants.{Rule}
use Rattle.css_model.specs.Sheets.RuleParts.{RuleParts}
use Rattle.indexed_sheet.specs.declared.left_masks.LeftMasks.{LeftMasks}
use Rattle.indexed_sheet.specs.declared.left_masks.LeftMasks.TheVariants.{Nothing, One, Two}
use Rattle.step_laws.specs.declared.step.Step.{Step}
use Rattle.step_laws.specs.declared.step.Step.TheVariants.{CutDecl, Share}
use Rattle.item_masks.specs.declared.mask.ItemMask.{ItemMask}
use Rattle.item_masks.specs.Masks.{item_mask, with_selectors}

-- the bits of both
abbrev pub union : ItemMask → ItemMask → ItemMask
union m n = record { families = bit_or m.families n.families; selectors = bit_or m.selectors n.selectors }

-- the masks, in their order
abbrev pub masks_in : LeftMasks → List ItemMask
masks_in Nothing = []
masks_in (One m) = m ∷ []
masks_in (Two m n) = m ∷ n ∷ []

-- the rule has the bits of selectors of this mask
abbrev pub HasSelectorsOf : RuleParts → ItemMask → Type 0
HasSelectorsOf r m = m.selectors ≡ with_selectors 0 r.selectors

-- where there is one rule, it has the bits of selectors of this mask
abbrev pub HaveSelectorsOf : List Item → ItemMask → Type 0
HaveSelectorsOf items m = (r : RuleParts) → items ≡ Rule r ∷ [] → HasSelectorsOf r m

-- where there is one item, this is its mask
abbrev pub AreOneWith : List Item → ItemMask → Type 0
AreOneWith items m = (item : Item) → items ≡ item ∷ [] → m ≡ item_mask item

-- the first rule has the bits of selectors of the one mask, and a second one those of the other one
abbrev pub AreSharedWith : List Item → ItemMask → ItemMask → Type 0
AreSharedWith items both lower = ((r : RuleParts) → items ≡ Rule r ∷ [] → HasSelectorsOf r both)
    × ((r q : RuleParts) → items ≡ Rule r ∷ Rule q ∷ [] → HasSelectorsOf r both × HasSelectorsOf q lower)

-- a cut of a declaration leaves the selectors
abbrev pub CutHasSelectorsOf : Step → List Item → ItemMask → Type 0
CutHasSelectorsOf (CutDecl n i) items m = HaveSelectorsOf items m
CutHasSelectorsOf _ items m = Unit {0}

-- what a share and a join leave above and below, by the masks of their rules
abbrev pub BothHaveSelectorsOf : Step → List Item → List Item → ItemMask → ItemMask → Type 0
BothHaveSelectorsOf (Share x y) above below upper lower = HaveSelectorsOf above upper × AreSharedWith below (union upper lower) lower
BothHaveSelectorsOf _ above below upper lower = AreOneWith above (union upper lower) × AreOneWith below (union upper lower)
