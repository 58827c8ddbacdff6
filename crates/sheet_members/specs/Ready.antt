-- Items whose parts can be printed and asked for.
use Rattle.std.specs.Prelude.{ℕ, List}
use Rattle.std.specs.List.{AllByRecursion}
use Rattle.css_model.specs.declared.sheet.DeclItem.{DeclItem}
use Rattle.css_model.specs.declared.sheet.Item.{Item}
use Rattle.css_model.specs.declared.sheet.Item.TheVariants.{Rule, KeptRule, KeptBlock}
use Rattle.css_model.specs.declared.sheet.SelItem.{SelItem}
use Rattle.css_model.specs.Selectors.Profile.{IsInProfile}
use Rattle.css_model.specs.Sheets.Sound.{IsSoundDeclaration, IsSoundItem, IsSoundSelector}
use Rattle.selector_laws.specs.Limits.{KeepsLimits}
use Rattle.sheet_members.specs.Compared.{Common}
use Rattle.sheet_members.specs.Members.{Member}
use Rattle.sheet_members.specs.Occurrences.{Occurrence, Part, Paired, Kept}

-- a selector of this source, in the profile and within its limits
pub record IsReadySelector (source : List ℕ) (s : SelItem) : Type 0 where
  pub sound : IsSoundSelector source s
  pub profile : IsInProfile s.selector
  pub limits : KeepsLimits s.selector

-- what is paired or kept is of this source
abbrev pub IsReadyPart : (source : List ℕ) → Part → Type 0
IsReadyPart source (Paired s d) = IsReadySelector source s × IsSoundDeclaration source d
IsReadyPart source (Kept item) = IsSoundItem source item

-- so are all parts of an item
abbrev pub IsReadyItem : (source : List ℕ) → Item → Type 0
IsReadyItem source (Rule r) = AllByRecursion (IsReadySelector source) r.selectors × AllByRecursion (IsSoundDeclaration source) r.decls
IsReadyItem source (KeptRule k) = IsSoundItem source (KeptRule k)
IsReadyItem source (KeptBlock piece) = IsSoundItem source (KeptBlock piece)

-- what occurs is of its layer
abbrev pub IsReady : Occurrence → Type 0
IsReady o = IsReadyPart o.layer.source o.part

-- so are all members, and what two sheets have in common
abbrev pub AreReady : List Member → Type 0
AreReady ms = AllByRecursion (λ m. IsReady m.occurrence) ms

abbrev pub IsReadyCommon : Common → Type 0
IsReadyCommon c = IsReady c.mine.occurrence × IsReady c.yours.occurrence
