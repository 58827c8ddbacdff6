-- Parts that a rule has once (own).
use Rattle.std.specs.Prelude.{◌≡◌, ◌≢◌, ℕ, List, Some, slice_get}
use Rattle.std.specs.List.{AllPairs}
use Rattle.css_model.specs.declared.sheet.Item.{Item}
use Rattle.css_model.specs.declared.sheet.Item.TheVariants.{Rule}
use Rattle.css_model.specs.Sheets.RuleParts.{RuleParts}

-- no two elements of a list have the same part
abbrev pub StandOnce : {X Y : Type 0} → (X → Y) → List X → Type 0
StandOnce part xs = AllPairs (λ x y. part x ≢ part y) xs

-- the rule of this number has each of its declarations once
abbrev pub DeclsStandOnce : List Item → ℕ → Type 0
DeclsStandOnce items n = (r : RuleParts) → slice_get items n ≡ Some (Rule r) → StandOnce (λ x. x.decl) r.decls
