-- The pairs that what a step moves may be reversed with, by their places (own).
use Rattle.std.specs.Prelude.{◌≡◌, ℕ, true, List, [], ◌∷◌, Some, slice_get}
use Rattle.std.specs.List.{AllByRecursion, Contains}
use Rattle.css_model.specs.Cascade.Winner.{exceeds}
use Rattle.css_model.specs.declared.sheet.Item.{Item}
use Rattle.css_model.specs.declared.sheet.Item.TheVariants.{Rule}
use Rattle.css_model.specs.Sheets.RuleParts.{RuleParts}
use Rattle.order_laws.specs.Places.{PlacedPair, last_pairs}

-- the place of a pair as numbers, the first that differs deciding
abbrev pub place_key : PlacedPair → List ℕ
place_key q = q.place.item ∷ q.place.selector ∷ q.place.decl ∷ []

-- the second of two pairs is at a later place
abbrev pub Later : PlacedPair → PlacedPair → Type 0
Later p q = exceeds (place_key q) (place_key p) ≡ true

-- places ascend
abbrev pub Rise : List PlacedPair → Type 0
Rise [] = Unit {0}
Rise (p ∷ ps) = AllByRecursion (Later p) ps × Rise ps

-- the last pairs of a sheet that are in the item of this number
pub record AreAt (items : List Item) (n : ℕ) (others : List PlacedPair) : Type 0 where
  pub rule : (r : RuleParts) × (slice_get items n ≡ Some (Rule r))
  pub there : AllByRecursion (λ q. Contains (last_pairs items) q × (q.place.item ≡ n)) others
  pub all : (q : PlacedPair) → Contains (last_pairs items) q → q.place.item ≡ n → Contains others q
  pub rise : Rise others
