-- What is told of entries of what a step reverses (own).
use Rattle.std.specs.Prelude.{◌≡◌, ℕ, List, Option, Some, None, slice_get}
use Rattle.css_model.specs.declared.sheet.Item.{Item}
use Rattle.order_index.specs.Afterwards.{after, edit_at}
use Rattle.order_index.specs.InTurn.{AllPass, IsFirstIn}
use Rattle.order_laws.specs.Places.{PlacedPair}
use Rattle.order_laws.specs.Reversed.{Other, AnotherPair, Reversal, distance, moved_pairs, other_place, reversed}
use Rattle.overlap.specs.PairsParts.{Answered}
use Rattle.sheet_order.specs.Allowing.{Judges}
use Rattle.sheet_order.specs.declared.permitting.Allowed.{Allowed}
use Rattle.sheet_order.specs.declared.permitting.Allowed.TheVariants.{Free, Blocked}
use Rattle.step_laws.specs.declared.cause.BlockCause.{BlockCause}
use Rattle.step_laws.specs.declared.step.Step.{Step}

-- the pairs that a step moves
abbrev pub moved_by : List Item → Step → List PlacedPair
moved_by items k = moved_pairs items (edit_at items k).moved

-- what a step reverses, in its order
abbrev pub reversed_by : List Item → Step → List Reversal
reversed_by items k = reversed items (after items k) (edit_at items k).moved

-- what is reversed is answered to be apart
abbrev pub Passes : List Answered → Reversal → Type 0
Passes answers r = Judges answers r None

-- this is the cause that it is not
abbrev pub Hinders : List Answered → BlockCause → Reversal → Type 0
Hinders answers cause r = Judges answers r (Some cause)

-- Each entry of a class is answered to be apart, or the first that is not gives the cause.
abbrev pub IsToldOf : List Answered → List Reversal → (Reversal → Type 0) → Allowed → Type 0
IsToldOf answers entries K Free = AllPass (Passes answers) entries K
IsToldOf answers entries K (Blocked cause) = IsFirstIn (Passes answers) (Hinders answers cause) entries K

-- ---- Classes of entries

-- how far the other's item is from that of the moved pair
abbrev pub far_of : Reversal → ℕ
far_of r = distance (other_place r.other).item r.moved.place.item

-- those so far
abbrev pub IsFar : ℕ → Reversal → Type 0
IsFar far r = far_of r ≡ far

-- those with the item of this number, so far
abbrev pub IsAt : ℕ → ℕ → Reversal → Type 0
IsAt n far r = ((other_place r.other).item ≡ n) × (far_of r ≡ far)

-- those with this other one, so far
abbrev pub IsWith : Other → ℕ → Reversal → Type 0
IsWith o far r = (r.other ≡ o) × (far_of r ≡ far)

-- that of the moved pair of this number
abbrev pub IsOfMoved : List PlacedPair → Other → ℕ → ℕ → Reversal → Type 0
IsOfMoved moved o far i r = (slice_get moved i ≡ Some r.moved) × IsWith o far r

-- those with the other pair of this number
abbrev pub IsWithPair : List PlacedPair → ℕ → ℕ → Reversal → Type 0
IsWithPair others far i r = (q : PlacedPair) × (slice_get others i ≡ Some q) × IsWith (AnotherPair q) far r

-- those with the item of this number, if there is one
abbrev pub IsAtSome : Option ℕ → ℕ → Reversal → Type 0
IsAtSome place far r = (place ≡ Some (other_place r.other).item) × (far_of r ≡ far)

-- those with the item of the place of this number
abbrev pub IsAtPlace : List (Option ℕ) → ℕ → ℕ → Reversal → Type 0
IsAtPlace places far i r = (slice_get places i ≡ Some (Some (other_place r.other).item)) × (far_of r ≡ far)
