-- The last pairs of a sheet while their list is made.
use Rattle.std.specs.Prelude.{ℕ, Bool, true, not, if◌then◌else◌, ◌&&◌, List, ◌++◌, Option, Some, None}
use Rattle.std.specs.Borrow.{Bor}
use Rattle.std.specs.List.{filter, list_any}
use Rattle.css_model.specs.declared.sheet.Item.{Item}
use Rattle.css_model.specs.Cascade.Order.{Pair}
use Rattle.css_model.specs.Sheets.KeptItems.{is_kept}
use Rattle.order_laws.specs.Comparing.{is_later}
use Rattle.order_laws.specs.Members.{has_number, same_pair}
use Rattle.order_laws.specs.Places.{PlacedPair, pairs_of, has_pair}

-- whether an item counts by its number: all do, or these (own)
abbrev pub counted : Option (Bor (List ℕ)) → ℕ → Bool
counted None n = true
counted (Some numbers) n = has_number numbers.now n

-- whether a pair is not among these (own)
abbrev pub not_among : List PlacedPair → PlacedPair → Bool
not_among later p = not (has_pair later p.pair)

-- the last pairs of an item and those behind it, from the last pairs behind it (own)
abbrev pub last_with : (ℕ → Bool) → ℕ → Item → List PlacedPair → List PlacedPair
last_with counts number item later = if counts number then filter (not_among later) (pairs_of number item) ++ later else later

-- whether the first pair is in a list, and the second one at a later place (own)
abbrev pub before_in : List PlacedPair → Pair → Pair → Bool
before_in pairs p q = list_any (λ x. same_pair x.pair p && list_any (λ y. same_pair y.pair q && is_later y.place x.place) pairs) pairs

-- one for a kept item, and else nothing (own)
abbrev pub count_of : Item → ℕ
count_of item = if is_kept item then 1 else 0
