-- The pairs and the kept items of a sheet, in one order.
use Rattle.std.specs.Prelude.{ℕ, Bool, if◌then◌else◌, List, [], ◌∷◌, ◌++◌, map}
use Rattle.css_model.specs.declared.sheet.Item.{Item}
use Rattle.css_model.specs.Cascade.Winner.{exceeds}
use Rattle.order_laws.specs.Places.{PlacedPair, last_pairs}
use Rattle.order_laws.specs.Reversed.{kept_from}

-- a pair at its last place, or the kept item of this number, counted from 0 among all items (own)
pub data Member : Type 0 where
  Paired : PlacedPair → Member
  KeptAt : ℕ → Item → Member

-- The numbers by which members ascend, the first that differs deciding (own): the item, the declaration, the selector.
abbrev pub member_key : Member → List ℕ
member_key (Paired x) = x.place.item ∷ x.place.decl ∷ x.place.selector ∷ []
member_key (KeptAt n item) = n ∷ 0 ∷ 0 ∷ []

-- whether the first member stands behind the second one (own)
abbrev pub is_behind : Member → Member → Bool
is_behind m x = exceeds (member_key m) (member_key x)

-- puts one into a list that ascends (own)
abbrev pub put_in : Member → List Member → List Member
put_in m [] = m ∷ []
put_in m (x ∷ rest) = if is_behind m x then x ∷ put_in m rest else m ∷ x ∷ rest

abbrev pub in_order : List Member → List Member
in_order [] = []
in_order (m ∷ rest) = put_in m (in_order rest)

abbrev pub kept_member : ℕ × Item → Member
kept_member (n, item) = KeptAt n item

-- The members of a sheet (own): its pairs, each where it stands last, and its kept items, in their order.
abbrev pub members : List Item → List Member
members items = in_order (map Paired (last_pairs items) ++ map kept_member (kept_from 0 items))
