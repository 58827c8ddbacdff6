-- The couples of members that weigh and whose order differs in two sheets.
use Rattle.std.specs.Prelude.{Bool, false, ◌||◌, List, [], ◌∷◌, ◌++◌, map}
use Rattle.std.specs.List.{filter}
use Rattle.css_model.specs.declared.sheet.Item.{Item}
use Rattle.order_laws.specs.Reversed.{is_reversed, is_reversed_kept}
use Rattle.sheet_same.specs.Members.{Member, Paired, KeptAt, members}

-- whether two members weigh, and one comes last before the other in one of two sheets alone (own)
abbrev pub is_turned : List Item → List Item → Member → Member → Bool
is_turned s t (Paired x) (Paired y) = is_reversed s t x.pair y.pair || is_reversed s t y.pair x.pair
is_turned s t (Paired x) (KeptAt n item) = is_reversed_kept s t x.pair (n, item)
is_turned s t (KeptAt n item) (Paired y) = is_reversed_kept s t y.pair (n, item)
is_turned s t (KeptAt n item) (KeptAt m other) = false

-- two members, of which one is earlier in the first sheet
pub record Couple : Type 0 where
  pub earlier : Member
  pub later : Member

abbrev pub couple : Member → Member → Couple
couple m x = record { earlier = m; later = x }

-- the couples of these members, by the earlier one and then by the later one (own)
abbrev pub turned_from : List Item → List Item → List Member → List Couple
turned_from s t [] = []
turned_from s t (m ∷ rest) = map (couple m) (filter (is_turned s t m) rest) ++ turned_from s t rest

-- The couples of members of the first sheet whose order differs in the second one (own).
abbrev pub turned : List Item → List Item → List Couple
turned s t = turned_from s t (members s)
