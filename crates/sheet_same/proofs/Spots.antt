-- Which place is later, as a test and in words.
use Rattle.std.proofs.Common.{◌≡◌, ◌⊎◌, ◌<◌, ◌==◌, true, inl, inr, arith}
use Rattle.std.specs.Prelude.{◌&&◌, nat_lt}
use Rattle.std.proofs.lemmas.Bool.{and_parts, or_cases}
use Rattle.std.proofs.lemmas.Bool.Decides.{nat_tests, Decides-eqb}
use Rattle.css_model.specs.Cascade.Winner.{Place, IsLater}
use Rattle.sheet_same.specs.declared.standing.Spot.{Spot}
use Rattle.sheet_same.specs.Standing.{is_later}

abbrev pub spot_place : Spot → Place
spot_place x = record { item = x.item; position = x.decl }

pub later_is : (x y : Spot) → is_later x y ≡ true → IsLater (spot_place x) (spot_place y)
later_is x y h = which (or_cases (nat_lt y.item x.item) (x.item == y.item && nat_lt y.decl x.decl) h)
  where
    which : (nat_lt y.item x.item ≡ true) ⊎ ((x.item == y.item && nat_lt y.decl x.decl) ≡ true) → IsLater (spot_place x) (spot_place y)
    which (inl g) = inl (grind (arith, nat_tests))
    which (inr g) =
        let parts : ((x.item == y.item) ≡ true) × (nat_lt y.decl x.decl ≡ true) = and_parts (x.item == y.item) (nat_lt y.decl x.decl) g in
        let less : y.decl < x.decl = let l = parts.1 in grind (arith, nat_tests) in
        inr ((Decides-eqb x.item y.item).0 parts.0, less)

pub is_later_of : (x y : Spot) → IsLater (spot_place x) (spot_place y) → is_later x y ≡ true
is_later_of x y (inl less) = let l = less in grind (arith, nat_tests)
is_later_of x y (inr both) = let e = both.0 in let l = both.1 in grind (arith, nat_tests)
