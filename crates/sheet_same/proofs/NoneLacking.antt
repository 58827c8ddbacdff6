-- What is known where the first three tests find nothing.
use Rattle.std.proofs.Common.{◌≡◌, ℕ, zero, suc, Bool, true, false, List, [], ◌∷◌, Option, Some, None, refl, subst}
use Rattle.std.specs.Prelude.{if◌then◌else◌, slice_get}
use Rattle.std.specs.List.{AllByRecursion, Contains}
use Rattle.cascade_laws.proofs.ForCallers.{some-same}
use Rattle.list_facts.proofs.Members.{Contains-here, Contains-there}
use Rattle.order_laws.specs.Places.{PlacedPair, has_pair}
use Rattle.sheet_order.specs.declared.places.PairPlace.{PairPlace}
use Rattle.sheet_same.specs.declared.compared.Compared.TheVariants.{Missing, Extra, KeptItem}
use Rattle.sheet_same.specs.Compared.{first_of}
use Rattle.sheet_same.specs.Lacking.{lacking, first_found, first_lacking}
use Rattle.sheet_same.specs.Members.{Member, Paired}

pub at_has : {X : Type 0} (xs : List X) (i : ℕ) (x : X) → slice_get xs i ≡ Some x → Contains xs x
at_has [] i x at = absurd (let e : None ≡ Some x = at in cc)
at_has (y ∷ xs) zero x at = subst (λ z. Contains (y ∷ xs) z) (some-same at) (Contains-here y xs)
at_has (y ∷ xs) (suc i) x at = Contains-there y xs x (at_has xs i x at)

-- ---- No pair is lacking

pub both_none : (a b : Option PairPlace) → first_found a b ≡ None → (a ≡ None) × (b ≡ None)
both_none None b h = (refl, h)
both_none (Some place) b h = absurd (let e : Some place ≡ None = h in cc)

pub not_lacking : (pairs : List PlacedPair) (x : PlacedPair) → lacking pairs (Paired x) ≡ None → has_pair pairs x.pair ≡ true
not_lacking pairs x h = which (has_pair pairs x.pair) h
  where
    place : PairPlace
    place = record { item = x.place.item; sel = x.place.selector; decl = x.place.decl }

    which : (b : Bool) → (if b then None else Some place) ≡ None → b ≡ true
    which true e = refl
    which false e = absurd (let f : Some place ≡ None = e in cc)

pub none_lacking_each : (pairs : List PlacedPair) (ms : List Member) → first_lacking pairs ms ≡ None → AllByRecursion (λ m. lacking pairs m ≡ None) ms
none_lacking_each pairs [] h = tt
none_lacking_each pairs (m ∷ ms) h = let w : (lacking pairs m ≡ None) × (first_lacking pairs ms ≡ None) = both_none (lacking pairs m) (first_lacking pairs ms) h in (w.0, none_lacking_each pairs ms w.1)

-- ---- The first tests

pub record AllNone (a b : Option PairPlace) (c : Option ℕ) : Type 0 where
  pub first : a ≡ None
  pub second : b ≡ None
  pub third : c ≡ None

pub all_none : (a b : Option PairPlace) (c : Option ℕ) → first_of a b c ≡ None → AllNone a b c
all_none None None None h = record { first = refl; second = refl; third = refl }
all_none None None (Some n) h = absurd (let e : Some (KeptItem n) ≡ None = h in cc)
all_none None (Some place) c h = absurd (let e : Some (Extra place) ≡ None = h in cc)
all_none (Some place) b c h = absurd (let e : Some (Missing place) ≡ None = h in cc)
