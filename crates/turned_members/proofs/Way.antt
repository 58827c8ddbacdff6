-- What is told on the way through common members.
use Rattle.std.proofs.Common.{◌≡◌, ◌≤◌, ◌-◌, ℕ, Bool, true, false, List, [], ◌∷◌, ◌++◌, length, get_or, take, drop, refl, sym, ap, ap₂, subst, ◌∙◌, arith}
use Rattle.std.specs.Prelude.{◌||◌, nat_le}
use Rattle.std.specs.List.{AllByRecursion}
use Rattle.std.proofs.lemmas.Bool.Decides.{nat_tests}
use Rattle.std.proofs.lemmas.List.{append-nil, append_assoc, take_rest}
use Rattle.overlap.specs.PairsParts.{PairsParts}
use Rattle.sheet_members.specs.Compared.{Common}
use Rattle.sheet_members.specs.Ready.{IsReadyCommon}
use Rattle.sheet_order.proofs.ForCallers.{stays_itself, stays_on}
use Rattle.sheet_order.specs.Allowing.{Stays}
use Rattle.turned_members.specs.Telling.{AreTold, Told}
use Rattle.turned_members.specs.Turned.{Couple, turned, turned_with}
use Rattle.turned_members.specs.Walking.{HaveFloors, TellsAfter, Walked, commons_of}
use Rattle.turned_members.proofs.Floors.{none_turned}
use Rattle.turned_members.proofs.Tells.{tells_full, tells_nothing}

-- the first of a list, and the others
pub cut_first : (rest : List Walked) (w : Walked) → 1 ≤ length rest → w ≡ get_or rest 0 w → rest ≡ w ∷ take (length rest - 1) (drop 1 rest)
cut_first [] w some is = absurd (omega (arith, some))
cut_first (x ∷ rest) w some is = ap₂ (λ (y : Walked) (ws : List Walked). y ∷ ws) (sym is) (sym (take_rest (x ∷ rest) 1))

-- Of all members those before the rest are passed. What the couples of the rest tell, and more, is what those of all tell.
pub record IsOnWay (couples : List Common → List Couple) (limit : ℕ) (first pairs : PairsParts) (old now : List Told) (all rest : List Walked) : Type 0 where
  pub stays : Stays first pairs
  pub floors : HaveFloors rest
  pub ready : AllByRecursion (λ w. IsReadyCommon w.common) rest
  pub tells : (q : PairsParts) → Stays pairs q → (more : List Couple) (new : List Told) → AreTold q.answers limit now (couples (commons_of rest) ++ more) new →
      AreTold q.answers limit old (couples (commons_of all) ++ more) new

pub way_begins : (couples : List Common → List Couple) (limit : ℕ) (pairs : PairsParts) (told : List Told) (all : List Walked) → HaveFloors all → AllByRecursion (λ w. IsReadyCommon w.common) all →
    IsOnWay couples limit pairs pairs told told all all
way_begins couples limit pairs told all floors ready = record {
  stays = stays_itself pairs;
  floors = floors;
  ready = ready;
  tells = λ q stays more new h. h;
}

pub first_ready : (rest others : List Walked) (w : Walked) → rest ≡ w ∷ others → AllByRecursion (λ x. IsReadyCommon x.common) rest → IsReadyCommon w.common × AllByRecursion (λ x. IsReadyCommon x.common) others
first_ready rest others w is ready = subst (AllByRecursion (λ x. IsReadyCommon x.common)) is ready

pub other_floors : (rest others : List Walked) (w : Walked) → rest ≡ w ∷ others → HaveFloors rest → HaveFloors others
other_floors rest others w is floors = (subst HaveFloors is floors).1

-- one more member is passed, of which these are the couples
pub way_goes_on : (couples : List Common → List Couple) (limit : ℕ) (first pairs next : PairsParts) (old now new : List Told) (all rest others : List Walked) (w : Walked) (xs : List Couple) →
    rest ≡ w ∷ others → couples (commons_of (w ∷ others)) ≡ xs ++ couples (commons_of others) → IsOnWay couples limit first pairs old now all rest → Stays pairs next → TellsAfter limit next now xs new →
    IsOnWay couples limit first next old new all others
way_goes_on couples limit first pairs next old now new all rest others w xs is parts way stays tells = record {
  stays = stays_on first pairs next way.stays stays;
  floors = other_floors rest others w is way.floors;
  ready = (first_ready rest others w is way.ready).1;
  tells = λ q later more result h.
      let same : couples (commons_of rest) ++ more ≡ xs ++ (couples (commons_of others) ++ more) =
      ap (λ (ws : List Walked). couples (commons_of ws) ++ more) is ∙ ap (λ (cs : List Couple). cs ++ more) parts ∙ append_assoc xs (couples (commons_of others)) more in
      way.tells q (stays_on pairs next q stays later) more result
      (subst (λ (cs : List Couple). AreTold q.answers limit now cs result) (sym same) (tells q later (couples (commons_of others) ++ more) result h));
}

-- the way ends where the couples of the rest tell nothing
pub way_ends : (couples : List Common → List Couple) (limit : ℕ) (first pairs : PairsParts) (old now : List Told) (all rest : List Walked) → IsOnWay couples limit first pairs old now all rest →
    TellsAfter limit pairs now (couples (commons_of rest)) now → TellsAfter limit pairs old (couples (commons_of all)) now
way_ends couples limit first pairs old now all rest way tells q stays more new h = way.tells q stays more new (tells q stays more new h)

no_more : (rest : List Walked) → length rest ≤ 0 → rest ≡ []
no_more [] none = refl
no_more (w ∷ rest) none = absurd (omega (arith, none))

pub way_is_gone : (couples : List Common → List Couple) (limit : ℕ) (first pairs : PairsParts) (old now : List Told) (all rest : List Walked) → couples [] ≡ [] → length rest ≤ 0 →
    IsOnWay couples limit first pairs old now all rest → TellsAfter limit pairs old (couples (commons_of all)) now
way_is_gone couples limit first pairs old now all rest nothing none way =
    way_ends couples limit first pairs old now all rest way
    (tells_nothing limit pairs now (couples (commons_of rest)) (ap (λ (ws : List Walked). couples (commons_of ws)) (no_more rest none) ∙ nothing))

is_below : (x y : ℕ) → nat_le x y ≡ true → x ≤ y
is_below x y h = grind (arith, nat_tests)

-- a member that comes before all the others in the second sheet too, or where so many couples are told, tells nothing with them
pub tells_no_more : (limit : ℕ) (pairs : PairsParts) (told : List Told) (c : Common) (rest others : List Walked) (w : Walked) → rest ≡ w ∷ others → HaveFloors rest →
    (nat_le c.there w.floor || nat_le limit (length told)) ≡ true → TellsAfter limit pairs told (turned_with c (commons_of rest)) told
tells_no_more limit pairs told c rest others w is floors over = which (nat_le c.there w.floor) refl over
  where
    which : (b : Bool) → nat_le c.there w.floor ≡ b → (b || nat_le limit (length told)) ≡ true → TellsAfter limit pairs told (turned_with c (commons_of rest)) told
    which true e h =
        tells_nothing limit pairs told (turned_with c (commons_of rest))
        (ap (λ (ws : List Walked). turned_with c (commons_of ws)) is ∙ none_turned c w.floor (w ∷ others) (is_below c.there w.floor e) (subst HaveFloors is floors).0)
    which false e h = tells_full limit pairs told (turned_with c (commons_of rest)) h

each_ready : (members : List Walked) → AllByRecursion IsReadyCommon (commons_of members) → AllByRecursion (λ w. IsReadyCommon w.common) members
each_ready [] h = tt
each_ready (w ∷ members) h = (h.0, each_ready members h.1)

pub walked_ready : (commons : List Common) (members : List Walked) → commons_of members ≡ commons → AllByRecursion IsReadyCommon commons → AllByRecursion (λ w. IsReadyCommon w.common) members
walked_ready commons members is ready = each_ready members (subst (AllByRecursion IsReadyCommon) (sym is) ready)

-- what is told after all couples, from nothing on
pub told_all : (limit : ℕ) (pairs : PairsParts) (commons : List Common) (members : List Walked) (old told : List Told) → commons_of members ≡ commons → old ≡ [] →
    TellsAfter limit pairs old (turned (commons_of members)) told → AreTold pairs.answers limit [] (turned commons) told
told_all limit pairs commons members old told is none tells =
    subst (λ (ts : List Told). AreTold pairs.answers limit ts (turned commons) told) none
    (subst (λ (cs : List Couple). AreTold pairs.answers limit old cs told) (append-nil (turned (commons_of members)) ∙ ap (λ (cs : List Common). turned cs) is)
    (tells pairs (stays_itself pairs) [] told refl))
