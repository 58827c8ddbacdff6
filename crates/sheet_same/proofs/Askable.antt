-- The members of a sheet that is read may be asked for.
use Rattle.std.proofs.Common.{◌≡◌, ◌⊎◌, ℕ, suc, ◌+◌, ◌<◌, Bool, true, false, List, [], ◌∷◌, ◌++◌, length, map, subst, inl, inr, arith}
use Rattle.std.specs.Prelude.{Ok, ◌^◌, if◌then◌else◌}
use Rattle.std.specs.List.{AllByRecursion, Contains}
use Rattle.css_model.specs.declared.sheet.Item.{Item}
use Rattle.css_model.specs.declared.sheet.Item.TheVariants.{Rule, KeptRule, KeptBlock}
use Rattle.css_model.specs.Sheets.Sheet.{sheet_of}
use Rattle.list_facts.proofs.Members.{Contains-nil, Contains-cons_cases}
use Rattle.merge_laws.specs.Reading.{ReadIsPlannable}
use Rattle.order_laws.specs.Places.{PlacedPair, StandsLast, last_pairs, ListedStandsLast}
use Rattle.order_laws.specs.Reversed.{kept_from}
use Rattle.plan_laws.specs.Plannable.{IsPlannable}
use Rattle.print_laws.specs.Profile.{HasSelectorsInProfile, SelectorsAreInProfile}
use Rattle.selector_laws.specs.Limits.{KeepsLimits, ReadSelectorsKeepTheLimits}
use Rattle.sheet_order.proofs.ForCallers.{all_members, pair_in_profile, planned_limited, last_limited, narrow_place}
use Rattle.step_laws.specs.Left.{PartsAreFew}
use Rattle.sheet_same.specs.Judging.{IsAskable, IsAskablePair}
use Rattle.sheet_same.specs.Members.{Member, Paired, KeptAt, is_behind, put_in, in_order, kept_member, members}
use Rattle.sheet_same.specs.Standing.{standing_of}

-- ---- What holds of all

pub all_append : {X : Type 0} (P : X → Type 0) (xs ys : List X) → AllByRecursion P xs → AllByRecursion P ys → AllByRecursion P (xs ++ ys)
all_append P [] ys h g = g
all_append P (x ∷ xs) ys h g = (h.0, all_append P xs ys h.1 g)

pub all_map : {X Y : Type 0} (P : Y → Type 0) (f : X → Y) (xs : List X) → AllByRecursion (λ x. P (f x)) xs → AllByRecursion P (map f xs)
all_map P f [] h = tt
all_map P f (x ∷ xs) h = (h.0, all_map P f xs h.1)

pub put_all : (P : Member → Type 0) (m : Member) (xs : List Member) → P m → AllByRecursion P xs → AllByRecursion P (put_in m xs)
put_all P m [] h g = (h, tt)
put_all P m (x ∷ xs) h g = which (is_behind m x) (put_all P m xs h g.1)
  where
    which : (b : Bool) → AllByRecursion P (put_in m xs) → AllByRecursion P (if b then x ∷ put_in m xs else m ∷ x ∷ xs)
    which true ih = (g.0, ih)
    which false ih = (h, g)

pub order_all : (P : Member → Type 0) (xs : List Member) → AllByRecursion P xs → AllByRecursion P (in_order xs)
order_all P [] h = tt
order_all P (x ∷ xs) h = put_all P x (in_order xs) h.0 (order_all P xs h.1)

of_all : {X : Type 0} (P : X → Type 0) (xs : List X) (x : X) → AllByRecursion P xs → Contains xs x → P x
of_all P [] x all h = absurd (Contains-nil x h)
of_all {X = X} P (y ∷ xs) x all h = which (Contains-cons_cases y xs x h) (λ g. of_all P xs x all.1 g)
  where
    which : (y ≡ x) ⊎ Contains xs x → (Contains xs x → P x) → P x
    which (inl e) rest = subst P e all.0
    which (inr g) rest = rest g

-- ---- Members

kept_askable : (n : ℕ) (items : List Item) → n + length items < 2 ^ 32 → AllByRecursion IsAskable (map kept_member (kept_from n items))
kept_askable n [] h = tt
kept_askable n (Rule r ∷ items) h = kept_askable (suc n) items (omega (arith, h))
kept_askable n (KeptRule k ∷ items) h = (omega (arith, h), kept_askable (suc n) items (omega (arith, h)))
kept_askable n (KeptBlock piece ∷ items) h = (omega (arith, h), kept_askable (suc n) items (omega (arith, h)))

pub few_items : ReadIsPlannable → (source : List ℕ) (items : List Item) → sheet_of source ≡ Ok items → length items < 2 ^ 32
few_items plannable source items read = let p : IsPlannable source items = plannable source items read in let f = p.few_items in omega (arith, f)

pairs_askable : ReadIsPlannable → SelectorsAreInProfile → ReadSelectorsKeepTheLimits → ListedStandsLast → PartsAreFew → (source : List ℕ) (items : List Item) → sheet_of source ≡ Ok items → AllByRecursion IsAskable (map Paired (last_pairs items))
pairs_askable plannable profile limits listed few source items read = all_map IsAskable Paired (last_pairs items) (all_members IsAskablePair (last_pairs items) askable)
  where
    planned : IsPlannable source items
    planned = plannable source items read

    all : AllByRecursion HasSelectorsInProfile items
    all = profile source planned.read.0 items planned.read.1 planned.sound

    limited : (x : PlacedPair) → Contains (last_pairs items) x → KeepsLimits x.pair.selector
    limited x h = of_all (λ q. KeepsLimits q.pair.selector) (last_pairs items) x (last_limited listed (λ n. true) items (planned_limited limits items (source, planned))) h

    askable : (x : PlacedPair) → Contains (last_pairs items) x → IsAskablePair x
    askable x h =
        let stands : StandsLast (λ n. true) items x = (listed (λ n. true) items x).0 h in
        record {
          narrow = narrow_place few (λ n. true) items x (source, planned) stands;
          profile = pair_in_profile (λ n. true) items x all stands;
          limits = limited x h;
        }

pub members_askable : ReadIsPlannable → SelectorsAreInProfile → ReadSelectorsKeepTheLimits → ListedStandsLast → PartsAreFew → (source : List ℕ) (items : List Item) → sheet_of source ≡ Ok items → AllByRecursion IsAskable (members items)
members_askable plannable profile limits listed few source items read =
    order_all IsAskable (map Paired (last_pairs items) ++ map kept_member (kept_from 0 items))
    (all_append IsAskable (map Paired (last_pairs items)) (map kept_member (kept_from 0 items))
    (pairs_askable plannable profile limits listed few source items read)
    (kept_askable 0 items (let few : length items < 2 ^ 32 = few_items plannable source items read in omega (arith, few))))

-- ---- Members with their places

pub standings_askable : (s t : List Item) (ms : List Member) → AllByRecursion IsAskable ms → AllByRecursion (λ x. IsAskable x.member) (map (standing_of s t) ms)
standings_askable s t [] all = tt
standings_askable s t (Paired x ∷ ms) all = (all.0, standings_askable s t ms all.1)
standings_askable s t (KeptAt n item ∷ ms) all = (all.0, standings_askable s t ms all.1)
