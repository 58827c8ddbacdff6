-- Places that no later member comes before.
use Rattle.std.proofs.Common.{◌≡◌, ◌≤◌, ◌<◌, ℕ, zero, suc, ◌+◌, Bool, false, cond, List, [], ◌∷◌, ◌++◌, length, get_or, take, map, reverse, refl, sym, ap, subst, ◌∙◌, arith}
use Rattle.std.specs.Prelude.{◌&&◌, nat_lt}
use Rattle.std.specs.List.{AllByRecursion, filter}
use Rattle.std.proofs.lemmas.Bool.Decides.{nat_tests}
use Rattle.std.proofs.lemmas.List.{append-nil, append_assoc, reverse-append, take_all, take_more}
use Rattle.sheet_members.specs.Compared.{Common}
use Rattle.sheet_members.specs.Ready.{IsReadyCommon}
use Rattle.turned_members.specs.Turned.{couple, is_turned, turned_with}
use Rattle.turned_members.specs.Walking.{AreFrom, HaveFloors, Walked, commons_of}
use Rattle.turned_members.specs.Weighing.{commons_weigh}

lower : (floor less : ℕ) (ws : List Walked) → less ≤ floor → AreFrom floor ws → AreFrom less ws
lower floor less [] le h = tt
lower floor less (w ∷ ws) le h = (let up = h.0 in omega (arith, le, up), lower floor less ws le h.1)

not_below : (x y : ℕ) → y ≤ x → nat_lt x y ≡ false
not_below x y le = grind (arith, nat_tests)

-- none of those that come no earlier is turned with a member
pub none_turned : (c : Common) (floor : ℕ) (ws : List Walked) → c.there ≤ floor → AreFrom floor ws → turned_with c (commons_of ws) ≡ []
none_turned c floor [] le h = refl
none_turned c floor (w ∷ ws) le h =
    let up = h.0 in
    let not : nat_lt w.common.there c.there ≡ false = not_below w.common.there c.there (omega (arith, le, up)) in
    ap (λ (b : Bool). map (couple c) (cond (b && commons_weigh c w.common) (w.common ∷ filter (is_turned c) (commons_of ws)) (filter (is_turned c) (commons_of ws)))) not
    ∙ none_turned c floor ws le h.1

-- ---- From the last member to the first

-- all members but so many first ones are found, with their floors, from the last one to the first
pub record AreBehind (all : List Common) (left floor : ℕ) (found : List Walked) : Type 0 where
  pub commons : take left all ++ commons_of (reverse found) ≡ all
  pub floors : HaveFloors (reverse found)
  pub from : AreFrom floor (reverse found)

pub none_behind : (all : List Common) (left floor : ℕ) → left ≡ length all → AreBehind all left floor []
none_behind all left floor whole = record {
  commons = append-nil (take left all) ∙ take_all left all (omega (arith, whole));
  floors = tt;
  from = tt;
}

pub ready_at : (all : List Common) (k : ℕ) (c : Common) → AllByRecursion IsReadyCommon all → k < length all → c ≡ get_or all k c → IsReadyCommon c
ready_at [] k c ready within is = absurd (omega (arith, within))
ready_at (x ∷ all) zero c ready within is = subst IsReadyCommon (sym is) ready.0
ready_at (x ∷ all) (suc k) c ready within is = ready_at all k c ready.1 (omega (arith, within)) is

floors_next : (found more : List Walked) (w : Walked) (behind : ℕ) → more ≡ found ++ w ∷ [] → w.floor ≤ w.common.there → w.floor ≤ behind → AreFrom behind (reverse found) → HaveFloors (reverse found) →
    HaveFloors (reverse more) × AreFrom w.floor (reverse more)
floors_next found more w behind pushed first second from floors =
    let turned_round : reverse more ≡ w ∷ reverse found = ap (λ (ws : List Walked). reverse ws) pushed ∙ reverse-append found (w ∷ []) in
    let all : AreFrom w.floor (w ∷ reverse found) = (first, lower behind w.floor (reverse found) second from) in
    (subst HaveFloors (sym turned_round) (all, floors), subst (AreFrom w.floor) (sym turned_round) all)

commons_next : (found more : List Walked) (w : Walked) (before rest all : List Common) → more ≡ found ++ w ∷ [] → rest ≡ before ++ w.common ∷ [] → rest ++ commons_of (reverse found) ≡ all →
    before ++ commons_of (reverse more) ≡ all
commons_next found more w before rest all pushed last is =
    ap (λ (ws : List Walked). before ++ commons_of ws) (ap (λ (ws : List Walked). reverse ws) pushed ∙ reverse-append found (w ∷ []))
    ∙ sym (append_assoc before (w.common ∷ []) (commons_of (reverse found)))
    ∙ ap (λ (cs : List Common). cs ++ commons_of (reverse found)) (sym last)
    ∙ is

-- one more member
pub behind_next : (all : List Common) (n k : ℕ) (c : Common) (floor : ℕ) (found more : List Walked) (w : Walked) → n ≡ k + 1 → k < length all → c ≡ get_or all k c → w.common ≡ c →
    w.floor ≤ c.there → w.floor ≤ floor → more ≡ found ++ w ∷ [] → AreBehind all n floor found → AreBehind all k w.floor more
behind_next all n k c floor found more w next within is common_is first second pushed h =
    let here : w.floor ≤ w.common.there = subst (λ (d : Common). w.floor ≤ d.there) (sym common_is) first in
    let last : take n all ≡ take k all ++ w.common ∷ [] =
    ap (λ (m : ℕ). take m all) next ∙ take_more all k c within ∙ ap (λ (d : Common). take k all ++ d ∷ []) (sym is ∙ sym common_is) in
    let both = floors_next found more w floor pushed here second h.from h.floors in
    record { commons = commons_next found more w (take k all) (take n all) all pushed last h.commons; floors = both.0; from = both.1 }

pub all_behind : (all : List Common) (left floor : ℕ) (found : List Walked) → left ≤ 0 → AreBehind all left floor found → commons_of (reverse found) ≡ all
all_behind all left floor found none h =
    let nothing : left ≡ 0 = omega (arith, none) in
    ap (λ (n : ℕ). take n all ++ commons_of (reverse found)) (sym nothing) ∙ h.commons
