-- Where nothing is told, nothing is found in any couple.
use Rattle.std.proofs.Common.{◌≡◌, ◌⊎◌, inl, inr, ℕ, ◌<◌, ◌≤◌, Bool, true, false, List, [], ◌∷◌, ◌++◌, length, Option, Some, None, refl, sym, ap, ap₂, ◌∙◌, subst, arith}
use Rattle.std.specs.Prelude.{◌||◌, ◌&&◌, nat_le}
use Rattle.std.specs.Cmp.{unsigned_Decides}
use Rattle.std.specs.List.{Contains, list_any}
use Rattle.std.proofs.lemmas.Bool.{or_left}
use Rattle.std.proofs.lemmas.Bool.Decides.{nat_tests}
use Rattle.std.proofs.lemmas.List.Elements.{Contains-append_left, Contains-append_right}
use Rattle.list_facts.proofs.Members.{Contains-here, Contains-nil, Contains-cons_cases}
use Rattle.order_laws.proofs.ForCallers.{any_from}
use Rattle.overlap.specs.PairsParts.{Answered}
use Rattle.sheet_members.specs.Compared.{Common}
use Rattle.turned_members.specs.declared.verdict.Verdict.{Verdict}
use Rattle.turned_members.specs.Telling.{AreTold, IsJudged, Steps, StepsBy, Told, covers, is_kept_in, is_passed, same_block, same_item, told_with}
use Rattle.turned_members.specs.Turned.{Couple}
use Rattle.diff_laws.specs.Told.{SomeOfEachItemIsTold, ToldNothingIsApart}

longer : {X : Type 0} (xs : List X) (x : X) → length xs ≤ length (xs ++ x ∷ [])
longer [] x = omega arith
longer (y ∷ xs) x = let h = longer xs x in omega (arith, h)

with_no_less : (told : List Told) (c : Couple) (found : Option Verdict) → length told ≤ length (told_with told c found)
with_no_less told c None = omega arith
with_no_less told c (Some v) = longer told (record { couple = c; verdict = v })

step_no_less : (b : Bool) (held : List Answered) (told : List Told) (c : Couple) (new : List Told) → StepsBy b held told c new → length told ≤ length new
step_no_less true held told c new s = subst (λ (xs : List Told). length told ≤ length xs) (sym s) (omega arith)
step_no_less false held told c new s = subst (λ (xs : List Told). length told ≤ length xs) (sym s.2) (with_no_less told c s.0)

no_less : (held : List Answered) (limit : ℕ) (told : List Told) (cs : List Couple) (new : List Told) → AreTold held limit told cs new → length told ≤ length new
no_less held limit told [] new h = subst (λ (xs : List Told). length told ≤ length xs) (sym h) (omega arith)
no_less held limit told (c ∷ cs) new h =
    let a = step_no_less (is_passed limit told c) held told c h.0 h.1 in
    let b = no_less held limit h.0 cs new h.2 in
    omega (arith, a, b)

nothing : (xs : List Told) → length xs ≤ 0 → xs ≡ []
nothing [] h = refl
nothing (x ∷ xs) h = absurd (omega (arith, h))

not_passed : (limit : ℕ) (c : Couple) → 0 < limit → is_passed limit [] c ≡ false
not_passed limit c some = ap (λ (b : Bool). b || list_any (λ (t : Told). covers t.couple c) []) (let h : nat_le limit 0 ≡ false = grind (arith, nat_tests, some) in h)

judged_step : (held : List Answered) (c : Couple) → StepsBy false held [] c [] → IsJudged held c None
judged_step held c s = which s.0 s.1 s.2
  where
    which : (found : Option Verdict) → IsJudged held c found → [] ≡ told_with [] c found → IsJudged held c None
    which None j e = j
    which (Some v) j e = absurd (let f = e in cc)

pub none_told : (held : List Answered) (limit : ℕ) → 0 < limit → (cs : List Couple) → AreTold held limit [] cs [] → (c : Couple) → Contains cs c → IsJudged held c None
none_told held limit some [] h c among = absurd (Contains-nil c among)
none_told held limit some (d ∷ cs) h c among = which h.0 (nothing h.0 (no_less held limit h.0 cs [] h.2)) h.1 h.2 (Contains-cons_cases d cs c among) (λ g. λ k. none_told held limit some cs g c k)
  where
    which : (next : List Told) → next ≡ [] → Steps held limit [] d next → AreTold held limit next cs [] → (d ≡ c) ⊎ Contains cs c → (AreTold held limit [] cs [] → Contains cs c → IsJudged held c None) → IsJudged held c None
    which next e step rest (inl same) later =
        subst (λ (x : Couple). IsJudged held x None) same
        (judged_step held d (subst (λ (b : Bool). StepsBy b held [] d []) (not_passed limit d some) (subst (λ (xs : List Told). Steps held limit [] d xs) e step)))
    which next e step rest (inr g) later = later (subst (λ (xs : List Told). AreTold held limit xs cs []) e rest) g

pub none_found : ToldNothingIsApart
none_found held limit couples some told c among = none_told held limit some couples told c among

-- ---- Where fewer are told than may be

-- what was told stays
with_kept : (told : List Told) (c : Couple) (found : Option Verdict) (t : Told) → Contains told t → Contains (told_with told c found) t
with_kept told c None t among = among
with_kept told c (Some v) t among = Contains-append_left told (record { couple = c; verdict = v } ∷ []) t among

step_kept : (b : Bool) (held : List Answered) (told : List Told) (c : Couple) (new : List Told) → StepsBy b held told c new → (t : Told) → Contains told t → Contains new t
step_kept true held told c new s t among = subst (λ (xs : List Told). Contains xs t) (sym s) among
step_kept false held told c new s t among = subst (λ (xs : List Told). Contains xs t) (sym s.2) (with_kept told c s.0 t among)

kept : (held : List Answered) (limit : ℕ) (told : List Told) (cs : List Couple) (new : List Told) → AreTold held limit told cs new → (t : Told) → Contains told t → Contains new t
kept held limit told [] new h t among = subst (λ (xs : List Told). Contains xs t) (sym h) among
kept held limit told (c ∷ cs) new h t among = kept held limit h.0 cs new h.2 t (step_kept (is_passed limit told c) held told c h.0 h.1 t among)

same_block_itself : (b : Option ℕ) → same_block b b ≡ true
same_block_itself None = refl
same_block_itself (Some n) = (unsigned_Decides n n).1 refl

same_item_itself : (c : Common) → same_item c c ≡ true
same_item_itself c = ap₂ (λ (a b : Bool). a && b) (same_block_itself c.mine.occurrence.layer.block) ((unsigned_Decides c.mine.occurrence.item c.mine.occurrence.item).1 refl)

covers_itself : (c : Couple) → covers c c ≡ true
covers_itself c = or_left (same_item c.first c.first && same_item c.second c.second) (is_kept_in c c.first || is_kept_in c c.second) (ap₂ (λ (a b : Bool). a && b) (same_item_itself c.first) (same_item_itself c.second))

-- a couple is apart or covered by one that is told
abbrev IsCovered : List Answered → List Told → Couple → Type 0
IsCovered held told c = IsJudged held c None ⊎ ((t : Told) × Contains told t × (covers t.couple c ≡ true))

covered_on : (held : List Answered) (limit : ℕ) (told : List Told) (cs : List Couple) (new : List Told) → AreTold held limit told cs new → (c : Couple) → IsCovered held told c → IsCovered held new c
covered_on held limit told cs new h c (inl j) = inl j
covered_on held limit told cs new h c (inr w) = inr (w.0, kept held limit told cs new h w.0 w.1, w.2)

last_told : (told : List Told) (t : Told) → Contains (told ++ t ∷ []) t
last_told told t = Contains-append_right told (t ∷ []) t (Contains-here t [])

-- after its step
step_covered : (b : Bool) (held : List Answered) (limit : ℕ) (told : List Told) (c : Couple) (new : List Told) → is_passed limit told c ≡ b → nat_le limit (length told) ≡ false → StepsBy b held told c new → IsCovered held new c
step_covered true held limit told c new passed few s =
    let w = any_from (λ (t : Told). covers t.couple c) told (sym (ap (λ (b : Bool). b || list_any (λ (t : Told). covers t.couple c) told) few) ∙ passed) in
    inr (w.0, subst (λ (xs : List Told). Contains xs w.0) (sym s) w.1, w.2)
step_covered false held limit told c new passed few s = which s.0 s.1 s.2
  where
    which : (found : Option Verdict) → IsJudged held c found → new ≡ told_with told c found → IsCovered held new c
    which None j e = inl j
    which (Some v) j e = inr (record { couple = c; verdict = v }, subst (λ (xs : List Told). Contains xs (record { couple = c; verdict = v })) (sym e) (last_told told (record { couple = c; verdict = v })), covers_itself c)

all_covered : (held : List Answered) (limit : ℕ) (told : List Told) (cs : List Couple) (new : List Told) → length new < limit → AreTold held limit told cs new → (c : Couple) → Contains cs c → IsCovered held new c
all_covered held limit told [] new few h c among = absurd (Contains-nil c among)
all_covered held limit told (d ∷ cs) new few h c among = which (Contains-cons_cases d cs c among) (λ g. all_covered held limit h.0 cs new few h.2 c g)
  where
    less : length told < limit
    less =
        let a = step_no_less (is_passed limit told d) held told d h.0 h.1 in
        let b = no_less held limit h.0 cs new h.2 in
        omega (arith, a, b, few)

    not_enough : (n m : ℕ) → n < m → nat_le m n ≡ false
    not_enough n m l = grind (arith, nat_tests, l)

    which : (d ≡ c) ⊎ Contains cs c → (Contains cs c → IsCovered held new c) → IsCovered held new c
    which (inl same) rest =
        subst (λ (x : Couple). IsCovered held new x) same
        (covered_on held limit h.0 cs new h.2 d (step_covered (is_passed limit told d) held limit told d h.0 refl (not_enough (length told) limit less) h.1))
    which (inr g) rest = rest g

pub some_told : SomeOfEachItemIsTold
some_told held limit couples told few h c among = all_covered held limit [] couples told few h c among
