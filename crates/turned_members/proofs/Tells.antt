-- What is told after couples, one after the other.
use Rattle.std.proofs.Common.{◌≡◌, ℕ, Bool, true, false, cond, List, [], ◌∷◌, ◌++◌, map, length, Option, refl, sym, ap, subst, ◌∙◌}
use Rattle.std.specs.Prelude.{◌||◌, nat_le}
use Rattle.std.specs.List.{filter, list_any}
use Rattle.overlap.specs.PairsParts.{PairsParts}
use Rattle.sheet_members.specs.Compared.{Common}
use Rattle.sheet_members.specs.Occurrences.{Part, Paired, Kept}
use Rattle.sheet_order.specs.Allowing.{Stays}
use Rattle.turned_members.specs.declared.verdict.Verdict.{Verdict}
use Rattle.turned_members.specs.Telling.{AreJudged, AreTold, Steps, StepsBy, Told, covers, is_passed}
use Rattle.turned_members.specs.Turned.{Couple, couple, is_turned, turned_with}
use Rattle.turned_members.specs.Walking.{TellsAfter}

-- ---- More answers

judged_stay : (p q : PairsParts) → Stays p q → (x y : Part) (found : Option Verdict) → AreJudged p.answers x y found → AreJudged q.answers x y found
judged_stay p q stays (Paired s d) (Paired s' d') found h = (h.0, stays.held s.selector s'.selector h.0 h.1, h.2)
judged_stay p q stays (Paired s d) (Kept item) found h = h
judged_stay p q stays (Kept item) y found h = h

steps_by_stay : (p q : PairsParts) → Stays p q → (passed : Bool) (told : List Told) (c : Couple) (new : List Told) → StepsBy passed p.answers told c new → StepsBy passed q.answers told c new
steps_by_stay p q stays true told c new h = h
steps_by_stay p q stays false told c new h = (h.0, judged_stay p q stays c.first.mine.occurrence.part c.second.mine.occurrence.part h.0 h.1, h.2)

pub steps_stay : (p q : PairsParts) → Stays p q → (limit : ℕ) (told : List Told) (c : Couple) (new : List Told) → Steps p.answers limit told c new → Steps q.answers limit told c new
steps_stay p q stays limit told c new h = steps_by_stay p q stays (is_passed limit told c) told c new h

-- ---- One couple

with_one : (c x : Common) (b : Bool) → is_turned c x ≡ b → turned_with c (x ∷ []) ≡ cond b (couple c x ∷ []) []
with_one c x b h = ap (λ (z : Bool). map (couple c) (cond z (x ∷ []) [])) h ∙ which b
  where
    which : (z : Bool) → map (couple c) (cond z (x ∷ []) []) ≡ cond z (couple c x ∷ []) []
    which true = refl
    which false = refl

pub told_unturned : (limit : ℕ) (pairs : PairsParts) (told : List Told) (c x : Common) → false ≡ is_turned c x → TellsAfter limit pairs told (turned_with c (x ∷ [])) told
told_unturned limit pairs told c x unturned q stays more all h =
    subst (λ (cs : List Couple). AreTold q.answers limit told (cs ++ more) all) (sym (with_one c x false (sym unturned))) h

pub told_turned : (limit : ℕ) (pairs : PairsParts) (old new : List Told) (c x : Common) → true ≡ is_turned c x → Steps pairs.answers limit old (couple c x) new →
    TellsAfter limit pairs old (turned_with c (x ∷ [])) new
told_turned limit pairs old new c x is steps q stays more all h =
    subst (λ (cs : List Couple). AreTold q.answers limit old (cs ++ more) all) (sym (with_one c x true (sym is)))
    (new, steps_stay pairs q stays limit old (couple c x) new steps, h)

-- ---- More couples

pub with_more : (c x : Common) (xs : List Common) → turned_with c (x ∷ xs) ≡ turned_with c (x ∷ []) ++ turned_with c xs
with_more c x xs = which (is_turned c x)
  where
    which : (b : Bool) → map (couple c) (cond b (x ∷ filter (is_turned c) xs) (filter (is_turned c) xs)) ≡ map (couple c) (cond b (x ∷ []) []) ++ turned_with c xs
    which true = refl
    which false = refl

-- after the limit no more is told
full_tells : (q : PairsParts) (limit : ℕ) (told : List Told) (xs more : List Couple) (all : List Told) → nat_le limit (length told) ≡ true → AreTold q.answers limit told more all →
    AreTold q.answers limit told (xs ++ more) all
full_tells q limit told [] more all full h = h
full_tells q limit told (c ∷ xs) more all full h =
    (told, subst (λ (b : Bool). StepsBy (b || list_any (λ t. covers t.couple c) told) q.answers told c told) (sym full) refl, full_tells q limit told xs more all full h)

pub tells_full : (limit : ℕ) (pairs : PairsParts) (told : List Told) (xs : List Couple) → nat_le limit (length told) ≡ true → TellsAfter limit pairs told xs told
tells_full limit pairs told xs full q stays more all h = full_tells q limit told xs more all full h

pub tells_nothing : (limit : ℕ) (pairs : PairsParts) (told : List Told) (xs : List Couple) → xs ≡ [] → TellsAfter limit pairs told xs told
tells_nothing limit pairs told xs none q stays more all h = subst (λ (cs : List Couple). AreTold q.answers limit told (cs ++ more) all) (sym none) h
