-- The first line counts each step that is listed as blocked.
use Rattle.std.proofs.Common.{◌≡◌, ◌⊎◌, inl, inr, ℕ, Bool, true, if◌then◌else◌, suc, ◌+◌, List, [], ◌∷◌, length, None, refl, sym, ap, ap₂, subst, ◌∙◌, arith, length-append}
use Rattle.std.specs.List.{AllByRecursion, AllPairs, AllZip, Contains, filter, flat_map}
use Rattle.std.proofs.lemmas.Bool.{false≢true}
use Rattle.std.proofs.lemmas.List.{length-map}
use Rattle.list_facts.proofs.Members.{Contains-cons_cases, Contains-here, Contains-nil, Contains-there}
use Rattle.blockers_laws.specs.Counted.{AreListed, EachBlockedStepIsCounted}
use Rattle.blockers_text.specs.Planned.{IsPlanned, Planned, all_weighed, stopped_in, weighed_in}
use Rattle.blockers_text.specs.Tallies.{counts, stopped_of, weighed}
use Rattle.cascade_laws.proofs.ForCallers.{exceeds-irreflexive, exceeds-transitive}
use Rattle.css_model.specs.declared.sheet.Item.{Item}
use Rattle.merge_plan.specs.Blocked.{BlockedStep, NamesBlocked}
use Rattle.overlap.specs.PairsParts as overlap
use Rattle.step_candidates.specs.Saving.{AreSavingSteps}
use Rattle.step_laws.specs.declared.step.Step.{Step}
use Rattle.step_laws.specs.Free.{Answered}
use Rattle.step_laws.specs.Steps.{StandsBefore, rank}

-- ---- Steps in their order

never_itself : (k : Step) → StandsBefore k k → ⊥
never_itself k before = false≢true (sym (exceeds-irreflexive (rank k)) ∙ before)

never_both : (j k : Step) → StandsBefore j k → StandsBefore k j → ⊥
never_both j k first second = never_itself j (exceeds-transitive (rank j) (rank k) (rank j) second first)

first_before : (j : Step) (ks : List Step) → AllPairs StandsBefore (j ∷ ks) → (k : Step) → Contains ks k → StandsBefore j k
first_before j ks up k (n, within, is) = subst (StandsBefore j) is (up 0 (suc n) k (omega arith) (omega (arith, within)))

others_up : (j : Step) (ks : List Step) → AllPairs StandsBefore (j ∷ ks) → AllPairs StandsBefore ks
others_up j ks up = λ m n d before within. up (suc m) (suc n) d (omega (arith, before)) (omega (arith, within))

first_same : (j k : Step) (js ks : List Step) → AllPairs StandsBefore (j ∷ js) → AllPairs StandsBefore (k ∷ ks) → (k ≡ j) ⊎ Contains ks j → (j ≡ k) ⊎ Contains js k → j ≡ k
first_same j k js ks up also (inl same) there = sym same
first_same j k js ks up also (inr here) (inl same) = same
first_same j k js ks up also (inr here) (inr there) = absurd (never_both j k (first_before j js up k there) (first_before k ks also j here))

-- what is after the first step of one list is after the same step of the other one
others_in : (j k : Step) (js ks : List Step) → AllPairs StandsBefore (j ∷ js) → j ≡ k → (i : Step) → Contains js i → (k ≡ i) ⊎ Contains ks i → Contains ks i
others_in j k js ks up same i there (inl e) = absurd (never_itself j (subst (StandsBefore j) (sym (same ∙ e)) (first_before j js up i there)))
others_in j k js ks up same i there (inr here) = here

-- steps in their order that are the same ones are equally many
equally_many : (js ks : List Step) → AllPairs StandsBefore js → AllPairs StandsBefore ks → ((i : Step) → Contains js i → Contains ks i) → ((i : Step) → Contains ks i → Contains js i) → length js ≡ length ks
equally_many [] [] up also forth back = refl
equally_many [] (k ∷ ks) up also forth back = absurd (Contains-nil k (back k (Contains-here k ks)))
equally_many (j ∷ js) [] up also forth back = absurd (Contains-nil j (forth j (Contains-here j js)))
equally_many (j ∷ js) (k ∷ ks) up also forth back =
    let same : j ≡ k = first_same j k js ks up also (Contains-cons_cases k ks j (forth j (Contains-here j js))) (Contains-cons_cases j js k (back k (Contains-here k ks))) in
    ap suc (equally_many js ks (others_up j js up) (others_up k ks also)
    (λ i there. others_in j k js ks up same i there (Contains-cons_cases k ks i (forth i (Contains-there j js i there))))
    (λ i there. others_in k j ks js also (sym same) i there (Contains-cons_cases j js i (back i (Contains-there k ks i there)))))

saving_many : (source : List ℕ) (items : List Item) (js ks : List Step) → AreSavingSteps source items js → AreSavingSteps source items ks → length js ≡ length ks
saving_many source items js ks a b = equally_many js ks a.ascends b.ascends (λ i h. (b.exact i).1 ((a.exact i).0 h)) (λ i h. (a.exact i).1 ((b.exact i).0 h))

-- ---- All levels

all_kept : {A : Type 0} (f : A → Bool) (xs : List A) → ((x : A) → f x ≡ true) → length (filter f xs) ≡ length xs
all_kept f [] all = refl
all_kept f (x ∷ xs) all = ap (λ (b : Bool). length (if b then x ∷ filter f xs else filter f xs)) (all x) ∙ ap suc (all_kept f xs all)

named_many : (answers : List overlap.Answered) (items : List Item) (ks : List Step) (found : List BlockedStep) → AllZip (NamesBlocked answers items) ks found → length ks ≡ length found
named_many answers items [] [] are = refl
named_many answers items [] (b ∷ found) are = absurd are
named_many answers items (k ∷ ks) [] are = absurd are
named_many answers items (k ∷ ks) (b ∷ found) are = ap suc (named_many answers items ks found are.1)

level_many : (answers : List Answered) (p : Planned) (blocked : List BlockedStep) → IsPlanned answers p → AreListed p blocked → length (weighed_in answers p) ≡ length blocked
level_many answers p blocked planned (others, (ks, saving, named)) =
    length-map (stopped_in answers p) weighed ∙ length-map p.steps (stopped_of answers p.level.source p.items)
    ∙ saving_many p.level.source p.items p.steps ks planned.saving saving ∙ named_many others p.items ks blocked named

levels_many : (answers : List Answered) (levels : List Planned) (found : List (List BlockedStep)) → AllByRecursion (IsPlanned answers) levels → AllZip AreListed levels found → length (all_weighed answers levels) ≡ length (flat_map (λ blocked. blocked) found)
levels_many answers [] [] planned listed = refl
levels_many answers [] (blocked ∷ found) planned listed = absurd listed
levels_many answers (p ∷ levels) [] planned listed = absurd listed
levels_many answers (p ∷ levels) (blocked ∷ found) planned listed =
    length-append (weighed_in answers p) (all_weighed answers levels)
    ∙ ap₂ (λ (m n : ℕ). m + n) (level_many answers p blocked planned.0 listed.0) (levels_many answers levels found planned.1 listed.1)
    ∙ sym (length-append blocked (flat_map (λ b. b) found))

pub each_is_counted : EachBlockedStepIsCounted
each_is_counted answers levels found planned listed = all_kept (counts None) (all_weighed answers levels) (λ w. refl) ∙ levels_many answers levels found planned listed
