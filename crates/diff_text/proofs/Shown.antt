-- The examples of what is told keep the rules.
use Rattle.std.proofs.Common.{◌≡◌, ℕ, Bool, true, false, List, [], ◌∷◌, ◌++◌, Option, Some, None, refl, sym, ap, subst}
use Rattle.std.proofs.Math.Logic.{∥∥₁_map}
use Rattle.std.specs.List.{AllByRecursion}
use Rattle.overlap.specs.declared.answer.Answer.{Answer}
use Rattle.overlap.specs.declared.answer.Answer.TheVariants as answers
use Rattle.overlap.specs.PairsParts.{PairsParts}
use Rattle.overlap.specs.Remembered.{IsAnswered, IsTrueList}
use Rattle.sheet_members.specs.Occurrences.{Part, Paired, Kept}
use Rattle.css_model.specs.Documents.SelectorParts.{SelectorParts}
use Rattle.turned_members.specs.declared.verdict.Verdict.{Verdict}
use Rattle.turned_members.specs.declared.verdict.Verdict.TheVariants as verdicts
use Rattle.turned_members.specs.Telling.{AreJudged, AreTold, IsAnswer, IsJudged, StepsBy, Told, is_passed, told_with, verdict_by}
use Rattle.turned_members.specs.Turned.{Couple}
use Rattle.why_text.proofs.ForCallers.{meeting_shown}
use Rattle.diff_text.specs.Shown.{IsShownIn}

module _ (pairs : PairsParts) (all_true : ∥ IsTrueList pairs ∥₁) where
  abbrev Shown : Told → Type 0
  Shown t = ∥ IsShownIn t.verdict ∥₁

  by_answer : (x y : SelectorParts) (answer : Answer) → IsAnswered pairs.answers x y answer → (v : Verdict) → verdict_by answer ≡ Some v → ∥ IsShownIn v ∥₁
  by_answer x y answers.Apart held v is = absurd (let none : ⊥ = cc in none)
  by_answer x y (answers.Meet e) held v is =
      let same : verdicts.Meet e ≡ v = cc in
      subst (λ (w : Verdict). ∥ IsShownIn w ∥₁) same (∥∥₁_map (meeting_shown pairs x y e all_true held) (λ shows. shows.rules))
  by_answer x y (answers.Outside reason number) held v is =
      let same : verdicts.Outside reason ≡ v = cc in
      subst (λ (w : Verdict). ∥ IsShownIn w ∥₁) same ∣ tt ∣₁
  by_answer x y (answers.Spent ledger) held v is =
      let same : verdicts.Spent ≡ v = cc in
      subst (λ (w : Verdict). ∥ IsShownIn w ∥₁) same ∣ tt ∣₁

  of_kept : (v : Verdict) → Some v ≡ Some verdicts.Kept → ∥ IsShownIn v ∥₁
  of_kept v is = let same : verdicts.Kept ≡ v = cc in subst (λ (w : Verdict). ∥ IsShownIn w ∥₁) same ∣ tt ∣₁

  by_parts : (x y : Part) (v : Verdict) → AreJudged pairs.answers x y (Some v) → ∥ IsShownIn v ∥₁
  by_parts (Paired s d) (Paired s' d') v h = by_answer s.selector s'.selector h.0 h.1 v h.2
  by_parts (Paired s d) (Kept item) v h = of_kept v h
  by_parts (Kept item) y v h = of_kept v h

  appended : (told : List Told) (t : Told) → AllByRecursion Shown told → Shown t → AllByRecursion Shown (told ++ t ∷ [])
  appended [] t h g = (g, tt)
  appended (x ∷ told) t h g = (h.0, appended told t h.1 g)

  by_found : (told : List Told) (c : Couple) (found : Option Verdict) → IsJudged pairs.answers c found → AllByRecursion Shown told → AllByRecursion Shown (told_with told c found)
  by_found told c None judged h = h
  by_found told c (Some v) judged h = appended told (record { couple = c; verdict = v }) h (by_parts c.first.mine.occurrence.part c.second.mine.occurrence.part v judged)

  by_step : (passed : Bool) (told : List Told) (c : Couple) (new : List Told) → StepsBy passed pairs.answers told c new → AllByRecursion Shown told → AllByRecursion Shown new
  by_step true told c new steps h = subst (AllByRecursion Shown) (sym steps) h
  by_step false told c new steps h = subst (AllByRecursion Shown) (sym steps.2) (by_found told c steps.0 steps.1 h)

  by_steps : (limit : ℕ) (told : List Told) (cs : List Couple) (all : List Told) → AreTold pairs.answers limit told cs all → AllByRecursion Shown told → AllByRecursion Shown all
  by_steps limit told [] all is h = subst (AllByRecursion Shown) (sym is) h
  by_steps limit told (c ∷ cs) all is h = by_steps limit is.0 cs all is.2 (by_step (is_passed limit told c) told c is.0 is.1 h)

  pub all_shown : (limit : ℕ) (cs : List Couple) (all : List Told) → AreTold pairs.answers limit [] cs all → AllByRecursion (λ t. ∥ IsShownIn t.verdict ∥₁) all
  all_shown limit cs all is = by_steps limit [] cs all is tt
