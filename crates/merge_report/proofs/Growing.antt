-- The steps that remain, while more is answered.
use Rattle.std.proofs.Common.{◌≡◌, ℕ, List, [], ◌∷◌, map, Option, Some, Result, Ok, Err, sym, ◌∙◌, ap, subst}
use Rattle.std.specs.Prelude.{IfOk}
use Rattle.std.specs.List.{AllZip}
use Rattle.css_model.specs.declared.sheet.Item.{Item}
use Rattle.css_model.specs.Text.Source.{text_at}
use Rattle.media_groups.specs.declared.media.Media.{Media}
use Rattle.merge_plan.proofs.ForCallers.{first_more}
use Rattle.merge_plan.specs.Blocked.{AreBlockedSteps, BlockedStep, NamesBlocked}
use Rattle.merge_report.specs.Remaining.{AreRemaining, AreRemainingInside, Entry, IsEntryOf, told_in}
use Rattle.overlap.specs.PairsParts.{Answered, PairsParts}
use Rattle.sheet_order.specs.Allowing.{Stays}
use Rattle.step_laws.specs.declared.step.Step.{Step}

module _ (p q : PairsParts) (stays : Stays p q) where
  entry_more : (items : List Item) (block : Option ℕ) (k : Step) (entry : Entry) → IsEntryOf p.answers items block k entry → IsEntryOf q.answers items block k entry
  entry_more items block k entry is = record { cause = is.cause; entry_is = is.entry_is; cause_is = λ e step. first_more p q stays _ is.cause (is.cause_is e step) }

  -- what remains stays so while more is answered
  pub remaining_more : (items : List Item) (block : Option ℕ) (ks : List Step) (found : List Entry) → AllZip (IsEntryOf p.answers items block) ks found → AllZip (IsEntryOf q.answers items block) ks found
  remaining_more items block [] [] are = tt
  remaining_more items block [] (entry ∷ found) are = absurd are
  remaining_more items block (k ∷ ks) [] are = absurd are
  remaining_more items block (k ∷ ks) (entry ∷ found) are = (entry_more items block k entry are.0, remaining_more items block ks found are.1)

  pub all_more : (source : List ℕ) (items : List Item) (block : Option ℕ) (found : List Entry) → AreRemaining p.answers source items block found → AreRemaining q.answers source items block found
  all_more source items block found (list, saving, are) = (list, saving, remaining_more items block list found are)

  -- also inside opened blocks
  pub inside_more : (source : List ℕ) (media : List Media) (found : List Entry) → AreRemainingInside p.answers source media found → AreRemainingInside q.answers source media found
  inside_more source [] found are = are
  inside_more source (m ∷ media) found (first, more, is, own, rest) =
      (first, more, is, all_more (text_at source m.body) m.sheet.items (Some m.item) first own, inside_more source media more rest)

-- ---- What was found of the steps of a sheet, or of a body

told_of_each : (answers : List Answered) (items : List Item) (block : Option ℕ) (ks : List Step) (found : List BlockedStep) → AllZip (NamesBlocked answers items) ks found →
    AllZip (IsEntryOf answers items block) ks (map (told_in block) found)
told_of_each answers items block [] [] are = tt
told_of_each answers items block [] (entry ∷ found) are = absurd are
told_of_each answers items block (k ∷ ks) [] are = absurd are
told_of_each answers items block (k ∷ ks) (entry ∷ found) are =
    (record { cause = are.0.cause; entry_is = ap (told_in block) are.0.entry_is; cause_is = are.0.cause_is }, told_of_each answers items block ks found are.1)

-- they are those that remain
pub told_remain : {X E : Type 0} (result : Result X E) (told : X → List Entry) (answers : List Answered) (source : List ℕ) (items : List Item) (block : Option ℕ) (found listed : List BlockedStep) → listed ≡ found → AreBlockedSteps answers source items found →
    IfOk result (λ x. told x ≡ map (told_in block) listed) → IfOk result (λ x. AreRemaining answers source items block (told x))
told_remain (Err e) told answers source items block found listed same are is = tt
told_remain (Ok x) told answers source items block found listed same (list, saving, are) is =
    (list, saving, subst (λ (xs : List Entry). AllZip (IsEntryOf answers items block) list xs) (sym (is ∙ ap (map (told_in block)) same)) (told_of_each answers items block list found are))
