-- What a plan holds of the steps of a sheet, with a test in place of a list of what waits.
use Rattle.std.specs.Prelude.{◌≡◌, ◌⊎◌, ℕ, ◌<◌, Bool, true, List}
use Rattle.std.specs.List.{Contains}
use Rattle.css_model.specs.declared.sheet.Item.{Item}
use Rattle.css_model.specs.Sheets.Sound.{IsSound}
use Rattle.order_laws.specs.Edits.{Edit, edited}
use Rattle.plan_laws.specs.Cover.{Priority, IsSooner, IsCovered}
use Rattle.step_laws.specs.declared.step.Step.{Step}
use Rattle.step_laws.specs.Free.{Answered, AreAmong}
use Rattle.step_laws.specs.Sizes.{Saves}
use Rattle.step_laws.specs.Steps.{IsStep, first_item, last_item}
use Rattle.plan_laws.specs.Barrier.Hindering.{Hindrance, Hinders, HasRoom, IsUntouched, Watched, priority_of}
use Rattle.plan_laws.specs.Barrier.Renumbering.{new_number, renumbered}
use Rattle.plan_laws.specs.Barrier.SideBySide.{HasCome}
use Rattle.pending_laws.specs.Behind.{GoesOn}

-- each step of a sheet that saves waits, or is on the watch list with what blocks it
abbrev pub StepsArePending : List Answered → List ℕ → List Item → (ℕ → Step → Bool) → List Watched → Type 0
StepsArePending answers source items waits watched = (k : Step) (e : Edit) (n : ℕ) → IsStep items k e → Saves source items e n → 0 < n →
    (waits n k ≡ true) ⊎ ((h : Hindrance) × Contains watched (record { priority = priority_of n k; by = h }) × Hinders answers items e h)

-- What is pending is carried over to the sheet after an edit. Of the steps that go on, those that waited wait at
-- their new numbers, and those that were on the watch list still are, or wait where the edit moves a pair of what
-- blocks them. And each step of an item that the edit did not leave waits.
pub record IsCarriedOver (source : List ℕ) (items : List Item) (d : Edit) (waits : ℕ → Step → Bool) (watched : List Watched) (waits' : ℕ → Step → Bool) (watched' : List Watched) : Type 0 where
  pub queue : (k : Step) (e : Edit) (n : ℕ) → GoesOn items d k e → Saves source items e n → 0 < n → waits n k ≡ true → waits' n (renumbered (new_number d items) k) ≡ true
  pub blocked : (k : Step) (e : Edit) (n : ℕ) (h : Hindrance) → GoesOn items d k e → Saves source items e n → 0 < n → Contains watched (record { priority = priority_of n k; by = h }) →
      (IsUntouched d h × Contains watched' (record { priority = priority_of n (renumbered (new_number d items) k); by = h })) ⊎ (waits' n (renumbered (new_number d items) k) ≡ true)
  pub made : (k' : Step) (e' : Edit) (n : ℕ) → IsStep (edited d items) k' e' → Saves source (edited d items) e' n → 0 < n →
      (HasCome d items (first_item k') × HasCome d items (last_item k')) ⊎ (waits' n k' ≡ true)

-- Where the steps of a sheet are pending, so are those after a step, once what is pending is carried over.
abbrev pub StepsPendingGoOn : Type 0
StepsPendingGoOn = (answers : List Answered) (source : List ℕ) (items : List Item) (j : Step) (d : Edit) (waits : ℕ → Step → Bool) (watched : List Watched) (waits' : ℕ → Step → Bool) (watched' : List Watched) →
    IsStep items j d → IsSound source items → HasRoom items → IsCarriedOver source items d waits watched waits' watched' →
    StepsArePending answers source items waits watched → StepsArePending answers source (edited d items) waits' watched'

-- They are pending while answers come in, and while what waited is on the watch list with what blocks it.
abbrev pub StepsAreWatched : Type 0
StepsAreWatched = (answers answers' : List Answered) (source : List ℕ) (items : List Item) (waits : ℕ → Step → Bool) (watched : List Watched) (waits' : ℕ → Step → Bool) (watched' : List Watched) →
    AreAmong answers answers' → ((a : Watched) → Contains watched a → Contains watched' a) →
    ((k : Step) (e : Edit) (n : ℕ) → IsStep items k e → Saves source items e n → 0 < n → waits n k ≡ true →
    (waits' n k ≡ true) ⊎ ((h : Hindrance) × Contains watched' (record { priority = priority_of n k; by = h }) × Hinders answers' items e h)) →
    StepsArePending answers source items waits watched → StepsArePending answers' source items waits' watched'

-- no step that waits comes before each of some priorities
abbrev pub AreQueued : List ℕ → List Item → (ℕ → Step → Bool) → List Priority → Type 0
AreQueued source items waits priorities = (k : Step) (e : Edit) (n : ℕ) → IsStep items k e → Saves source items e n → 0 < n → waits n k ≡ true →
    (t : Priority) × Contains priorities t × (IsSooner (priority_of n k) t → ⊥)

-- Where the steps are pending, and candidates stand for those that wait, the candidates cover them.
abbrev pub PendingStepsAreCovered : Type 0
PendingStepsAreCovered = (answers : List Answered) (source : List ℕ) (items : List Item) (waits : ℕ → Step → Bool) (watched : List Watched) (priorities : List Priority) →
    StepsArePending answers source items waits watched → AreQueued source items waits priorities → IsCovered answers source items priorities
