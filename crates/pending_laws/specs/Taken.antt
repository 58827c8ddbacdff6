-- Which step a plan takes by what it holds, and when it ends.
use Rattle.std.specs.Prelude.{ℕ, ◌<◌, Bool, List, []}
use Rattle.std.specs.List.{Contains}
use Rattle.css_model.specs.declared.sheet.Item.{Item}
use Rattle.order_laws.specs.Edits.{Edit, edited}
use Rattle.plan_laws.specs.Cover.{Priority, IsSooner}
use Rattle.step_laws.specs.declared.step.Step.{Step}
use Rattle.step_laws.specs.Free.{Answered, IsFree}
use Rattle.step_laws.specs.Leading.{Takes, IsDone}
use Rattle.step_laws.specs.Sizes.{Saves}
use Rattle.step_laws.specs.Steps.{IsStep}
use Rattle.plan_laws.specs.Barrier.Hindering.{Watched, priority_of}
use Rattle.pending_laws.specs.Pending.{StepsArePending, AreQueued}

-- A free step that saves, and that comes no later than any candidate, is the one to take.
abbrev pub FreeStepIsTaken : Type 0
FreeStepIsTaken = (answers : List Answered) (source : List ℕ) (items : List Item) (waits : ℕ → Step → Bool) (watched : List Watched) (priorities : List Priority) →
    StepsArePending answers source items waits watched → AreQueued source items waits priorities →
    (k : Step) (e : Edit) (n : ℕ) → IsStep items k e → IsFree answers items e → 0 < n → Saves source items e n →
    ((t : Priority) → Contains priorities t → IsSooner t (priority_of n k) → ⊥) → Takes answers source items (edited e items)

-- Where no candidate is left, nothing is left to do.
abbrev pub NoPriorityIsLeft : Type 0
NoPriorityIsLeft = (answers : List Answered) (source : List ℕ) (items : List Item) (waits : ℕ → Step → Bool) (watched : List Watched) →
    StepsArePending answers source items waits watched → AreQueued source items waits [] → IsDone answers source items
