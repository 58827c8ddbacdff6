-- What it means that a step may be taken or not.
use Rattle.std.specs.Prelude.{Bool, true, false, List, map}
use Rattle.css_model.specs.declared.sheet.Item.{Item}
use Rattle.order_laws.specs.Edits.{Edit, edited}
use Rattle.order_laws.specs.Reversed.{reversed}
use Rattle.overlap.specs.declared.answer.Answer.{Answer}
use Rattle.overlap.specs.declared.answer.Answer.TheVariants.{Apart, Meet, Outside, Spent}
use Rattle.overlap.specs.PairsParts.{Answered}
use Rattle.step_laws.specs.declared.cause.BlockCause.{BlockCause}
use Rattle.step_laws.specs.declared.step.Step.{Step}
use Rattle.step_laws.specs.Free as steps
use Rattle.step_laws.specs.Steps.{IsStep}
use Rattle.sheet_order.specs.Allowing.{IsAllowed}
use Rattle.sheet_order.specs.declared.permitting.Allowed.TheVariants.{Free, Blocked}

-- whether an answer says that the selectors are apart (own)
abbrev pub is_apart : Answer → Bool
is_apart Apart = true
is_apart (Meet e) = false
is_apart (Outside reason number) = false
is_apart (Spent ledger) = false

-- an answer as the laws of steps see it (own)
abbrev pub answer_seen : Answered → steps.Answered
answer_seen e = record { first = e.left; second = e.right; is_apart = is_apart e.answer }

-- A step that may be taken is free by these answers.
abbrev pub AllowedStepsAreFree : Type 0
AllowedStepsAreFree = (answers : List Answered) (items : List Item) (k : Step) (e : Edit) → IsStep items k e →
    IsAllowed answers (reversed items (edited e items) e.moved) Free → steps.IsFree (map answer_seen answers) items e

-- One that may not be taken is blocked by them.
abbrev pub OtherStepsAreBlocked : Type 0
OtherStepsAreBlocked = (answers : List Answered) (items : List Item) (k : Step) (e : Edit) (cause : BlockCause) → IsStep items k e →
    IsAllowed answers (reversed items (edited e items) e.moved) (Blocked cause) → steps.IsBlocked (map answer_seen answers) items e
