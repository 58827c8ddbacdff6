-- Steps that go on after another one, and what hinders them there.
use Rattle.std.specs.Prelude.{List}
use Rattle.css_model.specs.declared.sheet.Item.{Item}
use Rattle.order_laws.specs.Edits.{Edit, edited}
use Rattle.step_laws.specs.declared.step.Step.{Step}
use Rattle.step_laws.specs.Free.{Answered}
use Rattle.step_laws.specs.Steps.{IsStep}
use Rattle.plan_laws.specs.Barrier.Hindering.{Hindrance, Hinders, HasRoom, IsUntouched}
use Rattle.plan_laws.specs.Barrier.Renumbering.{new_number, renumbered, renumbered_edit, IsOfOthers, AreSideBySide}

-- A step of items that an edit leaves goes on: it is one after the edit, too.
pub record GoesOn (items : List Item) (d : Edit) (k : Step) (e : Edit) : Type 0 where
  pub before : IsStep items k e
  pub others : IsOfOthers d k
  pub behind : IsStep (edited d items) (renumbered (new_number d items) k) (renumbered_edit (new_number d items) e)

-- Where a step goes on after another one, the two are side by side.
abbrev pub GoingOnIsSideBySide : Type 0
GoingOnIsSideBySide = (items : List Item) (j : Step) (d : Edit) (k : Step) (e : Edit) → HasRoom items → IsStep items j d → GoesOn items d k e → AreSideBySide items d e

-- What hinders a step that goes on hinders it after the other one, too, which moves no pair of it.
abbrev pub HinderedGoesOn : Type 0
HinderedGoesOn = (answers : List Answered) (items : List Item) (j : Step) (d : Edit) (k : Step) (e : Edit) → HasRoom items → IsStep items j d → GoesOn items d k e →
    (h : Hindrance) → IsUntouched d h → Hinders answers items e h → Hinders answers (edited d items) (renumbered_edit (new_number d items) e) h
