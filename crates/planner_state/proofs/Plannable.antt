-- The sheet after the next step.
use Rattle.std.proofs.Common.{◌≡◌, ℕ, ◌+◌, ◌≤◌, List, length, sym, subst, arith}
use Rattle.css_model.specs.declared.sheet.Item.{Item}
use Rattle.css_model.specs.Sheets.Limits.{max_items}
use Rattle.css_model.specs.Sheets.Sound.{IsSound}
use Rattle.plan_laws.specs.Plannable.{IsPlannable}
use Rattle.order_laws.specs.Edits.{Edit, edited}
use Rattle.step_laws.specs.declared.step.Step.{Step}
use Rattle.step_laws.specs.Free.{Answered}
use Rattle.step_laws.specs.Leading.{Takes}
use Rattle.step_laws.specs.Left.{IsMadeOf, StepsMakeOf, EachIsMadeOfItself}
use Rattle.step_laws.specs.Sizes.{size, Saves}
use Rattle.step_laws.specs.Steps.{IsStep}

module _ (make : StepsMakeOf) (itself : EachIsMadeOfItself) (source : List ℕ) (items : List Item) (plannable : IsPlannable source items) where
  made : (k : Step) (e : Edit) → IsStep items k e → IsMadeOf source items (edited e items)
  made k e is = make source items items k e is (itself source items plannable.sound plannable.few_items)

  -- it is sound, and has no more items than a sheet may have
  pub sound_after : (k : Step) (e : Edit) → IsStep items k e → IsSound source (edited e items)
  sound_after k e is = (made k e is).sound

  pub few_after : (k : Step) (e : Edit) → IsStep items k e → length (edited e items) ≤ max_items
  few_after k e is = (made k e is).few_items

  -- and it can be planned
  pub plannable_after : (answers : List Answered) (new : List Item) → Takes answers source items new → IsPlannable source new
  plannable_after answers new (k, e, next, is) = subst (IsPlannable source) (sym is) (record {
    read = plannable.read;
    sound = (made k e next.step).sound;
    few_items = (made k e next.step).few_items;
    short = (let before = plannable.short in let saves = next.saves in omega (arith, before, saves));
  })

-- what the next step saves
pub saved_by : (answers : List Answered) (source : List ℕ) (items : List Item) (d : Edit) → Takes answers source items (edited d items) → (saved : ℕ) × Saves source items d saved
saved_by answers source items d (k, e, next, is) = (next.saving, subst (λ (new : List Item). size source items ≡ size source new + next.saving) (sym is) next.saves)

-- what a step made of a list, told of one that is the same
pub applied : (xs items new : List Item) (k : Step) → xs ≡ items → ((e : Edit) → IsStep xs k e → new ≡ edited e xs) → (e : Edit) → IsStep items k e → new ≡ edited e items
applied xs items new k same h e is = subst (λ (ys : List Item). IsStep ys k e → new ≡ edited e ys) same (h e) is
