-- The sheet after a step, where its text is within the limit.
use Rattle.std.proofs.Common.{◌≡◌, ◌≤◌, ℕ, List, length, sym, subst}
use Rattle.css_model.specs.declared.sheet.Item.{Item}
use Rattle.css_model.specs.Sheets.Limits.{max_bytes, max_items}
use Rattle.css_model.specs.Sheets.Sound.{IsSound}
use Rattle.order_laws.specs.Edits.{Edit, edited}
use Rattle.plan_laws.specs.Plannable.{IsPlannable}
use Rattle.step_laws.specs.declared.step.Step.{Step}
use Rattle.step_laws.specs.Left.{IsMadeOf, StepsMakeOf, EachIsMadeOfItself}
use Rattle.step_laws.specs.Sizes.{size}
use Rattle.step_laws.specs.Steps.{HasStep, IsStep}

made_after : StepsMakeOf → EachIsMadeOfItself → (source : List ℕ) (items new : List Item) (k : Step) → IsPlannable source items → HasStep items k →
    ((e : Edit) → IsStep items k e → new ≡ edited e items) → IsMadeOf source items new
made_after make itself source items new k plannable has applied =
    subst (IsMadeOf source items) (sym (applied has.0 has.1))
    (make source items items k has.0 has.1 (itself source items plannable.sound plannable.few_items))

pub sound_after : StepsMakeOf → EachIsMadeOfItself → (source : List ℕ) (items new : List Item) (k : Step) → IsPlannable source items → HasStep items k →
    ((e : Edit) → IsStep items k e → new ≡ edited e items) → IsSound source new
sound_after make itself source items new k plannable has applied = (made_after make itself source items new k plannable has applied).sound

pub few_after : StepsMakeOf → EachIsMadeOfItself → (source : List ℕ) (items new : List Item) (k : Step) → IsPlannable source items → HasStep items k →
    ((e : Edit) → IsStep items k e → new ≡ edited e items) → length new ≤ max_items
few_after make itself source items new k plannable has applied = (made_after make itself source items new k plannable has applied).few_items

pub plannable_after : StepsMakeOf → EachIsMadeOfItself → (source : List ℕ) (items new : List Item) (k : Step) → IsPlannable source items → HasStep items k →
    ((e : Edit) → IsStep items k e → new ≡ edited e items) → size source new ≤ max_bytes → IsPlannable source new
plannable_after make itself source items new k plannable has applied short =
    let made : IsMadeOf source items new = made_after make itself source items new k plannable has applied in
    record { read = plannable.read; sound = made.sound; few_items = made.few_items; short = short }
