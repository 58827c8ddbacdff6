-- The sheet after a step that makes it no longer can be planned.
use Rattle.std.proofs.Common.{◌≡◌, ◌≤◌, ℕ, List, length, sym, subst, arith}
use Rattle.std.specs.Prelude.{ℤ, pos, ◌-ℤ◌, ◌≤ℤ◌}
use Rattle.std.proofs.lemmas.Int.{ints}
use Rattle.css_model.specs.declared.sheet.Item.{Item}
use Rattle.css_model.specs.Sheets.Limits.{max_bytes}
use Rattle.merge_laws.specs.Reading.{ReadKeepsTheLimits}
use Rattle.order_laws.specs.Edits.{Edit, edited}
use Rattle.plan_laws.specs.Plannable.{IsPlannable}
use Rattle.step_laws.specs.declared.step.Step.{Step}
use Rattle.step_laws.specs.Left.{IsMadeOf, StepsMakeOf, EachIsMadeOfItself}
use Rattle.step_laws.specs.Sizes.{size}
use Rattle.step_laws.specs.Steps.{HasStep, IsStep}

-- the source is no longer than one may be
pub short_source : ReadKeepsTheLimits → (source : List ℕ) (items : List Item) → IsPlannable source items → length source ≤ max_bytes
short_source law source items plannable = (law source plannable.read.0 plannable.read.1).0

no_longer : (m n most : ℕ) (saved : ℤ) → saved ≡ pos m -ℤ pos n → pos 0 ≤ℤ saved → m ≤ most → n ≤ most
no_longer m n most saved is none_lost short = omega (arith, ints)

pub plannable_after : StepsMakeOf → EachIsMadeOfItself → (source : List ℕ) (items new : List Item) (k : Step) (saved : ℤ) → IsPlannable source items → HasStep items k →
    ((e : Edit) → IsStep items k e → saved ≡ pos (size source items) -ℤ pos (size source (edited e items))) → pos 0 ≤ℤ saved → ((e : Edit) → IsStep items k e → new ≡ edited e items) → IsPlannable source new
plannable_after make itself source items new k saved plannable has is none_lost applied =
    let made : IsMadeOf source items (edited has.0 items) = make source items items k has.0 has.1 (itself source items plannable.sound plannable.few_items) in
    subst (IsPlannable source) (sym (applied has.0 has.1))
    (record { read = plannable.read; sound = made.sound; few_items = made.few_items; short = no_longer (size source items) (size source (edited has.0 items)) max_bytes saved (is has.0 has.1) none_lost plannable.short })
