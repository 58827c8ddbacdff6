-- What holds of a sheet where steps led.
use Rattle.std.proofs.Common.{◌≡◌, ℕ, zero, suc, ◌+◌, ◌<◌, ◌≤◌, List, refl, sym, ap, subst, arith}
use Rattle.css_model.specs.declared.sheet.Item.{Item}
use Rattle.plan_laws.proofs.ForCallers.{takes_shorter}
use Rattle.plan_laws.specs.Plannable.{IsPlannable}
use Rattle.step_laws.proofs.ForCallers.{made_of_itself, makes_of}
use Rattle.step_laws.specs.Free.{Answered}
use Rattle.step_laws.specs.Leading.{Leads, Takes}
use Rattle.step_laws.specs.Left.{IsMadeOf}
use Rattle.step_laws.specs.Sizes.{size}

module _ (answers : List Answered) (source : List ℕ) where
  taken_shorter : (items new : List Item) → Takes answers source items new → size source new < size source items
  taken_shorter items new takes = takes_shorter answers source source refl items new takes

  taken_plannable : (items new : List Item) → IsPlannable source items → Takes answers source items new → IsPlannable source new
  taken_plannable items new plannable takes =
      let made : IsMadeOf source items new =
      subst (IsMadeOf source items) (sym takes.3) (makes_of source items items takes.0 takes.1 takes.2.step (made_of_itself source items plannable.sound plannable.few_items)) in
      let shorter = taken_shorter items new takes in
      let short = plannable.short in
      record { read = plannable.read; sound = made.sound; few_items = made.few_items; short = omega (arith, shorter, short) }

  pub led_plannable : (steps : ℕ) (items new : List Item) → IsPlannable source items → Leads answers source steps items new → IsPlannable source new
  led_plannable zero items new plannable same = subst (IsPlannable source) same plannable
  led_plannable (suc steps) items new plannable (between, leads, takes) = taken_plannable between new (led_plannable steps items between plannable leads) takes

  pub led_shorter : (steps : ℕ) (items new : List Item) → Leads answers source steps items new → steps + size source new ≤ size source items
  led_shorter zero items new same = let e : size source items ≡ size source new = ap (size source) same in omega (arith, e)
  led_shorter (suc steps) items new (between, leads, takes) =
      let rest = led_shorter steps items between leads in
      let shorter = taken_shorter between new takes in
      omega (arith, rest, shorter)
