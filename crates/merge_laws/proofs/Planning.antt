-- What a source that is read gives to a plan, and where steps lead from there.
use Rattle.std.proofs.Common.{◌≡◌, ℕ, zero, suc, ◌+◌, ◌<◌, ◌≤◌, nat_eq, Bool, true, false, cond, List, ◌∷◌, length, Ok, refl, sym, ap, subst, arith}
use Rattle.std.specs.List.{flat_map, starts_with}
use Rattle.css_model.specs.declared.sheet.Item.{Item}
use Rattle.css_model.specs.Sheets.Limits.{max_bytes, max_items}
use Rattle.css_model.specs.Sheets.Printed.{printed_item, behind_mark, printed}
use Rattle.css_model.specs.Sheets.Sheet.{sheet_of}
use Rattle.css_model.specs.Sheets.Sound.{IsSound}
use Rattle.css_model.specs.Text.Characters.{space}
use Rattle.css_model.specs.Text.Tokens.{byte_order_mark}
use Rattle.merge_laws.specs.Merged.{LeadingMakesOf}
use Rattle.merge_laws.specs.Reading.{ReadIsPlannable}
use Rattle.merge_laws.proofs.Limits.{within_limits}
use Rattle.order_laws.specs.Edits.{edited}
use Rattle.plan_laws.specs.Plannable.{IsPlannable}
use Rattle.plan_laws.proofs.ForCallers.{takes_shorter}
use Rattle.print_laws.specs.Printing.{PrintedIsNoLonger}
use Rattle.sheet_laws.specs.Reading.{ReadIsSound}
use Rattle.step_laws.specs.Free.{Answered}
use Rattle.step_laws.specs.Leading.{Leads, Takes}
use Rattle.step_laws.specs.Left.{IsMadeOf, StepsMakeOf, EachIsMadeOfItself}
use Rattle.step_laws.specs.Sizes.{size}

-- a space more at most
marked : (text : List ℕ) → (length text ≤ length (behind_mark text)) × (length (behind_mark text) ≤ length text + 1)
marked text = which (starts_with nat_eq text byte_order_mark)
  where
    which : (b : Bool) → (length text ≤ length (cond b (space ∷ text) text)) × (length (cond b (space ∷ text) text) ≤ length text + 1)
    which true = (omega arith, omega arith)
    which false = (omega arith, omega arith)

pub printed_size : (source : List ℕ) (items : List Item) → (size source items ≤ length (printed source items)) × (length (printed source items) ≤ size source items + 1)
printed_size source items = marked (flat_map (printed_item source) items)

pub read_plannable : ReadIsSound → PrintedIsNoLonger → ReadIsPlannable
read_plannable sound no_longer source items read =
    let limits = within_limits source items read in
    let size_ = (printed_size source items).0 in
    let printed_ = no_longer source items read in
    let most = limits.0 in
    record { read = (items, read); sound = sound source items read; few_items = limits.1; short = omega (arith, size_, printed_, most) }

pub leads_make : EachIsMadeOfItself → StepsMakeOf → LeadingMakesOf
leads_make itself make answers source zero old new sound few leads = subst (IsMadeOf source old) leads (itself source old sound few)
leads_make itself make answers source (suc steps) old new sound few (between, leads, (k, e, next, is)) =
    subst (IsMadeOf source old) (sym is) (make source old between k e next.step (leads_make itself make answers source steps old between sound few leads))

-- steps make a sheet shorter, each by a byte at least
pub leads_shorter : (answers : List Answered) (source : List ℕ) (steps : ℕ) (old new : List Item) → Leads answers source steps old new → size source new + steps ≤ size source old
leads_shorter answers source zero old new leads = let same : size source old ≡ size source new = ap (size source) leads in omega (arith, same)
leads_shorter answers source (suc steps) old new (between, leads, takes) =
    let rest : size source between + steps ≤ size source old = leads_shorter answers source steps old between leads in
    let less : size source new < size source between = takes_shorter answers source source refl between new takes in
    omega (arith, rest, less)
