use Rattle.std.proofs.Common.{◌≡◌, List, map, sym, subst}
use Rattle.std.specs.List.{AllByRecursion}
use Rattle.blockers_text.proofs.Planning.{entries_are, tells_step}
use Rattle.blockers_text.proofs.stopped.stopped_step.Goals as goal
use Rattle.blockers_text.specs.Later.{TellsEntries}
use Rattle.css_model.specs.declared.sheet.Item.{Item}
use Rattle.order_laws.specs.Edits.{Edit, edited}
use Rattle.order_laws.specs.Reversed.{reversed}
use Rattle.print_laws.specs.Profile.{HasSelectorsInProfile}
use Rattle.sheet_order.specs.declared.places.Reversed.{Reversed}
use Rattle.sheet_order.specs.Narrow.{CanBePlanned}
use Rattle.sheet_order.specs.Places.{entry_of}
use Rattle.step_laws.specs.Steps.{HasStep, IsStep}

pub reversed-requires-clause-is_step : goal.reversed-requires-clause-is_step
reversed-requires-clause-is_step c = subst (λ (items : List Item). HasStep items c.args.step.now) (sym c.requires.index) (c.requires.saves.edit, c.requires.saves.step)

pub reversed-requires-clause-planned : goal.reversed-requires-clause-planned
reversed-requires-clause-planned c = subst CanBePlanned (sym c.requires.index) (c.args.source.now, c.requires.plannable)

pub find_stopping-requires : goal.find_stopping-requires
find_stopping-requires c =
    let plannable = c.requires.plannable in
    subst (AllByRecursion HasSelectorsInProfile) (sym c.items_of.ensures)
    (c.selectors_are_in_the_profile.ensures.all c.args.source.now plannable.read.0 c.args.sheet.now.items plannable.read.1 plannable.sound)

pub returns-clause-tells : goal.returns-clause-tells
returns-clause-tells c = λ later is.
    let items = c.args.sheet.now.items in
    let k = c.args.step.now in
    let entries = c.in_ok-entries.entries.items in
    tells_step later c.args.source.now items k c.saved_by.result entries c.in_ok-by.by.items c.saved_by.ensures
    (entries_are items k entries (c.requires.saves.edit, c.requires.saves.step)
    (subst (λ (others : List Item). (e : Edit) → IsStep others k e → entries ≡ map entry_of (reversed others (edited e others) e.moved)) c.requires.index c.in_ok-entries.ensures))
    (subst (λ (others : List Item). TellsEntries later others entries c.in_ok-by.by.items) c.items_of.ensures
    (subst (λ (rs : List Reversed). TellsEntries later c.items_of.result.now rs c.in_ok-by.by.items) c.deref.ensures.value (c.in_ok-by.ensures.tells later is)))
