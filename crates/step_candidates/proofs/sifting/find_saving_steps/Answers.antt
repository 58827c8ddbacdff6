use Rattle.std.proofs.Common.{ℕ, List, ap, subst, ◌∙◌}
use Rattle.std.specs.Prelude.{IfOk}
use Rattle.css_model.specs.Sheets.SheetParts.{SheetParts}
use Rattle.step_candidates.specs.Saving.{AreSavingSteps}
use Rattle.step_candidates.proofs.AddedSteps.{found_in_order, made_ready}
use Rattle.step_candidates.proofs.sifting.find_saving_steps.Goals as goal

pub try_rules-requires : goal.try_rules-requires
try_rules-requires c =
    made_ready c.in_ok-tables.tables c.args.source.now c.in_ok-lengths.lengths c.args.sheet.now.items c.deref.result.now c.deref-2.result.now c.in_ok-numbers.numbers.items c.deref-3.result.now
    c.in_ok-lengths.ensures (c.deref.ensures.value ∙ ap (λ (s : SheetParts). s.items) c.sheet.view_is) (c.deref-2.ensures.value ∙ ap (λ (s : SheetParts). s.items) c.sheet.view_is)
    c.in_ok-numbers.ensures c.deref-3.ensures.value c.in_ok-tables.ensures.covers c.requires.sound c.requires.few_items c.requires.short

pub returns : goal.returns
returns c =
    subst (λ (source : List ℕ). IfOk c.list.result (λ found. AreSavingSteps source c.args.sheet.now.items found.items)) c.in_ok-lengths.ensures
    (found_in_order c.in_ok-lengths.lengths c.args.sheet.now.items c.list.result (λ list. list.items) c.new-found.result c.try_rules.new.found c.new-found.ensures c.in_ok-try_rules.ensures c.list.ensures.same c.list.ensures.ascends)
