use Rattle.std.proofs.Common.{◌≡◌, ◌∙◌, List, ap, sym, subst}
use Rattle.css_model.specs.declared.sheet.Item.{Item}
use Rattle.css_model.specs.Sheets.SheetParts.{SheetParts}
use Rattle.order_laws.specs.Edits.{Edit}
use Rattle.order_index.proofs.Afterwards.{step_at}
use Rattle.order_index.proofs.step_window.find_window.Goals as goal
use Rattle.order_index.specs.Afterwards.{edit_at}
use Rattle.step_laws.specs.Steps.{IsStep}
use Rattle.step_obstacles.specs.StepWindow.{IsWindowFor}

pub returns-clause-change : goal.returns-clause-change
returns-clause-change c =
    let step : IsStep c.args.sheet.now.items c.args.step.now (edit_at c.args.sheet.now.items c.args.step.now) = step_at c.args.sheet.now.items c.args.step.now c.requires.is_step in
    let items : c.deref.result.now ≡ c.args.sheet.now.items = c.deref.ensures.value ∙ ap (λ (s : SheetParts). s.items) c.sheet.view_is in
    let same : c.args.sheet.now.items ≡ c.window_of-window.result.items.now = sym (c.window_of-window.ensures.items ∙ items) in
    record {
      step = subst (λ (xs : List Item). IsStep xs c.args.step.now (edit_at xs c.args.step.now)) same step;
      window = subst (λ (xs : List Item). IsWindowFor xs c.args.step.now (edit_at xs c.args.step.now) c.window_of-window.result) same
          (subst (λ (xs : List Item). (e : Edit) → IsStep xs c.args.step.now e → IsWindowFor xs c.args.step.now e c.window_of-window.result) items c.window_of-window.ensures.window (edit_at c.args.sheet.now.items c.args.step.now) step);
    }
