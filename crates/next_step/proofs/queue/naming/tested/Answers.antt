use Rattle.std.proofs.Common.{◌≡◌, List, true, sym, subst}
use Rattle.css_model.specs.declared.sheet.Item.{Item}
use Rattle.saved_bytes.specs.Savings.{IsSaving}
use Rattle.step_savings.specs.Apart.{StepApart}
use Rattle.next_step.proofs.NamedSteps.{not_so_much}
use Rattle.next_step.proofs.queue.naming.tested.Goals as goal

pub saved_if_apart-requires-clause-apart : goal.saved_if_apart-requires-clause-apart
saved_if_apart-requires-clause-apart c = subst (λ (xs : List Item). c.is_known_apart-apart.result ≡ true → StepApart xs c.args.step) (sym c.items.ensures) c.is_known_apart-apart.ensures

pub returns-then-saved_if_apart-saving-clause-none : goal.returns-then-saved_if_apart-saving-clause-none
returns-then-saved_if_apart-saving-clause-none c =
    not_so_much c.args.source.now c.args.indexed.now.items c.args.step c.saved_if_apart.result c.args.saving
    (subst (λ (xs : List Item). IsSaving c.args.source.now xs c.args.step c.saved_if_apart.result) c.items.ensures c.saved_if_apart.ensures) c.if-saved_if_apart-saving.true
