use Rattle.std.proofs.Common.{List, subst, sym}
use Rattle.css_model.specs.declared.sheet.Item.{Item}
use Rattle.saved_bytes.specs.Savings.{IsSaving}
use Rattle.step_savings.specs.Apart.{StepApart}
use Rattle.next_step.proofs.Looking.{past_barrier}
use Rattle.next_step.proofs.trying.put_priority.Goals as goal

pub returns-then-attempt-clause-covers : goal.returns-then-attempt-clause-covers
returns-then-attempt-clause-covers c = past_barrier c.args.view.now c.args.found.now c.args.attempt.now.step (c.requires.attempt.past c.if-attempt.true)

pub saved_if_apart-saving-requires-clause-apart : goal.saved_if_apart-saving-requires-clause-apart
saved_if_apart-saving-requires-clause-apart c = λ known. subst (λ (xs : List Item). StepApart xs c.args.attempt.now.step) (sym c.items.ensures) (c.requires.attempt.apart known)

pub put_saving-requires-clause-saving : goal.put_saving-requires-clause-saving
put_saving-requires-clause-saving c =
    subst (λ (xs : List Item). IsSaving c.args.view.now.source.now xs c.args.attempt.now.step c.saved_if_apart-saving.result) c.items.ensures c.saved_if_apart-saving.ensures
