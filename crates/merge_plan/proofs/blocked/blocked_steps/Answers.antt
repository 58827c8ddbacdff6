use Rattle.std.proofs.Common.{List, ◌∙◌, sym, map, subst}
use Rattle.css_model.specs.declared.sheet.Item.{Item}
use Rattle.merge_plan.proofs.Blocking.{saving_blocked}
use Rattle.merge_plan.proofs.blocked.blocked_steps.Goals as goal
use Rattle.merge_plan.specs.Blocked.{AreBlocked}
use Rattle.sheet_order.specs.Laws.{answer_seen}
use Rattle.step_laws.specs.declared.step.Step.{Step}

pub blocked_of-requires-clause-blocked : goal.blocked_of-requires-clause-blocked
blocked_of-requires-clause-blocked c =
    subst (λ (items : List Item). AreBlocked (map answer_seen c.args.pairs.now.answers) items c.saving_steps.result.now) (sym c.in_ok-index.ensures)
    (subst (λ (list : List Step). AreBlocked (map answer_seen c.args.pairs.now.answers) c.args.sheet.now.items list) (sym c.saving_steps.ensures)
    (saving_blocked c.steps_are_one_edit.ensures (map answer_seen c.args.pairs.now.answers) c.args.source.now c.args.sheet.now.items c.in_ok-candidates.candidates c.in_ok-candidates.ensures c.requires.done))
