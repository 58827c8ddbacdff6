use Rattle.std.proofs.Common.{map, sym, subst, ◌∙◌}
use Rattle.std.specs.Prelude.{IfOk}
use Rattle.merge_plan.proofs.planning.merged_sheet.Goals as goal
use Rattle.overlap.specs.PairsParts.{PairsParts}
use Rattle.sheet_order.specs.Laws.{answer_seen}
use Rattle.step_laws.specs.Free.{AreAmong}
use Rattle.step_laws.specs.Leading.{IsDone}

-- what was held is among what the obstacles hold, which is held then
pub returns-clause-asked : goal.returns-clause-asked
returns-clause-asked c =
    subst (λ (p : PairsParts). AreAmong (map answer_seen c.args.pairs.now.answers) (map answer_seen p.answers)) (sym c.into_pairs.ensures)
    (subst (λ (p : PairsParts). AreAmong (map answer_seen p.answers) (map answer_seen c.merge-merged.new.obstacles.answers)) (c.new-obstacles.ensures ∙ c.replace-held.ensures.value) c.merge-merged.ensures.asked)

pub returns-clause-done : goal.returns-clause-done
returns-clause-done c =
    subst (λ (p : PairsParts). IfOk c.merge-merged.result (λ m. IsDone (map answer_seen p.answers) c.args.source.now m.sheet.items)) (sym c.into_pairs.ensures) c.merge-merged.ensures.done
