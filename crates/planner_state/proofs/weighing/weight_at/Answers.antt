use Rattle.std.proofs.Common.{sym, subst}
use Rattle.step_queue.specs.RuleWeights.{WeighsAtMost}
use Rattle.planner_state.proofs.Weighed.{item_id_at}
use Rattle.planner_state.proofs.weighing.weight_at.Goals as goal

pub returns : goal.returns
returns c = λ source r weighed item_at. subst (WeighsAtMost source r) (sym c.under.ensures) (weighed.each c.args.number c.mark.result.item_id r item_at (item_id_at c.args.indexed.now.marks c.args.number c.mark.result c.mark.ensures))
