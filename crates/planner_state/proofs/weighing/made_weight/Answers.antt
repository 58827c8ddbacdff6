use Rattle.std.proofs.Common.{ℕ, ap, sym, subst}
use Rattle.step_queue.specs.declared.rule_weights.RuleWeight.{RuleWeight}
use Rattle.planner_state.specs.Weighing.{MakesAtMost}
use Rattle.planner_state.proofs.Made.{by_decls_either, by_selectors_either}
use Rattle.planner_state.proofs.weighing.made_weight.Goals as goal

pub returns-in-JoinSelUp : goal.returns-in-JoinSelUp
returns-in-JoinSelUp c =
    subst (λ (w : RuleWeight). MakesAtMost c.args.indexed.now c.args.weights.now c.args.step.now w) (sym c.joined_by_selectors.ensures)
    (by_selectors_either c.args.indexed.now c.args.weights.now c.args.step.now c.items_of-first.result.0 c.items_of-first.result.1 c.weight_at-upper.result c.weight_at-lower.result c.in-JoinSelUp.is (ap (λ (p : ℕ × ℕ). p.0) c.items_of-first.ensures) (ap (λ (p : ℕ × ℕ). p.1) c.items_of-first.ensures) c.weight_at-upper.ensures c.weight_at-lower.ensures)

pub returns-in-JoinDeclUp : goal.returns-in-JoinDeclUp
returns-in-JoinDeclUp c =
    subst (λ (w : RuleWeight). MakesAtMost c.args.indexed.now c.args.weights.now c.args.step.now w) (sym c.joined_by_decls.ensures)
    (by_decls_either c.args.indexed.now c.args.weights.now c.args.step.now c.items_of-first.result.0 c.items_of-first.result.1 c.weight_at-upper.result c.weight_at-lower.result c.in-JoinDeclUp.is (ap (λ (p : ℕ × ℕ). p.0) c.items_of-first.ensures) (ap (λ (p : ℕ × ℕ). p.1) c.items_of-first.ensures) c.weight_at-upper.ensures c.weight_at-lower.ensures)
