use Rattle.planner_state.proofs.weighing.weigh_item.Goals as goal

pub weigh_rule-requires-clause-weighable : goal.weigh_rule-requires-clause-weighable
weigh_rule-requires-clause-weighable c = c.requires.weighable c.in-Rule.rule c.in-Rule.is
