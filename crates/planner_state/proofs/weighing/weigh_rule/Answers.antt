use Rattle.planner_state.proofs.Results.{if_four}
use Rattle.planner_state.proofs.Weighed.{put_down, put_stays}
use Rattle.planner_state.proofs.weighing.weigh_rule.Goals as goal

pub returns-clause-weighed : goal.returns-clause-weighed
returns-clause-weighed c =
    if_four c.put.result (λ heaviest once plain own. put_down c.args.weights.now c.put.new.self c.known_weight.result heaviest once plain c.args.source.now c.args.item_id c.args.rule.now own c.known_weight.ensures)
    c.put.ensures.heaviest c.put.ensures.once c.put.ensures.plain c.put.ensures.own

pub returns-clause-stay : goal.returns-clause-stay
returns-clause-stay c =
    if_four c.put.result (λ heaviest once plain others. put_stays c.args.weights.now c.put.new.self c.known_weight.result heaviest once plain c.args.item_id others) c.put.ensures.heaviest c.put.ensures.once c.put.ensures.plain c.put.ensures.others
