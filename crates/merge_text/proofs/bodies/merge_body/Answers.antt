use Rattle.merge_text.proofs.bodies.merge_body.Goals as goal
use Rattle.merge_text.proofs.PlannedBodies.{body_enough, body_left, body_plannable, body_planned}
use Rattle.planner.specs.Working.{spent_of}

pub merge_within-requires : goal.merge_within-requires
merge_within-requires g c = record {
  plannable = body_plannable c.read_is_plannable.ensures c.args.source.now c.text.result.now c.args.block.now c.in_ok-sheet.sheet c.requires.block c.text.ensures c.in_ok-sheet.ensures;
}

pub returns-clause-plan : goal.returns-clause-plan
returns-clause-plan g c =
    body_planned c.merge_within.result (λ m. m.taken) (λ m. m.sheet) (λ m. spent_of c.args.work m.spent) (g.O.Obstacles.answers c.merge_within.new.obstacles) c.args.source.now c.text.result.now c.args.block.now c.in_ok-sheet.sheet
    c.text.ensures c.in_ok-sheet.ensures c.merge_within.ensures.leads c.merge_within.ensures.ended

pub returns-clause-enough : goal.returns-clause-enough
returns-clause-enough g c =
    body_enough c.merge_within.result (λ m. m.taken) (λ m. m.sheet) (λ m. spent_of c.args.work m.spent) (g.O.Obstacles.answers c.merge_within.new.obstacles) c.text.result.now c.merge_within.ensures.ended

pub returns-then-is_over-clause-plan : goal.returns-then-is_over-clause-plan
returns-then-is_over-clause-plan g c =
    body_left c.read_keeps_the_limits.ensures c.args.work c.args.spent (g.O.Obstacles.answers c.args.obstacles.now) c.args.source.now c.args.block.now c.in_ok-sheet.sheet c.requires.block c.in_ok-sheet.ensures
    (c.is_over.ensures.over c.if-is_over.true)
