use Rattle.std.proofs.Common.{ℕ, List, subst}
use Rattle.std.specs.Prelude.{IfOk}
use Rattle.planner.proofs.merging.merge_within.Goals as goal
use Rattle.planner.specs.Working.{HasEnded, IsWithin, spent_of}

pub returns-clause-ended : goal.returns-clause-ended
returns-clause-ended g c =
    subst (λ (source : List ℕ). IfOk c.merge_by.result (λ m. HasEnded (spent_of c.args.work m.spent) (g.O.Obstacles.answers c.merge_by.new.obstacles) source m.taken m.sheet.items)) c.in_ok-lengths.ensures c.merge_by.ensures.ended

pub returns-clause-within : goal.returns-clause-within
returns-clause-within g c =
    subst (λ (source : List ℕ). IfOk c.merge_by.result (λ m. IsWithin c.args.work (g.O.Obstacles.answers c.merge_by.new.obstacles) source m.taken c.args.sheet.items)) c.in_ok-lengths.ensures c.merge_by.ensures.within
