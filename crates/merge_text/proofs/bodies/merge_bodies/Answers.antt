use Rattle.std.proofs.Common.{◌≡◌, ◌+◌, ◌-◌, ◌∷◌, List, length, take, drop, ◌∙◌, sym, subst, arith}
use Rattle.std.specs.List.{AllByRecursion}
use Rattle.css_model.specs.Sheets.SheetParts.{SheetParts}
use Rattle.planner.specs.Working.{spent_of}
use Rattle.media_groups.specs.Laws.{IsBlockOf}
use Rattle.merge_text.proofs.bodies.merge_bodies.Goals as goal
use Rattle.merge_text.proofs.PlannedBodies.{ArePlannedTo, cut_media, left_spent, planned_fit, planned_on, whole_spent, whole_stays}

pub merge_body-requires-clause-enough : goal.merge_body-requires-clause-enough
merge_body-requires-clause-enough g c =
    left_spent c.args.work c.left-room.result c.bodies.spent (g.O.Obstacles.answers c.bodies.obstacles) c.bodies.taken c.left-room.ensures c.bodies.invariant.enough

pub overflow_add-taken : goal.overflow_add-taken
overflow_add-taken g c =
    let rest = c.bodies.rest.now in
    let cut : rest ≡ c.block-item.result ∷ take (length rest - 1) (drop 1 rest) = cut_media rest c.block-item.result c.in-len1-up.len_at_least c.block-item.is in
    let next = planned_on c.args.work c.left-room.result c.bodies.spent c.in_ok-merged.merged.spent (g.O.Obstacles.answers c.bodies.obstacles) (g.O.Obstacles.answers c.merge_body.new.obstacles) c.in_ok-merged.ensures.asked
    c.args.source.now c.args.media.now rest c.block-item.result (take (length rest - 1) (drop 1 rest)) c.bodies.taken c.in_ok-merged.merged.taken c.bodies.sheets.items c.in_ok-merged.merged.sheet c.left-room.ensures
    c.in_ok-merged.ensures.stays c.bodies.invariant.planned cut c.in_ok-merged.ensures.plan in
    let fits = planned_fit c.printed_is_no_longer.ensures (spent_of c.args.work c.in_ok-merged.merged.spent) (g.O.Obstacles.answers c.merge_body.new.obstacles) c.args.source.now c.args.media.now (take (length rest - 1) (drop 1 rest))
    (c.bodies.taken + c.in_ok-merged.merged.taken) _ c.requires.blocks next in
    omega (arith, fits, c.requires.short)

pub bodies-preserved : goal.bodies-preserved
bodies-preserved g c =
    let rest = c.bodies.rest.now in
    let cut : rest ≡ c.block-item.result ∷ take (length rest - 1) (drop 1 rest) = cut_media rest c.block-item.result c.in-len1-up.len_at_least c.block-item.is in
    record {
      asked = λ a has. c.in_ok-merged.ensures.asked a (c.bodies.invariant.asked a has);
      same_budget = c.in_ok-merged.ensures.same_budget ∙ c.bodies.invariant.same_budget;
      blocks = (subst (AllByRecursion (IsBlockOf c.args.source.now)) cut c.bodies.invariant.blocks).1;
      planned = subst (λ (bodies : List SheetParts). ArePlannedTo (spent_of c.args.work c.in_ok-merged.merged.spent) (g.O.Obstacles.answers c.merge_body.new.obstacles) c.args.source.now c.args.media.now (take (length rest - 1) (drop 1 rest))
          (c.bodies.taken + c.in_ok-merged.merged.taken) bodies)
          (sym c.in_ok-push.ensures.items)
          (planned_on c.args.work c.left-room.result c.bodies.spent c.in_ok-merged.merged.spent (g.O.Obstacles.answers c.bodies.obstacles) (g.O.Obstacles.answers c.merge_body.new.obstacles) c.in_ok-merged.ensures.asked
          c.args.source.now c.args.media.now rest c.block-item.result (take (length rest - 1) (drop 1 rest)) c.bodies.taken c.in_ok-merged.merged.taken c.bodies.sheets.items c.in_ok-merged.merged.sheet c.left-room.ensures
          c.in_ok-merged.ensures.stays c.bodies.invariant.planned cut c.in_ok-merged.ensures.plan);
      stays = λ n bound before. whole_stays c.args.work c.left-room.result c.bodies.taken c.bodies.spent c.in_ok-merged.merged.spent c.left-room.ensures c.in_ok-merged.ensures.stays n bound (c.bodies.invariant.stays n bound before);
      enough = whole_spent c.args.work c.left-room.result c.in_ok-merged.merged.spent (g.O.Obstacles.answers c.merge_body.new.obstacles) c.bodies.taken c.in_ok-merged.merged.taken c.left-room.ensures c.in_ok-merged.ensures.enough;
    }
