use Rattle.std.proofs.Common.{◌≡◌, ◌-◌, ◌++◌, ◌∷◌, [], sym, ap, ◌∙◌, arith}
use Rattle.turned_members.specs.Walking.{Walked}
use Rattle.turned_members.proofs.Floors.{behind_next}
use Rattle.turned_members.proofs.walk.walked_back.Goals as goal

pub left-preserved : goal.left-preserved
left-preserved c =
    let w : Walked = record { common = c.w.inside.common.now; floor = c.w.inside.floor } in
    let same : w.floor ≡ c.walked_at-w.result.floor = ap (λ (x : Walked). x.floor) c.w.view_is in
    record {
      within = omega arith;
      behind = behind_next c.args.commons.now c.left.left (c.left.left - 1) c.index-commons-left.result c.left.floor c.left.found.items c.push.new.self.items w (omega arith) (omega arith)
          c.index-commons-left.is (ap (λ (x : Walked). x.common) c.w.view_is ∙ c.walked_at-w.ensures.common) (omega (arith, same, c.walked_at-w.ensures.first))
          (omega (arith, same, c.walked_at-w.ensures.second)) (c.in_ok-push.ensures.items ∙ ap (λ (x : Walked). c.left.found.items ++ x ∷ []) (sym c.w.view_is)) c.left.invariant.behind;
    }
