use Rattle.step_obstacles.proofs.Hinting.{kept_faces}
use Rattle.step_obstacles.proofs.hinted.item_faced.Goals as goal

pub returns-then-weighs_kept : goal.returns-then-weighs_kept
returns-then-weighs_kept c =
    kept_faces c.args.window.now c.args.moved.now.decl.now c.args.number c.args.item.now c.requires.item_at c.in-KeptRule.is c.requires.above c.requires.below
    (λ p e. (c.weighs_kept.ensures p e).0 c.if-weighs_kept.true)
