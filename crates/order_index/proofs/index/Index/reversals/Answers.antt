use Rattle.std.proofs.Common.{◌∙◌, sym, subst}
use Rattle.std.specs.List.{AllByRecursion}
use Rattle.order_index.proofs.Afterwards.{step_at}
use Rattle.order_index.proofs.Listing.{all_moving}
use Rattle.order_index.proofs.index.Index.reversals.Goals as goal
use Rattle.order_index.specs.Listed.{IsMoving}

pub found-requires-clause-moving : goal.found-requires-clause-moving
found-requires-clause-moving c =
    subst (AllByRecursion (IsMoving c.args.self.now c.args.step.now)) (sym (c.deref.ensures.value ∙ c.in_ok-moved.ensures))
    (all_moving c.listed_stands_last.ensures c.read_selectors_keep_the_limits.ensures c.args.self.now c.requires.planned c.args.step.now (step_at c.args.self.now c.args.step.now c.requires.is_step))
