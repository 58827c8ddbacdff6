use Rattle.std.proofs.Common.{subst, sym, ◌∙◌}
use Rattle.std.specs.List.{AllByRecursion}
use Rattle.hint_clauses.proofs.Briefly.{all_short}
use Rattle.hint_clauses.proofs.runs.both_step.Goals as goal
use Rattle.remainders.specs.Sizes.{IsShort}

pub joint_step-requires : goal.joint_step-requires
joint_step-requires c = subst (AllByRecursion IsShort) (sym (c.deref.ensures.value ∙ c.in_ok-rests.ensures)) (all_short c.args.left.now c.args.right.now c.requires.left c.requires.right)
