use Rattle.overlap.proofs.Named.{named_chain}
use Rattle.overlap.proofs.formula.example_of.Goals as goal

pub build-requires-clause-fittable : goal.build-requires-clause-fittable
build-requires-clause-fittable c = c.profile_is_fittable.ensures.table c.args.plan.now.left c.args.plan.now.right c.requires.first c.requires.second

pub build-requires-clause-left_named : goal.build-requires-clause-left_named
build-requires-clause-left_named c = named_chain c.args.plan.now.left.chain (c.profile_has_names.ensures c.args.plan.now.left c.requires.first)

pub build-requires-clause-right_named : goal.build-requires-clause-right_named
build-requires-clause-right_named c = named_chain c.args.plan.now.right.chain (c.profile_has_names.ensures c.args.plan.now.right c.requires.second)

pub build-requires-clause-left_few : goal.build-requires-clause-left_few
build-requires-clause-left_few c = (c.profile_keeps_the_limits.ensures c.args.plan.now.left c.requires.first).few

pub build-requires-clause-right_few : goal.build-requires-clause-right_few
build-requires-clause-right_few c = (c.profile_keeps_the_limits.ensures c.args.plan.now.right c.requires.second).few
