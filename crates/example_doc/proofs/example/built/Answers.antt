use Rattle.std.proofs.Common.{arith}
use Rattle.example_doc.proofs.Choices.{few_steps}
use Rattle.example_doc.proofs.example.built.Goals as goal

pub example_of-requires-clause-few : goal.example_of-requires-clause-few
example_of-requires-clause-few c = let h = few_steps c.args.plan.now.left c.args.plan.now.right c.args.shape.now c.requires.valid c.requires.few_left c.requires.few_right in omega arith
