use Rattle.example_doc.proofs.Shown.{few_built, shows_built}
use Rattle.example_doc.proofs.example.build.Goals as goal

pub returns-clause-shows : goal.returns-clause-shows
returns-clause-shows c = shows_built c.args.plan.now.left c.args.plan.now.right c.args.shape.now c.in_ok-example.example c.requires.valid c.requires.fittable c.requires.left_named c.requires.right_named c.in_ok-example.ensures

pub returns-clause-few : goal.returns-clause-few
returns-clause-few c = few_built c.args.plan.now.left c.args.plan.now.right c.args.shape.now c.in_ok-example.example c.requires.valid c.requires.fittable c.requires.left_named c.requires.right_named c.requires.left_few c.requires.right_few c.in_ok-example.ensures
