use Rattle.merging_tests.proofs.AfterSteps.{few_after, plannable_after, sound_after}
use Rattle.merging_tests.proofs.sheets.after.Goals as goal

pub assert_short-requires-clause-sound : goal.assert_short-requires-clause-sound
assert_short-requires-clause-sound g c = sound_after c.steps_make_of.ensures c.each_is_made_of_itself.ensures c.args.source.now c.args.old.now.items c.applied-new.result.items c.args.step.now c.requires.plannable c.requires.is_step c.applied-new.ensures

pub assert_short-requires-clause-few_items : goal.assert_short-requires-clause-few_items
assert_short-requires-clause-few_items g c = few_after c.steps_make_of.ensures c.each_is_made_of_itself.ensures c.args.source.now c.args.old.now.items c.applied-new.result.items c.args.step.now c.requires.plannable c.requires.is_step c.applied-new.ensures

pub returns-clause-plannable : goal.returns-clause-plannable
returns-clause-plannable g c = plannable_after c.steps_make_of.ensures c.each_is_made_of_itself.ensures c.args.source.now c.args.old.now.items c.applied-new.result.items c.args.step.now c.requires.plannable c.requires.is_step c.applied-new.ensures c.assert_short.ensures

pub returns-clause-planned : goal.returns-clause-planned
returns-clause-planned g c = (c.args.source.now, plannable_after c.steps_make_of.ensures c.each_is_made_of_itself.ensures c.args.source.now c.args.old.now.items c.applied-new.result.items c.args.step.now c.requires.plannable c.requires.is_step c.applied-new.ensures c.assert_short.ensures)
