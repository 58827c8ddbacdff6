use Rattle.repeat_runs.proofs.Ran.{light_rule, run_of}
use Rattle.repeat_runs.proofs.running.gone_of.Goals as goal
use Rattle.step_laws.proofs.ForCallers.{rule_sound}

pub marks_of-requires-clause-sound : goal.marks_of-requires-clause-sound
marks_of-requires-clause-sound c = rule_sound c.args.lengths.now c.args.sheet.now.items c.args.number c.in-Some.rule.now c.requires.plannable.sound c.in-Some.ensures.some

pub marks_of-requires-clause-small : goal.marks_of-requires-clause-small
marks_of-requires-clause-small c = light_rule c.args.lengths.now c.args.sheet.now.items c.args.number c.in-Some.rule.now c.requires.plannable c.in-Some.ensures.some

pub returns-clause-some : goal.returns-clause-some
returns-clause-some c =
    run_of c.args.lengths.now c.args.sheet.now.items c.args.number c.args.most c.in-Some.rule.now c.in-Some-2.marks.decls.items c.in-Some-2.marks.selectors.items c.in_ok-choose.field-0.decls.items c.in_ok-choose.field-0.selectors.items
    c.in-Some.ensures.some (rw c.in-Some-2.is at c.in_ok-marks.ensures.some) c.in_ok-choose.ensures
