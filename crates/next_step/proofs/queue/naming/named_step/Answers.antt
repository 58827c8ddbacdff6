use Rattle.next_step.proofs.NamedSteps.{lacks_first, lacks_second, named_one, named_priority}
use Rattle.next_step.proofs.queue.naming.named_step.Goals as goal

pub returns-in_default-clause-none : goal.returns-in_default-clause-none
returns-in_default-clause-none c = lacks_first c.args.indexed.now c.args.candidate.now (rw c.in_default.is at c.item_number.ensures.none)

pub returns-in_default-second_number-clause-none : goal.returns-in_default-second_number-clause-none
returns-in_default-second_number-clause-none c = lacks_second c.args.indexed.now c.args.candidate.now (rw c.in_default-second_number.is at c.second_number.ensures.none)

pub returns-clause-some : goal.returns-clause-some
returns-clause-some c = named_priority c.args.indexed.now c.args.candidate.now c.in-Some.first c.in-Some-second_number.second c.in-Some.ensures.some c.in-Some-second_number.ensures.some c.step_of.result c.step_of.ensures

pub returns-clause-one : goal.returns-clause-one
returns-clause-one c =
    named_one c.args.indexed.now c.args.candidate.now c.marks-marks.ensures.are_marks c.marks-marks.ensures.as_many c.in-Some.first c.in-Some-second_number.second c.in-Some.ensures.there c.in-Some.ensures.some
    c.in-Some-second_number.ensures.there c.in-Some-second_number.ensures.some c.step_of.result c.step_of.ensures
