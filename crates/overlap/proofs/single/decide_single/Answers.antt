use Rattle.overlap.proofs.Deciding.{apart_tried, apart_unfit, meet_single}
use Rattle.overlap.proofs.single.decide_single.Goals as goal

pub returns-in-Some-2 : goal.returns-in-Some-2
returns-in-Some-2 c =
    meet_single c.examples_show_meeting.ensures c.args.x.now c.args.y.now c.args.pseudo c.in-Some-2.example c.in-Some.features c.args.found.now c.in_ok-example-in-Some.field-0
    c.requires.first_names c.requires.second_names c.requires.found c.in-Some.is c.in-Some-2.is c.in_ok-example-in-Some.ensures

pub returns-in-None-2 : goal.returns-in-None-2
returns-in-None-2 c = apart_tried c.meeting_selectors_pass.ensures c.args.x.now c.args.y.now c.args.pseudo c.in-Some.features c.in_ok-example-in-Some.field-0 c.in-None-2.is c.in_ok-example-in-Some.ensures

pub returns-in-None : goal.returns-in-None
returns-in-None c = apart_unfit c.meeting_selectors_pass.ensures c.args.x.now c.args.y.now c.args.pseudo c.args.found.now c.requires.found c.in-None.is
