use Rattle.next_step.proofs.NoCut.{uncut_once, uncut_selectors_once}
use Rattle.next_step.proofs.cuts.uncut.is_known_uncut.Goals as goal

pub returns-clause-once : goal.returns-clause-once
returns-clause-once c = λ known.
    uncut_once c.decl_cuts_are_told.ensures c.args.indexed.now c.marks-marks.ensures.as_many c.marks-marks.ensures.are_marks c.args.number (c.is_noted_uncut.ensures known)

pub returns-clause-selectors_once : goal.returns-clause-selectors_once
returns-clause-selectors_once c = λ known.
    uncut_selectors_once c.selector_cuts_are_told.ensures c.args.indexed.now c.marks-marks.ensures.as_many c.marks-marks.ensures.are_marks c.args.number (c.is_noted_uncut.ensures known)
