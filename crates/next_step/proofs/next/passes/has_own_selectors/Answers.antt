use Rattle.next_step.proofs.BySelectors.{own_selectors}
use Rattle.next_step.proofs.next.passes.has_own_selectors.Goals as goal

pub returns : goal.returns
returns c = λ known. own_selectors c.args.view.now c.requires.view c.args.focus.now c.requires.focus c.marks-marks.ensures.as_many c.marks-marks.ensures.are_marks c.rules_are_order_keyed.ensures (c.has_own_selectors.ensures known)

pub returns-then-has_known_own_selectors : goal.returns-then-has_known_own_selectors
returns-then-has_known_own_selectors c = λ known. c.has_known_own_selectors.ensures c.if-has_known_own_selectors.true
