use Rattle.std.proofs.Common.{◌<◌, ℕ, subst}
use Rattle.next_step.proofs.ByOrderKeys.{with_above, with_below}
use Rattle.next_step.proofs.Results.{on_both}
use Rattle.next_step.proofs.SelectorJoins.{both_covered}
use Rattle.next_step.proofs.Telling.{order_key_within}
use Rattle.next_step.proofs.by_selectors.try_partner.Goals as goal

pub returns-in_default-clause-covers : goal.returns-in_default-clause-covers
returns-in_default-clause-covers c = λ k w join. (rw c.in_default.is at c.other_number.ensures.none) c.args.found.now k w

pub try_pair-requires-else-other-number-clause-lower : goal.try_pair-requires-else-other-number-clause-lower
try_pair-requires-else-other-number-clause-lower c =
    subst (λ (n : ℕ). c.in-Some.other < n) c.marks-marks.ensures.as_many (order_key_within c.args.view.now.indexed.now.marks c.in-Some.other c.args.order_key c.in-Some.ensures.some)

pub returns-then-other-number-clause-covers : goal.returns-then-other-number-clause-covers
returns-then-other-number-clause-covers c =
    on_both c.try_pair.result _ _ _ (λ up down k w join. with_above c.args.view.now c.args.focus.now c.requires.focus c.marks-marks.ensures.are_marks c.try_pair.new.found c.args.order_key c.in-Some.other c.in-Some.ensures.some c.if-other-number.true k
    (both_covered c.args.view.now c.try_pair.new.found c.in-Some.other c.args.focus.now.number up down k join) w) c.try_pair.ensures.up c.try_pair.ensures.down

pub returns-else-other-number-clause-covers : goal.returns-else-other-number-clause-covers
returns-else-other-number-clause-covers c =
    on_both c.try_pair-else-other-number.result _ _ _ (λ up down k w join. with_below c.args.view.now c.args.focus.now c.requires.focus c.marks-marks.ensures.are_marks c.try_pair-else-other-number.new.found c.args.order_key c.in-Some.other c.in-Some.ensures.some c.if-other-number.false k
    (both_covered c.args.view.now c.try_pair-else-other-number.new.found c.args.focus.now.number c.in-Some.other up down k join) w) c.try_pair-else-other-number.ensures.up c.try_pair-else-other-number.ensures.down
