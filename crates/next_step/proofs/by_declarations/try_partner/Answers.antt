use Rattle.std.proofs.Common.{ℕ, ◌<◌, subst}
use Rattle.next_step.proofs.ByOrderKeys.{with_above, with_below, with_itself}
use Rattle.next_step.proofs.Results.{on_ok}
use Rattle.next_step.proofs.Telling.{order_key_within}
use Rattle.next_step.proofs.by_declarations.try_partner.Goals as goal

pub returns-in_default-clause-covers : goal.returns-in_default-clause-covers
returns-in_default-clause-covers c = λ k w by. (rw c.in_default.is at c.other_number.ensures.none) c.args.found.now k w

pub try_upper-requires-clause-common : goal.try_upper-requires-clause-common
try_upper-requires-clause-common c = λ r at. c.requires.common c.in-Some.other r c.in-Some.ensures.some at

pub returns-then-other-number-clause-covers : goal.returns-then-other-number-clause-covers
returns-then-other-number-clause-covers c =
    on_ok c.try_upper.result _ _ (λ covers k w by. with_above c.args.view.now c.args.focus.now c.requires.focus c.marks-marks.ensures.are_marks c.try_upper.new.found c.args.met.order_key c.in-Some.other c.in-Some.ensures.some c.if-other-number.true k (covers k by) w) c.try_upper.ensures.covers

pub try_lower-requires-clause-other : goal.try_lower-requires-clause-other
try_lower-requires-clause-other c = subst (λ (n : ℕ). c.in-Some.other < n) c.marks-marks.ensures.as_many (order_key_within c.args.view.now.indexed.now.marks c.in-Some.other c.args.met.order_key c.in-Some.ensures.some)

pub try_lower-requires-clause-common : goal.try_lower-requires-clause-common
try_lower-requires-clause-common c = λ r at. c.requires.common c.in-Some.other r c.in-Some.ensures.some at

pub returns-then-number-other-clause-covers : goal.returns-then-number-other-clause-covers
returns-then-number-other-clause-covers c =
    on_ok c.try_lower.result _ _ (λ covers k w by. with_below c.args.view.now c.args.focus.now c.requires.focus c.marks-marks.ensures.are_marks c.try_lower.new.found c.args.met.order_key c.in-Some.other c.in-Some.ensures.some c.if-other-number.false k (covers k by) w) c.try_lower.ensures.covers

pub returns-clause-covers : goal.returns-clause-covers
returns-clause-covers c = λ k w by. with_itself c.args.view.now c.args.focus.now c.requires.focus c.marks-marks.ensures.are_marks c.args.found.now c.args.met.order_key c.in-Some.other c.in-Some.ensures.some c.if-other-number.false c.if-number-other.false k w
