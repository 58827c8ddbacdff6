use Rattle.std.proofs.Common.{inl, inr}
use Rattle.next_step.specs.Kinds.{IsSelectorJoin}
use Rattle.next_step.specs.Viewed.{Grows}
use Rattle.next_step.proofs.ByOrderKeys.{by_halves}
use Rattle.next_step.proofs.Looking.{grows_both, kept_covers}
use Rattle.next_step.proofs.OwnedBelow.{none_with}
use Rattle.next_step.proofs.Results.{on_both, on_ok}
use Rattle.next_step.proofs.by_selectors.try_selector_partners.Goals as goal

pub try_side-requires-clause-side : goal.try_side-requires-clause-side
try_side-requires-clause-side c = λ order_key later here there. inl (c.halves.ensures.below.below order_key here, c.halves.ensures.below.below later there)

pub try_side-requires-2-clause-side : goal.try_side-requires-2-clause-side
try_side-requires-2-clause-side c = λ order_key later here there. inr (c.halves.ensures.above.above order_key here, c.halves.ensures.above.above later there)

pub returns-clause-grows : goal.returns-clause-grows
returns-clause-grows c = on_ok c.try_side-2.result (Grows c.args.view.now c.try_side.new.found c.try_side-2.new.found) _
    (grows_both c.args.view.now c.args.found.now c.try_side.new.found c.try_side-2.new.found c.in_ok-try_side.ensures.grows) c.try_side-2.ensures.grows

pub returns-clause-covers : goal.returns-clause-covers
returns-clause-covers c = on_both c.try_side-2.result (Grows c.args.view.now c.try_side.new.found c.try_side-2.new.found) _ _
    (λ grows covers. by_halves c.args.view.now c.args.focus.now c.requires.focus c.marks-marks.ensures.are_marks c.try_side-2.new.found IsSelectorJoin c.args.order_keys.now c.halves.result.0.now c.halves.result.1.now c.halves.ensures.below c.halves.ensures.above
    (λ order_key k among w by. kept_covers c.args.view.now c.try_side.new.found c.try_side-2.new.found grows k (c.in_ok-try_side.ensures.covers order_key k among w by))
    covers) c.try_side-2.ensures.grows c.try_side-2.ensures.covers

pub returns-then-owns_none_below-clause-covers : goal.returns-then-owns_none_below-clause-covers
returns-then-owns_none_below-clause-covers c =
    let none = c.owns_none_below.ensures c.if-owns_none_below.true in
    by_halves c.args.view.now c.args.focus.now c.requires.focus c.marks-marks.ensures.are_marks c.try_side.new.found IsSelectorJoin c.args.order_keys.now c.halves.result.0.now c.halves.result.1.now c.halves.ensures.below c.halves.ensures.above
    c.in_ok-try_side.ensures.covers
    (λ order_key k among w by. none_with c.args.view.now c.args.focus.now c.requires.focus c.try_side.new.found c.marks-marks.ensures.are_marks c.marks-marks.ensures.as_many none.0 none.1 order_key (c.halves.ensures.above.above order_key among) k w)
