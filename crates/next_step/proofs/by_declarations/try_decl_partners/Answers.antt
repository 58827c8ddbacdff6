use Rattle.next_step.specs.Kinds.{IsByDecls}
use Rattle.next_step.specs.Viewed.{Grows}
use Rattle.next_step.proofs.InCommon.{by_sides, tells_same}
use Rattle.next_step.proofs.Looking.{grows_both, kept_covers}
use Rattle.next_step.proofs.OwnedBelow.{none_with}
use Rattle.next_step.proofs.Results.{on_both, on_ok}
use Rattle.std.proofs.Common.{◌<◌, ℕ}
use Rattle.next_step.proofs.by_declarations.try_decl_partners.Goals as goal

pub try_above-requires-clause-above : goal.try_above-requires-clause-above
try_above-requires-clause-above c = λ k among. ((c.in_ok-before.ensures.ahead k).0 among).1

pub try_above-requires-clause-common : goal.try_above-requires-clause-common
try_above-requires-clause-common c = λ k among.
    tells_same c.args.view.now c.args.focus.now (λ (x : ℕ). x < c.args.focus.now.order_key) c.args.order_keys.now c.in_ok-before.before c.in_ok-before.ensures.same k ((c.in_ok-before.ensures.ahead k).0 among).1 (c.requires.common k)

pub try_below-requires-clause-below : goal.try_below-requires-clause-below
try_below-requires-clause-below c = λ k among. ((c.in_ok-behind.ensures.ahead k).0 among).1

pub try_below-requires-clause-common : goal.try_below-requires-clause-common
try_below-requires-clause-common c = λ k among.
    tells_same c.args.view.now c.args.focus.now (λ (x : ℕ). c.args.focus.now.order_key < x) c.args.order_keys.now c.in_ok-behind.behind c.in_ok-behind.ensures.same k ((c.in_ok-behind.ensures.ahead k).0 among).1 (c.requires.common k)

pub returns-then-owns_none_below-clause-covers : goal.returns-then-owns_none_below-clause-covers
returns-then-owns_none_below-clause-covers c =
    let known = c.owns_none_below.ensures c.if-owns_none_below.true in
    by_sides c.args.view.now c.args.focus.now c.requires.focus c.marks-marks.ensures.are_marks c.try_above.new.found IsByDecls c.args.order_keys.now
    (λ x k among less w by. c.in_ok-try_above.ensures.covers x k ((c.in_ok-before.ensures.ahead x).1 (among, less)) w by)
    (λ x k among more w by. none_with c.args.view.now c.args.focus.now c.requires.focus c.try_above.new.found c.marks-marks.ensures.are_marks c.marks-marks.ensures.as_many known.0 known.1 x more k w)

pub returns-clause-grows : goal.returns-clause-grows
returns-clause-grows c = on_ok c.try_below.result (Grows c.args.view.now c.try_above.new.found c.try_below.new.found) _
    (grows_both c.args.view.now c.args.found.now c.try_above.new.found c.try_below.new.found c.in_ok-try_above.ensures.grows) c.try_below.ensures.grows

pub returns-clause-covers : goal.returns-clause-covers
returns-clause-covers c = on_both c.try_below.result (Grows c.args.view.now c.try_above.new.found c.try_below.new.found) _ _
    (λ grows covers. by_sides c.args.view.now c.args.focus.now c.requires.focus c.marks-marks.ensures.are_marks c.try_below.new.found IsByDecls c.args.order_keys.now
    (λ x k among less w by. kept_covers c.args.view.now c.try_above.new.found c.try_below.new.found grows k (c.in_ok-try_above.ensures.covers x k ((c.in_ok-before.ensures.ahead x).1 (among, less)) w by))
    (λ x k among more w by. covers x k ((c.in_ok-behind.ensures.ahead x).1 (among, more)) w by)) c.try_below.ensures.grows c.try_below.ensures.covers
