use Rattle.std.proofs.Common.{subst, sym}
use Rattle.std.specs.Prelude.{IfOk}
use Rattle.sheet_order.specs.declared.places.Moved.{Moved}
use Rattle.sheet_order.specs.Taking.{moved_of}
use Rattle.step_obstacles.proofs.Askable.{askable}
use Rattle.step_obstacles.proofs.Deciding.{told_blocked, told_free}
use Rattle.step_obstacles.proofs.Moving.{are_there}
use Rattle.step_obstacles.proofs.Spans.{span_is_enough, span_within}
use Rattle.step_obstacles.proofs.step_search.obstacle_in.Goals as goal
use Rattle.step_obstacles.specs.Spans.{IsEnoughFor}
use Rattle.step_obstacles.specs.StepWindow.{AreThere, IsToldBy}

pub by_moved-requires-clause-askable : goal.by_moved-requires-clause-askable
by_moved-requires-clause-askable c = askable c.parts_are_few.ensures c.selectors_are_in_the_profile.ensures.all c.args.items.now c.requires.planned

pub by_moved-requires-clause-there : goal.by_moved-requires-clause-there
by_moved-requires-clause-there c = subst (AreThere c.args.items.now) (sym c.moved_of-moved.ensures) (are_there c.args.items.now c.args.step.now c.requires.is_step)

pub by_moved-requires-clause-within : goal.by_moved-requires-clause-within
by_moved-requires-clause-within c = span_within c.args.items.now c.args.step.now c.requires.is_step c.window_of-window.result c.window_of-window.ensures.window c.span_of-span.result c.span_of-span.ensures.first c.span_of-span.ensures.end

pub by_moved-requires-clause-enough : goal.by_moved-requires-clause-enough
by_moved-requires-clause-enough c = subst (λ (m : Moved). IsEnoughFor c.args.items.now m c.window_of-window.result c.span_of-span.result) (sym c.moved_of-moved.ensures)
    (span_is_enough c.args.items.now c.args.step.now c.requires.is_step c.window_of-window.result c.window_of-window.ensures.window c.span_of-span.result c.span_of-span.ensures.first c.span_of-span.ensures.end c.reversed_stand_beside.ensures)

pub returns-clause-free : goal.returns-clause-free
returns-clause-free c =
    let told : IfOk c.by_moved.result (λ found. IsToldBy c.by_moved.new.pairs.answers c.args.items.now (moved_of c.args.step.now) c.window_of-window.result found) =
    subst (λ (m : Moved). IfOk c.by_moved.result (λ found. IsToldBy c.by_moved.new.pairs.answers c.args.items.now m c.window_of-window.result found)) c.moved_of-moved.ensures c.by_moved.ensures.told in
    told_free c.steps_have_windows.ensures c.windows_tell_pairs.ensures c.windows_tell_kept.ensures c.args.items.now c.args.step.now c.by_moved.new.pairs.answers c.window_of-window.result c.window_of-window.ensures.window c.by_moved.result told

pub returns-clause-blocked : goal.returns-clause-blocked
returns-clause-blocked c =
    let told : IfOk c.by_moved.result (λ found. IsToldBy c.by_moved.new.pairs.answers c.args.items.now (moved_of c.args.step.now) c.window_of-window.result found) =
    subst (λ (m : Moved). IfOk c.by_moved.result (λ found. IsToldBy c.by_moved.new.pairs.answers c.args.items.now m c.window_of-window.result found)) c.moved_of-moved.ensures c.by_moved.ensures.told in
    told_blocked c.steps_have_windows.ensures c.windows_tell_pairs.ensures c.windows_tell_kept.ensures c.args.items.now c.args.step.now c.by_moved.new.pairs.answers c.window_of-window.result c.window_of-window.ensures.window c.steps_are_one_edit.ensures c.requires.is_step c.by_moved.result told
