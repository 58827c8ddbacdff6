use Rattle.std.proofs.Common.{◌≡◌, ℕ, ◌+◌, ◌-◌, ◌≤◌, refl, sym, ap, ◌∙◌, arith}
use Rattle.cascade_laws.specs.Eval.Reaching.{passed}
use Rattle.line_match.specs.Runs.{run_tests}
use Rattle.line_match.proofs.Passed.{passed_first, passed_on}
use Rattle.line_match.proofs.passing.behind_run.Goals as goal

pub loop-left-preserved-then-is_far : goal.loop-left-preserved-then-is_far
loop-left-preserved-then-is_far c =
    let tests = run_tests c.args.run.now.selector.now.chain c.args.run.now.element.now c.args.run.now.has_children in
    let links = c.args.run.now.selector.now.links in
    let period = c.args.recurrence.now.period in
    let far = c.if-is_far.ensures.0 refl in
    let low : c.args.recurrence.now.threshold ≤ c.loop-left.at = far.0 in
    let within : c.args.recurrence.now.period ≤ c.loop-left.left = far.1 in
    let later : c.in_ok-later.later.items ≡ passed tests links period c.loop-left.at ((c.loop-left.left - period) + c.args.behind) c.loop-left.seen.items =
    c.in_ok-later.ensures
    ∙ ap (λ (m : ℕ). passed tests links period c.loop-left.at (m + c.args.behind) c.as_slice.result.now) c.from.ensures
    ∙ ap (passed tests links period c.loop-left.at ((c.loop-left.left - period) + c.args.behind)) c.as_slice.ensures.value in
    record {
      known =
          ap (λ (m : ℕ). passed tests links (c.loop-left.left - period - c.skipped-skipped.result) (c.loop-left.at + m) c.args.behind c.in_ok-later.later.items)
          (let w : c.from-then-is_far.result + c.from-then-is_far-2.result ≡ c.args.recurrence.now.period + c.skipped-skipped.result = omega arith in w)
          ∙ sym (passed_on c.repeating_changes_nothing.ensures tests links c.args.recurrence.now.threshold period c.loop-left.left (c.loop-left.left - period) c.skipped-skipped.result
          c.loop-left.at c.args.behind c.loop-left.seen.items c.in_ok-later.later.items c.is_same-same.result
          (λ short. c.requires.repeats short c.args.run.now.element.now c.args.run.now.has_children)
          (omega arith) within low refl later
          (λ t. sym c.as_slice-then-is_far.ensures.value ∙ c.is_same-same.ensures.0 t ∙ c.as_slice-then-is_far-2.ensures.value)
          c.skipped-skipped.ensures.within c.skipped-skipped.ensures.periods c.skipped-skipped.ensures.same)
          ∙ c.loop-left.invariant.known;
      counted = omega arith;
      within = omega arith;
    }

pub loop-left-preserved : goal.loop-left-preserved
loop-left-preserved c =
    let first = passed_first (run_tests c.args.run.now.selector.now.chain c.args.run.now.element.now c.args.run.now.has_children) c.args.run.now.selector.now.links
    c.loop-left.left (c.loop-left.left - 1) c.loop-left.at c.args.behind c.loop-left.seen.items (omega arith) in
    record {
      known = cc (first, c.in_ok-seen-2.ensures, c.from-else-is_far.ensures, c.as_slice-else-is_far.ensures.value, c.loop-left.invariant.known);
      counted = omega arith;
      within = omega arith;
    }
