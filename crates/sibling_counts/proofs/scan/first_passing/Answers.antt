use Rattle.std.proofs.Common.{rules, ◌≡◌, ◌⊎◌, inl, inr, ◌↔◌, ℕ, ◌+◌, ◌<◌, ◌≤◌, ap, subst, sym, ◌∙◌, arith}
use Rattle.std.proofs.lemmas.Bool.{cases_lt}
use Rattle.nth_positions.specs.Gaps.{bounds_of, reduced, threshold_of, period_of}
use Rattle.sibling_counts.specs.Sides.{PassesTests, positions_of}
use Rattle.sibling_counts.proofs.Scanning.{passes_reduced, skipped, none_reduced}
use Rattle.sibling_counts.proofs.scan.first_passing.Goals as goal

pub loop-number-preserved : goal.loop-number-preserved
loop-number-preserved c = record {
  start = omega arith;
  small = omega arith;
  none = λ n from below h. skipped (PassesTests c.args.tests.now) c.args.start c.loop-number.number c.stride-number.result
      c.loop-number.invariant.none (λ k. search rules) c.stride-number.ensures.skips n from below h;
}

pub returns : goal.returns
returns c = λ n from h.
    none_reduced c.reduction_keeps_members.ensures.members c.reduction_keeps_members.ensures.zero c.reduction_keeps_members.ensures.below
    c.args.tests.now c.args.start c.loop-number.number (omega arith) (omega arith) c.loop-number.invariant.none n from h
