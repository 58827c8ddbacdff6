use Rattle.std.proofs.Common.{◌≡◌, ◌+◌, ◌<◌, ◌≤◌, ◌^◌, Fits, w32, arith, subst, sym, ap}
use Rattle.nth_positions.specs.declared.gap.Bounds.{Bounds}
use Rattle.nth_positions.specs.Gaps.{bounds_of, greatest_count, period_of, threshold_of}
use Rattle.sibling_counts.proofs.Scanning.{few_numbers}
use Rattle.sibling_counts.proofs.scan.limit_of.Goals as goal

pub overflow_add-result : goal.overflow_add-result
overflow_add-result c =
    let h : c.bounds-bounds.result.threshold + c.bounds-bounds.result.period < 2 ^ 26 = few_numbers c.bounds-bounds.result.threshold c.bounds-bounds.result.period c.bounds-bounds.result.width c.bounds-bounds.ensures.positive c.bounds-bounds.ensures.small
    (subst (λ (b : Bounds). greatest_count b.threshold b.period < 2 ^ b.width) (sym c.bounds-bounds.ensures.exact) (c.reduction_keeps_members.ensures.width c.args.parts.now)) in
    omega arith

pub returns-clause-small : goal.returns-clause-small
returns-clause-small c =
    few_numbers c.bounds-bounds.result.threshold c.bounds-bounds.result.period c.bounds-bounds.result.width c.bounds-bounds.ensures.positive c.bounds-bounds.ensures.small
    (subst (λ (b : Bounds). greatest_count b.threshold b.period < 2 ^ b.width) (sym c.bounds-bounds.ensures.exact) (c.reduction_keeps_members.ensures.width c.args.parts.now))
