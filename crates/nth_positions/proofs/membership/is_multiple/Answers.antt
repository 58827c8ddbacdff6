-- The remainder and the quotient decide whether a number of steps covers the distance.
use Rattle.std.proofs.Common.{◌≡◌, pos, ◌≤ℤ◌, ℤ, of_z, w64, sym, ap, subst, ◌∙◌, eqb-true}
use Rattle.std.specs.Prelude.{int_div, int_rem}
use Rattle.nth_positions.proofs.Multiples.{no_remainder, steps_from_quotient, quotient_tested, quotient_of_steps, remainder_tested, rem_of_steps, le_from_true, true_from_le}
use Rattle.nth_positions.proofs.membership.is_multiple.Goals as goal

pub returns-then-distance-step-eq0 : goal.returns-then-distance-step-eq0
returns-then-distance-step-eq0 c =
    let z = c.args.distance in
    let d = c.args.step in
    let r : int_rem z d ≡ pos 0 = no_remainder z d c.ranges.distance c.ranges.step c.if-distance-step-eq0.true in
    let q = quotient_tested z d c.ranges.distance c.ranges.step c.requires.near in (
      (λ h. steps_from_quotient z d r (subst (λ (y : ℤ). pos 0 ≤ℤ y) q (le_from_true h))),
      (λ (n, e). true_from_le (subst (λ (y : ℤ). pos 0 ≤ℤ y) (sym q) (subst (λ (y : ℤ). pos 0 ≤ℤ int_div y d) (sym e) (quotient_of_steps d n)))),
    )

pub returns-else-distance-step-eq0 : goal.returns-else-distance-step-eq0
returns-else-distance-step-eq0 c =
    let z = c.args.distance in
    let d = c.args.step in
    let tested = remainder_tested z d c.ranges.distance c.ranges.step in (
      (λ h. absurd (c.if-distance-step-eq0.false (eqb-true _ _ h))),
      (λ (n, e). absurd (c.if-distance-step-eq0.false (tested ∙ ap (λ (y : ℤ). of_z w64 (int_rem y d)) e ∙ ap (of_z w64) (rem_of_steps d n)))),
    )
