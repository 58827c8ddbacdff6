-- k is reached where the distance from the offset is a number of steps.
use Rattle.std.proofs.Common.{rules, ◌≡◌, pos, ◌*ℤ◌, ◌-ℤ◌, arith, w32, w64, FitsSigned, ℤ, to_z, of_z, sym, ap, ◌∙◌}
use Rattle.std.proofs.lemmas.Int.{ints}
use Rattle.nth_positions.proofs.Multiples.{distance_is, is_distance}
use Rattle.nth_positions.proofs.membership.member.Goals as goal

pub returns-else-x-eq0 : goal.returns-else-x-eq0
returns-else-x-eq0 c =
    let fa : FitsSigned w32 c.args.x.a = search rules in
    let fb : FitsSigned w32 c.args.x.b = search rules in
    let step : to_z w64 (of_z w64 c.from-else-x-eq0.result) ≡ c.args.x.a = omega (arith, ints) in
    let distance : to_z w64 (of_z w64 (to_z w64 (of_z w64 c.from.result) -ℤ to_z w64 (of_z w64 c.from-2.result))) ≡ pos c.args.k -ℤ c.args.x.b = omega (arith, ints) in (
      (λ h. let (n, e) = c.is_multiple.ensures.0 h in (n, distance_is _ _ _ (sym distance ∙ e ∙ ap (λ (d : ℤ). d *ℤ pos n) step))),
      (λ (n, e). c.is_multiple.ensures.1 (n, distance ∙ is_distance _ _ _ e ∙ sym (ap (λ (d : ℤ). d *ℤ pos n) step))),
    )
