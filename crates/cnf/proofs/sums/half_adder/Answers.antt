use Rattle.std.proofs.Common.{Some, ap, ◌∙◌}
use Rattle.cnf.specs.Sums.{with_half_adder}
use Rattle.cnf.proofs.AdderCode.{two_calls, second_fresh, half_adder_rows}
use Rattle.cnf.proofs.sums.half_adder.Goals as goal

pub returns-clause-formula : goal.returns-clause-formula
unfolding with_half_adder
returns-clause-formula c =
    let sum = c.fresh-sum.ensures.value in
    let carry = second_fresh c.args.f.now _ _ c.fresh-sum.ensures.after c.fresh-carry.ensures.value in
    let no_sum = c.negation-no_sum.ensures.value in
    let no_carry = c.negation-no_carry.ensures.value in
    two_calls c.args.f.now _ _ _ _ _ _ c.fresh-sum.ensures.after c.fresh-carry.ensures.after c.in_ok-add_clauses.ensures c.in_ok-add_clauses-2.ensures
    ∙ ap (λ cs. Rattle.cnf.specs.Gates.with_clauses (Rattle.cnf.specs.Sums.with_two_fresh c.args.f.now) cs) (half_adder_rows _ _ _ _ _ _ _ _ _ _ sum carry c.negation-no_x.ensures.value c.negation-no_y.ensures.value no_sum no_carry)

pub returns-clause-sum : goal.returns-clause-sum
unfolding with_half_adder
returns-clause-sum c = c.fresh-sum.ensures.value

pub returns-clause-carry : goal.returns-clause-carry
unfolding with_half_adder
returns-clause-carry c =
    ap Some (second_fresh c.args.f.now _ _ c.fresh-sum.ensures.after c.fresh-carry.ensures.value)
