use Rattle.std.proofs.Common.{None, arith}
use Rattle.cnf.specs.Numbers.{with_comparison}
use Rattle.cnf.proofs.ComparisonCode.{out_of_reach, within_reach}
use Rattle.cnf.proofs.GrowLemmas.{found-grows}
use Rattle.cnf.proofs.comparison.is_at_least.Goals as goal

pub false_literal-requires : goal.false_literal-requires
false_literal-requires c =
    rw (out_of_reach c.args.f.now c.args.x.now c.args.bound c.if-is_out_of_reach.ensures) at c.requires.room

pub compare-requires-clause-room : goal.compare-requires-clause-room
compare-requires-clause-room c =
    let all = with_comparison c.args.f.now None c.args.x.now c.args.bound in
    let room = rw (within_reach c.args.f.now c.args.x.now c.args.bound c.if-is_out_of_reach.ensures) at c.requires.room in
    omega (arith, room, found-grows all.0 all.1)

pub found_literal-requires : goal.found_literal-requires
found_literal-requires c =
    rw (c.in_ok-found.ensures.formula, c.in_ok-found.ensures.found) (rw (within_reach c.args.f.now c.args.x.now c.args.bound c.if-is_out_of_reach.ensures) at c.requires.room)

pub returns-then-is_out_of_reach-clause-formula : goal.returns-then-is_out_of_reach-clause-formula
returns-then-is_out_of_reach-clause-formula c =
    rw (out_of_reach c.args.f.now c.args.x.now c.args.bound c.if-is_out_of_reach.ensures) c.false_literal.ensures.formula

pub returns-then-is_out_of_reach-clause-answer : goal.returns-then-is_out_of_reach-clause-answer
returns-then-is_out_of_reach-clause-answer c =
    rw (out_of_reach c.args.f.now c.args.x.now c.args.bound c.if-is_out_of_reach.ensures) c.false_literal.ensures.answer

pub returns-in_ok-found-clause-formula : goal.returns-in_ok-found-clause-formula
returns-in_ok-found-clause-formula c =
    rw (within_reach c.args.f.now c.args.x.now c.args.bound c.if-is_out_of_reach.ensures) (rw (c.in_ok-found.ensures.formula, c.in_ok-found.ensures.found) at c.found_literal.ensures.formula)

pub returns-in_ok-found-clause-answer : goal.returns-in_ok-found-clause-answer
returns-in_ok-found-clause-answer c =
    rw (within_reach c.args.f.now c.args.x.now c.args.bound c.if-is_out_of_reach.ensures) (rw (c.in_ok-found.ensures.formula, c.in_ok-found.ensures.found) at c.found_literal.ensures.answer)
