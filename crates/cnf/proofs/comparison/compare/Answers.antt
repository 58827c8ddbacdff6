use Rattle.cnf.proofs.ComparisonCode.{compared_room, next_digit}
use Rattle.cnf.proofs.LitLemmas.{are_below-get, are_below-mono}
use Rattle.cnf.proofs.comparison.compare.Goals as goal

pub compare_digit-requires-clause-room : goal.compare_digit-requires-clause-room
compare_digit-requires-clause-room c =
    compared_room c.args.f.now c.loop-digit.f c.args.digits.now c.args.bound c.loop-digit.below c.loop-digit.rest c.loop-digit.digit-index _ _ c.loop-digit.invariant c.loop-digit-test.true c.requires.room

pub loop-digit-preserved : goal.loop-digit-preserved
loop-digit-preserved c =
    next_digit c.args.f.now c.loop-digit.f c.compare_digit.new.f c.args.digits.now c.args.bound c.loop-digit.below c.in_ok-below.below c.loop-digit.rest c.loop-digit.digit-index _ c.loop-digit.invariant c.loop-digit-test.true (are_below-get c.loop-digit.f.vars c.args.digits.now c.loop-digit.digit-index _ (are_below-mono c.args.f.now.vars c.loop-digit.f.vars c.loop-digit.invariant.grows c.args.digits.now c.requires.in_range) c.loop-digit-test.true) c.in_ok-below.ensures.formula c.in_ok-below.ensures.found
