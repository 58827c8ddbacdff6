use Rattle.std.proofs.Common.{arith}
use Rattle.step_obstacles.proofs.HeldAnswers.{stays_on}
use Rattle.step_obstacles.proofs.Looking.{all_done, at_least, found_some, one_more_none}
use Rattle.step_obstacles.proofs.searching.with_decl.Goals as goal
use Rattle.step_obstacles.specs.Turns.{OfSelectors, pair_of}
use Rattle.plan_laws.specs.Barrier.Hindering.{OfPair}

pub with_selector-requires-clause-number : goal.with_selector-requires-clause-number
with_selector-requires-clause-number c =
    let count = c.selector_count-count.ensures in
    let less = c.loop-number-test.true in
    let at = at_least c.args.other.now.rule.now.selectors c.loop-number.number (omega (arith, count, less)) in
    (at.0, at.1)

pub returns-in-Some-clause-told : goal.returns-in-Some-clause-told
returns-in-Some-clause-told c =
    let count = c.selector_count-count.ensures in
    let less = c.loop-number-test.true in
    found_some c.args.window.now c.args.other.now.rule.now.selectors (λ y by. OfSelectors c.args.moved.now.at.rule.now c.args.moved.now.at.decl.now (λ p. OfPair p (pair_of y c.args.other.now.decl.now)) by) c.with_selector.new.pairs.answers c.loop-number.number c.in_ok-found.field-0 c.in-Some.found c.in-Some.is (omega (arith, count, less)) c.in_ok-found.ensures.told

pub loop-number-preserved : goal.loop-number-preserved
loop-number-preserved c = record {
  stays = stays_on c.args.pairs.now c.loop-number.pairs c.with_selector.new.pairs c.loop-number.invariant.stays c.with_selector.ensures.stays;
  known = c.with_selector.ensures.known;
  pass = one_more_none c.args.window.now c.args.other.now.rule.now.selectors (λ y by. OfSelectors c.args.moved.now.at.rule.now c.args.moved.now.at.decl.now (λ p. OfPair p (pair_of y c.args.other.now.decl.now)) by) c.loop-number.pairs c.with_selector.new.pairs c.loop-number.number c.in_ok-found.field-0 c.in_default.is c.with_selector.ensures.stays c.loop-number.invariant.pass c.in_ok-found.ensures.told;
}

pub returns-clause-told : goal.returns-clause-told
returns-clause-told c =
    let count = c.selector_count-count.ensures in
    let more = c.loop-number-test.false in
    all_done c.args.window.now c.args.other.now.rule.now.selectors (λ y by. OfSelectors c.args.moved.now.at.rule.now c.args.moved.now.at.decl.now (λ p. OfPair p (pair_of y c.args.other.now.decl.now)) by) c.loop-number.pairs.answers c.loop-number.number (omega (arith, count, more)) c.loop-number.invariant.pass
