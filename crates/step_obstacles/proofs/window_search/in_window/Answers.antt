use Rattle.std.proofs.Common.{arith}
use Rattle.step_obstacles.proofs.HeldAnswers.{stays_on}
use Rattle.step_obstacles.proofs.Turning.{turn_found, turn_more, turns_done}
use Rattle.step_obstacles.proofs.window_search.in_window.Goals as goal

pub returns-in_err-found-clause-stays : goal.returns-in_err-found-clause-stays
returns-in_err-found-clause-stays c = stays_on c.args.pairs.now c.loop-turn.pairs c.of_turn.new.pairs c.loop-turn.invariant.stays c.of_turn.ensures.stays

pub returns-in-Some-clause-stays : goal.returns-in-Some-clause-stays
returns-in-Some-clause-stays c = stays_on c.args.pairs.now c.loop-turn.pairs c.of_turn.new.pairs c.loop-turn.invariant.stays c.of_turn.ensures.stays

pub returns-in-Some-clause-told : goal.returns-in-Some-clause-told
returns-in-Some-clause-told c =
    let count = c.count_of-count.ensures in
    let less = c.loop-turn-test.true in
    turn_found c.args.window.now c.args.span c.args.sources.now c.args.upwards c.of_turn.new.pairs.answers c.loop-turn.turn c.number_of-number.result c.in_ok-found.field-0 c.in-Some.found c.in-Some.is c.number_of-number.ensures
    c.requires.within (omega (arith, count, less)) c.in_ok-found.ensures.told

pub loop-turn-preserved : goal.loop-turn-preserved
loop-turn-preserved c = record {
  stays = stays_on c.args.pairs.now c.loop-turn.pairs c.of_turn.new.pairs c.loop-turn.invariant.stays c.of_turn.ensures.stays;
  known = c.of_turn.ensures.known;
  pass = turn_more c.args.window.now c.args.span c.args.sources.now c.args.upwards c.loop-turn.pairs c.of_turn.new.pairs c.loop-turn.turn c.number_of-number.result c.in_ok-found.field-0 c.in_default.is c.number_of-number.ensures
      c.of_turn.ensures.stays c.loop-turn.invariant.pass c.in_ok-found.ensures.told;
}

pub returns-clause-told : goal.returns-clause-told
returns-clause-told c =
    let count = c.count_of-count.ensures in
    let more = c.loop-turn-test.false in
    turns_done c.args.window.now c.args.span c.args.sources.now c.args.upwards c.loop-turn.pairs.answers c.loop-turn.turn c.requires.enough (omega (arith, count, more)) c.loop-turn.invariant.pass
