use Rattle.std.proofs.Common.{subst, arith}
use Rattle.step_obstacles.proofs.HeldAnswers.{stays_on}
use Rattle.step_obstacles.proofs.Looking.{all_done, found_got, one_more_got}
use Rattle.step_obstacles.proofs.window_search.of_sources.Goals as goal
use Rattle.step_obstacles.specs.Blocked.{IsToldOf}
use Rattle.step_obstacles.specs.declared.facing.Source.{Source}
use Rattle.step_obstacles.specs.Turns.{OfSource}

pub returns-in-Some-clause-stays : goal.returns-in-Some-clause-stays
returns-in-Some-clause-stays c = stays_on c.args.pairs.now c.loop-source.pairs c.of_source.new.pairs c.loop-source.invariant.stays c.of_source.ensures.stays

pub returns-in-Some-clause-told : goal.returns-in-Some-clause-told
returns-in-Some-clause-told c =
    found_got c.args.window.now c.args.sources.now (OfSource c.args.window.now.items.now c.args.number c.args.item.now) c.of_source.new.pairs.answers c.loop-source.source-index c.source-item.result c.in_ok-found.field-0 c.in-Some.found c.in-Some.is
    (omega arith) (subst (λ (s : Source). IsToldOf c.of_source.new.pairs.answers c.args.window.now (OfSource c.args.window.now.items.now c.args.number c.args.item.now s) c.in_ok-found.field-0) c.source-item.is c.in_ok-found.ensures.told)

pub loop-source-preserved : goal.loop-source-preserved
loop-source-preserved c = record {
  stays = stays_on c.args.pairs.now c.loop-source.pairs c.of_source.new.pairs c.loop-source.invariant.stays c.of_source.ensures.stays;
  known = c.of_source.ensures.known;
  pass = one_more_got c.args.window.now c.args.sources.now (OfSource c.args.window.now.items.now c.args.number c.args.item.now) c.loop-source.pairs c.of_source.new.pairs c.loop-source.source-index c.source-item.result c.in_ok-found.field-0 c.in_default.is
      (omega arith) c.of_source.ensures.stays c.loop-source.invariant.pass
      (subst (λ (s : Source). IsToldOf c.of_source.new.pairs.answers c.args.window.now (OfSource c.args.window.now.items.now c.args.number c.args.item.now s) c.in_ok-found.field-0) c.source-item.is c.in_ok-found.ensures.told);
}

pub returns-clause-told : goal.returns-clause-told
returns-clause-told c =
    all_done c.args.window.now c.args.sources.now (OfSource c.args.window.now.items.now c.args.number c.args.item.now) c.loop-source.pairs.answers c.loop-source.source-index (omega arith) c.loop-source.invariant.pass
