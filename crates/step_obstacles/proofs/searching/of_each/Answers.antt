use Rattle.std.proofs.Common.{arith}
use Rattle.step_obstacles.proofs.HeldAnswers.{stays_on}
use Rattle.step_obstacles.proofs.Looking.{all_done, at_least, found_some, one_more_none}
use Rattle.step_obstacles.proofs.searching.of_each.Goals as goal
use Rattle.step_obstacles.specs.Turns.{OfDecl}

pub of_decl-requires-clause-part : goal.of_decl-requires-clause-part
of_decl-requires-clause-part c =
    let count = c.decl_count-count.ensures in
    let less = c.loop-decl-test.true in
    let at = at_least c.args.source.now.rule.now.decls c.loop-decl.decl (omega (arith, count, less)) in
    (at.0, at.1)

pub returns-in-Some-clause-told : goal.returns-in-Some-clause-told
returns-in-Some-clause-told c =
    let count = c.decl_count-count.ensures in
    let less = c.loop-decl-test.true in
    found_some c.args.window.now c.args.source.now.rule.now.decls (OfDecl c.args.window.now.items.now c.args.met.now.number c.args.met.now.item.now c.args.source.now) c.of_decl.new.pairs.answers c.loop-decl.decl c.in_ok-found.field-0 c.in-Some.found c.in-Some.is (omega (arith, count, less)) c.in_ok-found.ensures.told

pub loop-decl-preserved : goal.loop-decl-preserved
loop-decl-preserved c = record {
  stays = stays_on c.args.pairs.now c.loop-decl.pairs c.of_decl.new.pairs c.loop-decl.invariant.stays c.of_decl.ensures.stays;
  known = c.of_decl.ensures.known;
  pass = one_more_none c.args.window.now c.args.source.now.rule.now.decls (OfDecl c.args.window.now.items.now c.args.met.now.number c.args.met.now.item.now c.args.source.now) c.loop-decl.pairs c.of_decl.new.pairs c.loop-decl.decl c.in_ok-found.field-0 c.in_default.is c.of_decl.ensures.stays c.loop-decl.invariant.pass c.in_ok-found.ensures.told;
}

pub returns-clause-told : goal.returns-clause-told
returns-clause-told c =
    let count = c.decl_count-count.ensures in
    let more = c.loop-decl-test.false in
    all_done c.args.window.now c.args.source.now.rule.now.decls (OfDecl c.args.window.now.items.now c.args.met.now.number c.args.met.now.item.now c.args.source.now) c.loop-decl.pairs.answers c.loop-decl.decl (omega (arith, count, more)) c.loop-decl.invariant.pass
