use Rattle.std.proofs.Common.{rules, ℕ, ◌<◌, ◌≤◌, length, take, subst, sym, arith, get_or}
use Rattle.std.specs.List.{All}
use Rattle.std.proofs.lemmas.List.{take_all}
use Rattle.std.proofs.lemmas.List.Elements.{All-more}
use Rattle.sibling_counts.specs.declared.side.Asked.{Asked}
use Rattle.sibling_counts.specs.Sides.{PassesTest}
use Rattle.sibling_counts.proofs.scan.passes.Goals as goal

pub loop-test-preserved : goal.loop-test-preserved
loop-test-preserved c =
    All-more (PassesTest c.args.number) c.args.tests.now c.loop-test.test-index _ c.loop-test-test.true c.loop-test.invariant (c.passes_one.ensures.0 (search rules))

pub returns : goal.returns
returns c =
    (λ _. subst (All (PassesTest c.args.number)) (take_all c.loop-test.test-index c.args.tests.now (omega arith)) c.loop-test.invariant, λ _. search rules)
