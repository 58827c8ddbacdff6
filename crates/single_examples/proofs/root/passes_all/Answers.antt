use Rattle.std.proofs.Common.{rules, true, ℕ, ◌<◌, ◌≤◌, length, take, subst, sym, arith, get_or}
use Rattle.std.specs.List.{All}
use Rattle.std.proofs.lemmas.List.{take_all}
use Rattle.std.proofs.lemmas.List.Elements.{All-more}
use Rattle.slot_plan.specs.Positions.{PositionFits}
use Rattle.single_examples.specs.Examples.{RootPasses}
use Rattle.single_examples.proofs.root.passes_all.Goals as goal

pub loop-simple-preserved : goal.loop-simple-preserved
loop-simple-preserved c =
    All-more (PositionFits true c.args.root_is_child 0 0) c.args.simples.now c.loop-simple.simple-index c.simple-item.result c.loop-simple-test.true c.loop-simple.invariant
    (subst (PositionFits true c.args.root_is_child 0 0) c.simple-item.is (c.passes.ensures.0 (search rules)))

pub returns : goal.returns
returns c =
    (λ _. subst (RootPasses c.args.root_is_child) (take_all c.loop-simple.simple-index c.args.simples.now (omega arith)) c.loop-simple.invariant, λ _. search rules)
