use Rattle.std.proofs.Common.{List, [], ap, sym, ◌++◌, ◌∙◌}
use Rattle.std.specs.List.{cons_option}
use Rattle.formula_laws.specs.Asked.{asked_rest}
use Rattle.hint_clauses.proofs.Gathered.{one_more}
use Rattle.hint_clauses.proofs.asked.push_rests.Goals as goal
use Rattle.remainders.specs.declared.remainder.Remainder.{Remainder}
use Rattle.sibling_clauses.proofs.ForCallers.{keeps_item}

pub push_asked-requires-clause-test : goal.push_asked-requires-clause-test
push_asked-requires-clause-test c = keeps_item c.args.simples.now c.loop-simple.simple-index c.simple-item.result c.requires.tests c.loop-simple-test.true c.simple-item.is

pub loop-simple-preserved : goal.loop-simple-preserved
loop-simple-preserved c =
    c.in_ok-push_asked.ensures ∙ ap (λ (rs : List Remainder). rs ++ cons_option (asked_rest c.args.count c.args.right c.simple-item.result) []) c.loop-simple.invariant
    ∙ sym (one_more c.args.rests.now.items c.args.count c.args.right c.args.simples.now c.loop-simple.simple-index c.simple-item.result c.loop-simple-test.true c.simple-item.is)
