use Rattle.std.proofs.Common.{List, [], ap, arith, subst, sym, ◌++◌, ◌∙◌, ◌≡◌}
use Rattle.std.proofs.lemmas.List.{take_all}
use Rattle.std.specs.List.{cons_option, filter_map}
use Rattle.formula_laws.specs.Refused.{refused_test}
use Rattle.formula_laws.specs.declared.refused.Refused.{Refused}
use Rattle.hint_clauses.proofs.Refusing.{one_refused_more, tests_brief}
use Rattle.hint_clauses.proofs.refused.refused_tests.Goals as goal
use Rattle.hint_clauses.specs.Known.{AreBrief}
use Rattle.sibling_clauses.proofs.ForCallers.{keeps_item}

pub push_refused-requires : goal.push_refused-requires
push_refused-requires c = keeps_item c.args.simples.now c.loop-simple.simple-index c.simple-item.result c.requires c.loop-simple-test.true c.simple-item.is

pub loop-simple-preserved : goal.loop-simple-preserved
loop-simple-preserved c =
    c.in_ok-push_refused.ensures ∙ ap (λ (ts : List Refused). ts ++ cons_option (refused_test c.args.count c.simple-item.result) []) c.loop-simple.invariant
    ∙ sym (one_refused_more [] c.args.count c.args.simples.now c.loop-simple.simple-index c.simple-item.result c.loop-simple-test.true c.simple-item.is)

pub returns-clause-brief : goal.returns-clause-brief
returns-clause-brief c =
    let made : c.loop-simple.tests.items ≡ filter_map (refused_test c.args.count) c.args.simples.now = c.loop-simple.invariant ∙ ap (filter_map (refused_test c.args.count)) (take_all c.loop-simple.simple-index c.args.simples.now (omega arith)) in
    subst AreBrief (sym made) (tests_brief c.args.count c.args.simples.now c.requires)
