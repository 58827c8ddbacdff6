use Rattle.rule_tables.proofs.ForCallers.{none_then, some_then}
use Rattle.step_candidates.proofs.RuleNumbers.{no_rule, the_rule}
use Rattle.step_candidates.proofs.numbered.rule_with.Goals as goal

pub returns-clause-some : goal.returns-clause-some
returns-clause-some c =
    some_then c.find_rule.result _ _ (λ rule at. the_rule c.order_keyed_rules_stand.ensures c.rules_are_order_keyed.ensures c.args.sheet.now.items c.args.order_key rule.now at) c.find_rule.ensures.some

pub returns-clause-none : goal.returns-clause-none
returns-clause-none c =
    none_then c.find_rule.result (λ none. no_rule c.order_keyed_rules_stand.ensures c.rules_are_order_keyed.ensures c.args.sheet.now.items c.args.order_key none) c.find_rule.ensures.none
