use Rattle.std.proofs.Common.{◌↔◌, ℕ, List, Some, None, sym, subst}
use Rattle.std.specs.List.{Contains}
use Rattle.list_facts.proofs.Members.{Contains-nil}
use Rattle.rule_tables.specs.Entries.{entry}
use Rattle.rule_tables.proofs.ListedEntries.{IsAmong, found_under}
use Rattle.rule_tables.proofs.order_key_lists.OrderKeyLists.under.Goals as goal

pub returns-in-Some-clause-same : goal.returns-in-Some-clause-same
returns-in-Some-clause-same c = λ order_key.
    subst (λ (order_keys : List ℕ). Contains order_keys order_key ↔ Contains c.args.self.now (entry c.args.digest order_key)) (sym c.list.ensures.list)
    (found_under c.self.inside.lists.entries c.self.invariant c.args.self.now c.self.view_is c.args.digest (Some c.in-Some.list.now) c.in-Some.ensures.value order_key)

pub returns-in-None-clause-same : goal.returns-in-None-clause-same
returns-in-None-clause-same c = λ order_key.
    let none : IsAmong None order_key ↔ Contains c.args.self.now (entry c.args.digest order_key) = found_under c.self.inside.lists.entries c.self.invariant c.args.self.now c.self.view_is c.args.digest None c.in-None.ensures.value order_key in
    (λ h. absurd (Contains-nil order_key h), λ h. absurd (none.1 h))
