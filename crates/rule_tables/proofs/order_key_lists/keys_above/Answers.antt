use Rattle.std.proofs.Common.{ℕ, List, subst}
use Rattle.std.proofs.lemmas.List.{nil_from_length}
use Rattle.std.specs.List.{Contains}
use Rattle.list_facts.proofs.Members.{Contains-nil}
use Rattle.rule_tables.proofs.Ascending.{above_at, all_above, behind_ascends, none_at}
use Rattle.rule_tables.proofs.order_key_lists.keys_above.Goals as goal

pub returns-in_default-clause-above : goal.returns-in_default-clause-above
returns-in_default-clause-above c =
    all_above c.args.order_keys.now c.keys_from-rest.result.now c.args.at c.keys_from-rest.ensures.from
    (λ h. Contains-nil c.args.at (subst (λ (ks : List ℕ). Contains ks c.args.at) (nil_from_length c.keys_from-rest.result.now c.in_default.ensures.cases) h))

pub returns-then-first-at-clause-ascends : goal.returns-then-first-at-clause-ascends
returns-then-first-at-clause-ascends c = behind_ascends c.keys_from-rest.result.now c.in-Some.behind.now c.in-Some.first.now c.in-Some.ensures.cases.0 c.keys_from-rest.ensures.ascends

pub returns-then-first-at-clause-above : goal.returns-then-first-at-clause-above
returns-then-first-at-clause-above c =
    above_at c.args.order_keys.now c.keys_from-rest.result.now c.in-Some.behind.now c.in-Some.first.now c.args.at c.in-Some.ensures.cases.0 c.keys_from-rest.ensures.ascends c.keys_from-rest.ensures.from c.if-first-at.true

pub returns-clause-above : goal.returns-clause-above
returns-clause-above c =
    none_at c.args.order_keys.now c.keys_from-rest.result.now c.in-Some.behind.now c.in-Some.first.now c.args.at c.in-Some.ensures.cases.0 c.keys_from-rest.ensures.ascends c.keys_from-rest.ensures.from c.if-first-at.false
