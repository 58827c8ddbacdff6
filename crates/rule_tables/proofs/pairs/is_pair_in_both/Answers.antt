use Rattle.std.proofs.Common.{◌∙◌, ℕ, List, subst, sym, true≢false}
use Rattle.std.specs.List.{Contains}
use Rattle.std.proofs.lemmas.List.{nil_from_length}
use Rattle.list_facts.proofs.Members.{Contains-nil}
use Rattle.rule_tables.proofs.OtherRules.{passed}
use Rattle.rule_tables.proofs.pairs.is_pair_in_both.Goals as goal

pub is_pair_of_listed-requires-clause-listed : goal.is_pair_of_listed-requires-clause-listed
is_pair_of_listed-requires-clause-listed g c = λ has. (c.requires.all c.in-Some.first.now has).1

pub rest-preserved : goal.rest-preserved
rest-preserved g c = λ order_key h other.
    passed (g.R.OrderKeyedRules.rules c.args.rules.now) c.args.own c.args.selector.now c.args.decl.now c.in-Some.first.now c.in-Some.behind.now c.rest.rest.now c.in-Some.ensures.cases.0
    (λ o. true≢false (sym (c.is_pair_of_listed.ensures.1 o) ∙ c.if-is_pair_of_listed.false)) order_key (c.rest.invariant order_key h other) other

pub returns : goal.returns
returns g c = (
  λ h. absurd (true≢false (sym h)),
  λ a. absurd (Contains-nil a.0 (subst (λ (order_keys : List ℕ). Contains order_keys a.0) (nil_from_length c.rest.rest.now c.in_default.ensures.cases) (c.rest.invariant a.0 (c.requires.all a.0 a.2).0 (a.1, a.2)))),
)
