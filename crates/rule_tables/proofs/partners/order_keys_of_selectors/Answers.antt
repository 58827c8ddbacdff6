use Rattle.std.proofs.Common.{List, subst, sym}
use Rattle.std.specs.List.{Contains}
use Rattle.std.specs.List.Sorted.{IsStrictlyIncreasing}
use Rattle.list_facts.proofs.Members.{Contains-here, Contains-there}
use Rattle.css_model.specs.declared.sheet.SelItem.{SelItem}
use Rattle.rule_tables.proofs.Sharing.{IsOfOne, either, is_under_as, shared_by_one}
use Rattle.rule_tables.proofs.partners.order_keys_of_selectors.Goals as goal

pub rest-init : goal.rest-init
rest-init c = record {
  ascends = c.under-found.ensures.ascends;
  of_one = (
    c.in-Some.first.now,
    c.first_few.ensures.among c.in-Some.first.now (subst (λ (ss : List SelItem). Contains ss c.in-Some.first.now) (sym c.in-Some.ensures.cases.0) (Contains-here c.in-Some.first.now c.in-Some.behind.now)),
    is_under_as c.args.entries.now c.under-found.result.now c.selector_digest.ensures c.under-found.ensures.same,
  );
  among = λ s h. c.first_few.ensures.among s (subst (λ (ss : List SelItem). Contains ss s) (sym c.in-Some.ensures.cases.0) (Contains-there c.in-Some.first.now c.in-Some.behind.now s h));
}

pub rest-preserved : goal.rest-preserved
rest-preserved c = record {
  ascends = either IsStrictlyIncreasing c.rest.found.now c.under.result.now c.shorter-found.result.now c.shorter-found.ensures c.rest.invariant.ascends c.under.ensures.ascends;
  of_one = either (IsOfOne c.args.entries.now c.args.selectors.now) c.rest.found.now c.under.result.now c.shorter-found.result.now c.shorter-found.ensures c.rest.invariant.of_one (
    c.in-Some-split_first.next.now,
    c.rest.invariant.among c.in-Some-split_first.next.now
        (subst (λ (ss : List SelItem). Contains ss c.in-Some-split_first.next.now) (sym c.in-Some-split_first.ensures.cases.0) (Contains-here c.in-Some-split_first.next.now c.in-Some-split_first.behind.now)),
    is_under_as c.args.entries.now c.under.result.now c.selector_digest-in-Some-split_first.ensures c.under.ensures.same,
  );
  among = λ s h.
      c.rest.invariant.among s (subst (λ (ss : List SelItem). Contains ss s) (sym c.in-Some-split_first.ensures.cases.0) (Contains-there c.in-Some-split_first.next.now c.in-Some-split_first.behind.now s h));
}

pub returns-clause-shared : goal.returns-clause-shared
returns-clause-shared c = shared_by_one c.args.entries.now c.args.selectors.now c.rest.found.now c.rest.invariant.of_one
