use Rattle.std.proofs.Common.{ℕ, List, sym, subst, inr}
use Rattle.std.specs.List.{Contains}
use Rattle.std.specs.List.Sorted.{IsStrictlyIncreasing}
use Rattle.std.proofs.lemmas.List.{nil_from_length}
use Rattle.list_facts.proofs.Members.{Contains-there}
use Rattle.next_step.specs.Kinds.{IsSelectorJoin}
use Rattle.next_step.proofs.LaterOrderKeys.{ascends_behind, none_left, one_more, rest_covered}
use Rattle.next_step.proofs.Looking.{grows_both, grows_itself}
use Rattle.next_step.proofs.SelectorJoins.{joins_are_late}
use Rattle.next_step.proofs.by_selectors.try_side.Goals as goal

pub rest-init : goal.rest-init
rest-init c = record {
  grows = grows_itself c.args.view.now c.args.found.now;
  covers = λ x k among with_it join. inr among;
  within = λ x among. among;
  ascends = c.requires.ascends;
}

pub rest-preserved : goal.rest-preserved
rest-preserved c = record {
  grows = grows_both c.args.view.now c.args.found.now c.rest.found c.try_partner.new.found c.rest.invariant.grows c.in_ok-try_partner.ensures.grows;
  covers = one_more c.args.view.now c.args.focus.now.number IsSelectorJoin c.rest.found c.try_partner.new.found c.args.order_keys.now c.rest.rest.now c.in-Some.behind.now c.in-Some.order_key.now
      c.in-Some.ensures.cases.0 c.in_ok-try_partner.ensures.grows c.rest.invariant.covers c.in_ok-try_partner.ensures.covers;
  within = λ x among. c.rest.invariant.within x (subst (λ (xs : List ℕ). Contains xs x) (sym c.in-Some.ensures.cases.0) (Contains-there c.in-Some.order_key.now c.in-Some.behind.now x among));
  ascends = ascends_behind c.in-Some.order_key.now c.in-Some.behind.now (subst IsStrictlyIncreasing c.in-Some.ensures.cases.0 c.rest.invariant.ascends);
}

pub returns-then-are_late_from-clause-covers : goal.returns-then-are_late_from-clause-covers
returns-then-are_late_from-clause-covers c =
    rest_covered c.args.view.now c.args.focus.now.number IsSelectorJoin c.rest.found c.args.order_keys.now c.rest.rest.now
    (joins_are_late c.args.view.now c.requires.view c.args.focus.now c.requires.focus c.rest.found c.args.view.now.indexed.now.next c.marks-marks.ensures.are_marks c.heaviest-heaviest.result (rw c.heaviest-heaviest.ensures c.requires.view.weighed.all)
    c.in-Some.order_key.now c.in-Some.behind.now c.rest.rest.now c.args.order_keys.now c.in-Some.ensures.cases.0 c.rest.invariant.ascends c.rest.invariant.within c.requires.side
    (c.are_late_from.ensures c.if-are_late_from.true))
    c.rest.invariant.covers

pub returns-clause-covers : goal.returns-clause-covers
returns-clause-covers c = none_left c.args.view.now c.args.focus.now.number IsSelectorJoin c.rest.found c.args.order_keys.now c.rest.rest.now
    (nil_from_length c.rest.rest.now (rw c.in_default.is at c.split_first.ensures.cases)) c.rest.invariant.covers
