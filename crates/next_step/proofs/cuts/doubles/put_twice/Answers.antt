use Rattle.std.proofs.Common.{ℕ, List, sym, subst}
use Rattle.std.specs.List.Sorted.{IsNonDecreasingBy}
use Rattle.std.proofs.lemmas.List.{nil_from_length}
use Rattle.next_step.specs.Repeated.{HasTwice}
use Rattle.next_step.proofs.Repeats.{ascends_behind, none_twice, with_first}
use Rattle.next_step.proofs.cuts.doubles.put_twice.Goals as goal

pub rest-init : goal.rest-init
rest-init c = record {
  ascends = c.requires;
  done = λ set keeps twice. twice;
}

pub put_if_twice-requires : goal.put_if_twice-requires
put_if_twice-requires c = subst (IsNonDecreasingBy (λ (n : ℕ). n)) c.in-Some.ensures.cases.0 c.rest.invariant.ascends

pub rest-preserved : goal.rest-preserved
rest-preserved c = record {
  ascends = ascends_behind c.in-Some.first.now c.in-Some.behind.now (subst (IsNonDecreasingBy (λ (n : ℕ). n)) c.in-Some.ensures.cases.0 c.rest.invariant.ascends);
  done = λ set keeps twice. c.rest.invariant.done set (λ n has. keeps n (c.in_ok-put_if_twice.ensures.keeps n has))
      (subst (λ (ns : List ℕ). HasTwice ns set) (sym c.in-Some.ensures.cases.0) (with_first c.in-Some.first.now c.in-Some.behind.now set (λ again. keeps c.in-Some.first.now (c.in_ok-put_if_twice.ensures.twice again)) twice));
}

pub returns : goal.returns
returns c = c.rest.invariant.done c.rest.found (λ n has. has) (subst (λ (ns : List ℕ). HasTwice ns c.rest.found) (sym (nil_from_length c.rest.rest.now (rw c.in_default.is at c.split_first.ensures.cases))) (none_twice c.rest.found))
