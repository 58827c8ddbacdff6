use Rattle.std.proofs.Common.{ℕ, ◌≡◌, ◌⊎◌, inl, inr, subst, sym}
use Rattle.std.proofs.lemmas.Bool.{cases_eq}
use Rattle.rule_tables.specs.Ahead.{IsAhead}
use Rattle.next_step.specs.Common.{AreInCommonAt}
use Rattle.next_step.specs.Kinds.{IsByDecls}
use Rattle.next_step.proofs.DeclLate.{rest_above}
use Rattle.next_step.proofs.InCommon.{fewer_ahead, none_left, one_more, rest_covered}
use Rattle.next_step.proofs.LeftOut.{tells_beside, tells_met, tells_same_beside}
use Rattle.next_step.proofs.Looking.{grows_both, grows_itself}
use Rattle.next_step.proofs.by_declarations.try_above.Goals as goal

pub order_keys-init : goal.order_keys-init
order_keys-init c = record {
  grows = grows_itself c.args.view.now c.args.found.now;
  covers = λ x k among with_it by. inr among;
  above = c.requires.above;
  common = λ x among. tells_beside c.args.view.now c.args.focus.now c.args.order_keys c.none_left_out-left.result c.none_left_out-left.ensures x (c.requires.common x among);
}

pub try_partner-requires-clause-common : goal.try_partner-requires-clause-common
try_partner-requires-clause-common c =
    subst (λ (x : ℕ). AreInCommonAt c.args.view.now c.args.focus.now x c.met_beside.result.common) (sym c.met_beside.ensures.order_key)
    (tells_met c.args.view.now c.args.focus.now c.leave_out_light-left.new.order_keys c.leave_out_light-left.result c.in-Some.met.common c.met_beside.result.common c.in-Some.met.order_key
    (c.leave_out_light-left.ensures.leaves.common c.in-Some.met.order_key c.in-Some.ensures.first.0) c.in-Some.ensures.common c.met_beside.ensures.count c.met_beside.ensures.weight)

pub order_keys-preserved : goal.order_keys-preserved
order_keys-preserved c = record {
  grows = grows_both c.args.view.now c.args.found.now c.order_keys.found c.try_partner.new.found c.order_keys.invariant.grows c.in_ok-try_partner.ensures.grows;
  covers = one_more c.args.view.now c.args.focus.now.number IsByDecls c.order_keys.found c.try_partner.new.found c.args.order_keys c.leave_out_light-left.new.order_keys c.next.new.self c.met_beside.result.order_key
      left c.in_ok-try_partner.ensures.grows
      (fewer_ahead c.args.view.now c.args.focus.now.number IsByDecls c.order_keys.found c.args.order_keys c.order_keys.order_keys c.leave_out_light-left.new.order_keys c.leave_out_light-left.ensures.leaves.covers c.order_keys.invariant.covers)
      c.in_ok-try_partner.ensures.covers;
  above = λ x among. c.order_keys.invariant.above x (c.leave_out_light-left.ensures.leaves.ahead x ((c.in-Some.ensures.rest x).0 among).0);
  common = λ x among. tells_same_beside c.args.view.now c.args.focus.now (λ k. k ≡ c.in-Some.met.order_key → ⊥) c.leave_out_light-left.new.order_keys c.next.new.self c.leave_out_light-left.result c.in-Some.ensures.others x
      ((c.in-Some.ensures.rest x).0 among).1 (c.leave_out_light-left.ensures.leaves.common x ((c.in-Some.ensures.rest x).0 among).0);
}
  where
    left : (k : ℕ) → IsAhead c.leave_out_light-left.new.order_keys k → (k ≡ c.met_beside.result.order_key) ⊎ IsAhead c.next.new.self k
    left k among = elim (cases_eq k c.in-Some.met.order_key) [ inl same ↦ inl (subst (λ (x : ℕ). k ≡ x) (sym c.met_beside.ensures.order_key) same) | inr other ↦ inr ((c.in-Some.ensures.rest k).1 (among, other)) ]

pub returns-in_default-clause-covers : goal.returns-in_default-clause-covers
returns-in_default-clause-covers c =
    none_left c.args.view.now c.args.focus.now.number IsByDecls c.order_keys.found c.args.order_keys c.leave_out_light-left.new.order_keys (rw c.in_default.is at c.next.ensures.none)
    (fewer_ahead c.args.view.now c.args.focus.now.number IsByDecls c.order_keys.found c.args.order_keys c.order_keys.order_keys c.leave_out_light-left.new.order_keys c.leave_out_light-left.ensures.leaves.covers c.order_keys.invariant.covers)

pub returns-then-are_late_from-clause-covers : goal.returns-then-are_late_from-clause-covers
returns-then-are_late_from-clause-covers c =
    rest_covered c.args.view.now c.args.focus.now.number IsByDecls c.order_keys.found c.args.order_keys c.leave_out_light-left.new.order_keys
    (rest_above c.args.view.now c.args.focus.now c.requires.focus c.marks-marks.ensures.are_marks c.order_keys.found c.most_above-most.result c.in-Some.met.order_key (IsAhead c.leave_out_light-left.new.order_keys)
    c.in-Some.ensures.first.0 c.in-Some.ensures.first.1 (λ x among. c.order_keys.invariant.above x (c.leave_out_light-left.ensures.leaves.ahead x among)) (c.requires.focus.once (c.are_late_from.ensures.once c.if-are_late_from.true)) c.most_above-most.ensures
    (c.are_late_from.ensures.late c.if-are_late_from.true))
    (fewer_ahead c.args.view.now c.args.focus.now.number IsByDecls c.order_keys.found c.args.order_keys c.order_keys.order_keys c.leave_out_light-left.new.order_keys c.leave_out_light-left.ensures.leaves.covers c.order_keys.invariant.covers)
