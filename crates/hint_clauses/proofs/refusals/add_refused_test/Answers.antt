use Rattle.std.proofs.Common.{ap, subst, sym, ◌^◌, ◌∙◌, ◌≤◌}
use Rattle.std.specs.List.{list_any}
use Rattle.cnf.specs.Cnf.{Cnf}
use Rattle.formula_laws.specs.Refused.{is_met}
use Rattle.hint_clauses.proofs.Failing.{lits_below, near_places, test_is, test_made, test_out}
use Rattle.hint_clauses.proofs.refusals.add_refused_test.Goals as goal

pub is_any_met-met-requires-clause-places : goal.is_any_met-met-requires-clause-places
is_any_met-met-requires-clause-places c = rw c.as_slice.ensures.value (near_places _ c.args.run.now.joints.items c.requires.near)

pub returns-then-not-met : goal.returns-then-not-met
returns-then-not-met c =
    test_out c.args.run.now c.args.far c.args.number.now c.args.others.now c.args.test c.args.f.now
    (sym (c.is_any_met-met.ensures ∙ ap (list_any (is_met c.args.run.now.count c.args.far c.args.test.rest)) c.as_slice.ensures.value) ∙ c.if-not-met.true)

pub failing-requires-clause-room : goal.failing-requires-clause-room
failing-requires-clause-room c =
    subst (λ (h : Cnf). h.vars ≤ 2 ^ 30)
    (test_is c.args.run.now c.args.far c.args.number.now c.args.others.now c.args.test c.args.f.now
    (sym (c.is_any_met-met.ensures ∙ ap (list_any (is_met c.args.run.now.count c.args.far c.args.test.rest)) c.as_slice.ensures.value) ∙ c.if-not-met.false))
    c.requires.room

pub returns : goal.returns
returns c =
    test_made c.args.run.now c.args.far c.args.number.now c.args.others.now _ c.args.test _ c.args.f.now _ _
    (sym (c.is_any_met-met.ensures ∙ ap (list_any (is_met c.args.run.now.count c.args.far c.args.test.rest)) c.as_slice.ensures.value) ∙ c.if-not-met.false)
    c.in_ok-literal.ensures.formula c.in_ok-literal.ensures.answer c.in_ok-lits.ensures
    (c.in_ok-add_met_clauses.ensures ∙ rw (c.as_slice-2.ensures.value, c.as_slice-3.ensures.value))

pub add_met_clauses-requires-clause-lits : goal.add_met_clauses-requires-clause-lits
add_met_clauses-requires-clause-lits c =
    lits_below _ _ c.in_ok-literal.literal c.args.others.now _ (c.as_slice-2.ensures.value ∙ c.in_ok-lits.ensures) c.in_ok-literal.ensures.in_range c.requires.others c.in_ok-literal.ensures.grows
