use Rattle.std.proofs.Common.{subst, sym, ◌^◌, ◌∙◌, ◌≤◌}
use Rattle.cnf.specs.Cnf.{Cnf}
use Rattle.hint_clauses.proofs.Failing.{compound_is, compound_out, root_below}
use Rattle.hint_clauses.proofs.refusals.add_refused_compound.Goals as goal
use Rattle.sibling_clauses.proofs.ForCallers.{lit_stays_in_range}

pub returns-then-not-is_of_run : goal.returns-then-not-is_of_run
returns-then-not-is_of_run c = compound_out c.args.selector.now c.args.run.now c.args.k c.args.f.now (sym c.is_of_run.ensures.value ∙ c.if-not-is_of_run.true)

pub add_refused_tests-requires-clause-others : goal.add_refused_tests-requires-clause-others
add_refused_tests-requires-clause-others c = root_below _ _ c.args.run.now.root _ (c.deref.ensures.value ∙ c.in_ok-others.ensures) (lit_stays_in_range _ _ c.args.run.now.root c.requires.root c.requires.in_range)

pub add_refused_tests-requires-clause-room : goal.add_refused_tests-requires-clause-room
add_refused_tests-requires-clause-room c =
    subst (λ (h : Cnf). h.vars ≤ 2 ^ 30)
    (compound_is c.args.selector.now c.args.run.now c.args.k _ _ _ c.args.f.now (sym c.is_of_run.ensures.value ∙ c.if-not-is_of_run.false) c.in_ok-number.ensures.value (c.deref.ensures.value ∙ c.in_ok-others.ensures)
    (c.deref-2.ensures.value ∙ c.in_ok-tests.ensures.value))
    c.requires.room

pub returns : goal.returns
returns c =
    c.in_ok-add_refused_tests.ensures
    ∙ sym (compound_is c.args.selector.now c.args.run.now c.args.k _ _ _ c.args.f.now (sym c.is_of_run.ensures.value ∙ c.if-not-is_of_run.false) c.in_ok-number.ensures.value (c.deref.ensures.value ∙ c.in_ok-others.ensures)
    (c.deref-2.ensures.value ∙ c.in_ok-tests.ensures.value))
