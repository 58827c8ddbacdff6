use Rattle.std.proofs.Common.{arith, subst, sym, ◌∙◌}
use Rattle.std.specs.List.{AllByRecursion}
use Rattle.hint_clauses.proofs.Briefly.{compound_keeps}
use Rattle.hint_clauses.proofs.Gathered.{compound_here, compound_out}
use Rattle.hint_clauses.proofs.asked.push_compound_rests.Goals as goal
use Rattle.selector_laws.specs.Limits.{KeepsTest}

pub returns-then-not-are_joined : goal.returns-then-not-are_joined
returns-then-not-are_joined c =
    compound_out c.args.count c.args.links.now c.args.chain.now c.args.p c.args.q c.args.rests.now.items (sym c.are_joined.ensures.value ∙ c.if-not-are_joined.true)

pub push_rests-requires-clause-tests : goal.push_rests-requires-clause-tests
push_rests-requires-clause-tests c =
    subst (λ ss. AllByRecursion (λ s. KeepsTest s.test) ss) (sym c.simples_at-simples.ensures) (compound_keeps c.args.chain.now c.requires.tests c.args.q)

pub returns : goal.returns
returns c =
    compound_here c.args.count c.args.links.now c.args.chain.now c.args.p c.args.q _ _ c.args.rests.now.items _ (sym c.are_joined.ensures.value ∙ c.if-not-are_joined.false) (omega arith) c.simples_at-simples.ensures
    c.in_ok-push_rests.ensures
