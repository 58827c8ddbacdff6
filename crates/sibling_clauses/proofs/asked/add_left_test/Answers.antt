use Rattle.std.proofs.Common.{arith, subst, sym, ◌∙◌}
use Rattle.std.specs.List.{AllByRecursion}
use Rattle.sibling_clauses.proofs.Testing.{compound_keeps}
use Rattle.sibling_clauses.proofs.asked.add_left_test.Goals as goal
use Rattle.selector_laws.specs.Limits.{KeepsTest}

pub add_positions-requires-clause-tests : goal.add_positions-requires-clause-tests
add_positions-requires-clause-tests c =
    subst (λ ss. AllByRecursion (λ s. KeepsTest s.test) ss) (sym c.simples_at-simples.ensures) (compound_keeps c.args.chain.now c.args.i _ c.requires.tests (omega (arith, c.requires.chain, c.requires.compound)))

pub add_positions-requires-clause-room : goal.add_positions-requires-clause-room
add_positions-requires-clause-room c =
    rw (c.left_root-root.ensures.value, c.child-child.ensures.value, c.in_ok-before.ensures.value, c.in_ok-after.ensures.value, c.simples_at-simples.ensures) c.requires.room

pub returns : goal.returns
returns c =
    c.in_ok-add_positions.ensures
    ∙ rw (c.left_root-root.ensures.value, c.child-child.ensures.value, c.in_ok-before.ensures.value, c.in_ok-after.ensures.value, c.simples_at-simples.ensures)
