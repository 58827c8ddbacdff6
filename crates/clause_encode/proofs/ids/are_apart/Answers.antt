use Rattle.std.proofs.Common.{ap, length, sym, true, ◌∙◌}
use Rattle.clause_encode.proofs.Apart.{all_more, all_not}
use Rattle.clause_encode.proofs.ids.are_apart.Goals as goal
use Rattle.formula_laws.specs.Allowed.{apart_in}
use Rattle.grid_laws.specs.Solved.{nth_compound}

pub returns-then-not-is_apart : goal.returns-then-not-is_apart
returns-then-not-is_apart c =
    sym (all_not (length c.args.chain.now) c.loop-i.i (λ i. apart_in (nth_compound c.args.chain.now i) c.args.chain.now (length c.args.chain.now) true i) c.loop-i-test.true
    (sym (c.is_apart.ensures ∙ ap (λ simples. apart_in simples c.args.chain.now (length c.args.chain.now) true c.loop-i.i) c.simples_at.ensures) ∙ c.if-not-is_apart.true))

pub loop-i-preserved : goal.loop-i-preserved
loop-i-preserved c =
    all_more c.loop-i.i (λ i. apart_in (nth_compound c.args.chain.now i) c.args.chain.now (length c.args.chain.now) true i) c.loop-i.invariant
    (sym (c.is_apart.ensures ∙ ap (λ simples. apart_in simples c.args.chain.now (length c.args.chain.now) true c.loop-i.i) c.simples_at.ensures) ∙ c.if-not-is_apart.false)
