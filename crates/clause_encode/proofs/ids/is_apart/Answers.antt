use Rattle.std.proofs.Common.{ap, length, not, sym, ◌&&◌, ◌||◌, ◌∙◌}
use Rattle.std.specs.Prelude.{◌==◌}
use Rattle.clause_encode.proofs.Apart.{all_more, all_not}
use Rattle.clause_encode.proofs.ids.is_apart.Goals as goal
use Rattle.formula_laws.specs.Allowed.{share_id}
use Rattle.grid_laws.specs.Solved.{nth_compound}

pub returns-then-not-may_stand : goal.returns-then-not-may_stand
returns-then-not-may_stand c =
    sym (all_not (length c.args.chain.now) c.loop-i.i (λ i. (c.args.beside && (i == c.args.k)) || not (share_id c.args.simples.now (nth_compound c.args.chain.now i))) c.loop-i-test.true
    (sym (c.may_stand.ensures ∙ ap (λ others. (c.args.beside && (c.loop-i.i == c.args.k)) || not (share_id c.args.simples.now others)) c.simples_at.ensures) ∙ c.if-not-may_stand.true))

pub loop-i-preserved : goal.loop-i-preserved
loop-i-preserved c =
    all_more c.loop-i.i (λ i. (c.args.beside && (i == c.args.k)) || not (share_id c.args.simples.now (nth_compound c.args.chain.now i))) c.loop-i.invariant
    (sym (c.may_stand.ensures ∙ ap (λ others. (c.args.beside && (c.loop-i.i == c.args.k)) || not (share_id c.args.simples.now others)) c.simples_at.ensures) ∙ c.if-not-may_stand.false)
