use Rattle.std.proofs.Common.{ap, arith, subst, sym, ◌∙◌, ◌≡◌}
use Rattle.clause_encode.proofs.Whole.{pair_made, pair_small}
use Rattle.clause_encode.proofs.pair.encode.Goals as goal
use Rattle.clause_encode.specs.Fits.{IsSmallFormula, pair_formula}

pub add_all-requires-clause-room : goal.add_all-requires-clause-room
add_all-requires-clause-room c =
    let made = ap (λ f. f.vars) (pair_made c.args.plan.now.left c.args.plan.now.right c.left.result.now c.right.result.now c.args.fits.now.fits c.fits.result.now c.numbering-g.result c.first_vars.result c.new-f.result c.left.ensures c.right.ensures c.fits.ensures c.numbering-g.ensures.value c.first_vars.ensures.value c.new-f.ensures) in
    let small = pair_small c.formula_is_small.ensures c.args.plan.now.left c.args.plan.now.right c.args.fits.now.fits c.requires.left c.requires.right c.numbering-g.ensures.wide in
    omega (arith, made, small.vars)

pub returns-clause-formula : goal.returns-clause-formula
returns-clause-formula c = c.in_ok-add_all.ensures ∙ pair_made c.args.plan.now.left c.args.plan.now.right c.left.result.now c.right.result.now c.args.fits.now.fits c.fits.result.now c.numbering-g.result c.first_vars.result c.new-f.result c.left.ensures c.right.ensures c.fits.ensures c.numbering-g.ensures.value c.first_vars.ensures.value c.new-f.ensures

pub returns-clause-small : goal.returns-clause-small
returns-clause-small c =
    let made : c.add_all.new.f ≡ pair_formula c.args.plan.now.left c.args.plan.now.right c.args.fits.now.fits = c.in_ok-add_all.ensures ∙ pair_made c.args.plan.now.left c.args.plan.now.right c.left.result.now c.right.result.now c.args.fits.now.fits c.fits.result.now c.numbering-g.result c.first_vars.result c.new-f.result c.left.ensures c.right.ensures c.fits.ensures c.numbering-g.ensures.value c.first_vars.ensures.value c.new-f.ensures in
    subst IsSmallFormula (sym made) (pair_small c.formula_is_small.ensures c.args.plan.now.left c.args.plan.now.right c.args.fits.now.fits c.requires.left c.requires.right c.numbering-g.ensures.wide)
