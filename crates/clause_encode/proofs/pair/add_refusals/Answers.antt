use Rattle.std.proofs.Common.{ap, length, ◌∙◌}
use Rattle.clause_encode.proofs.Whole.{refusals_whole}
use Rattle.clause_encode.proofs.pair.add_refusals.Goals as goal
use Rattle.clause_encode.specs.Fits.{is_fit}
use Rattle.cnf.specs.Gates.{with_clauses}
use Rattle.formula_laws.specs.Allowed.{allowed_by, pair_fits, whole_clauses}

pub returns : goal.returns
returns c =
    c.in_ok-add_whole.ensures ∙ ap (λ f. with_clauses f (whole_clauses (pair_fits c.args.left.now c.args.right.now))) c.in_ok-add_nodes.ensures
    ∙ refusals_whole c.args.left.now c.args.right.now c.args.g.left c.args.g.right (allowed_by (is_fit (length c.args.left.now.links) (length c.args.right.now.links) c.args.fits.now) c.args.left.now c.args.right.now) c.args.f.now c.requires.left c.requires.right
