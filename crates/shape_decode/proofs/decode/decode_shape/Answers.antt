use Rattle.std.proofs.Common.{length, subst, sym}
use Rattle.clause_encode.specs.Fits.{is_fit}
use Rattle.nth_positions.specs.Gaps.{bounds_of}
use Rattle.shape_decode.proofs.decode.decode_shape.Goals as goal
use Rattle.slot_plan.specs.Parts.{pair_parts}
use Rattle.slot_plan.specs.ValidShape.{ValidShape}

pub returns-clause-valid : goal.returns-clause-valid
returns-clause-valid c =
    let x = c.args.plan.now.left in
    let y = c.args.plan.now.right in
    let model = c.requires.model in
    subst (ValidShape x y) (sym c.in_ok-shape.ensures)
    (c.satisfying_shapes_fit.ensures (bounds_of (pair_parts x y)).width (is_fit (length x.links) (length y.links) model.0.fits) x y
    (c.tables_are_ready.ensures model.0 x y model.1 c.requires.left c.requires.right) c.args.values.now model.2)
