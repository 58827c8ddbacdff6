use Rattle.std.proofs.Common.{ap, arith, length, ◌∙◌}
use Rattle.clause_encode.proofs.Whole.{all_rooms, conditions_grow}
use Rattle.clause_encode.proofs.pair.add_all.Goals as goal
use Rattle.clause_encode.specs.Fits.{is_fit}
use Rattle.formula_laws.specs.Allowed.{allowed_by}
use Rattle.formula_laws.specs.Formula.{names_of}
use Rattle.formula_laws.specs.Hinted.{with_hints}

pub add_conditions-requires-clause-room : goal.add_conditions-requires-clause-room
add_conditions-requires-clause-room c =
    all_rooms c.args.left.now c.args.right.now (allowed_by (is_fit (length c.args.left.now.links) (length c.args.right.now.links) c.args.fits.now) c.args.left.now c.args.right.now) (names_of c.args.g.left c.args.g.right c.args.g.digits) c.args.f.now _ c.requires.room

pub add_hints-requires-clause-in_range : goal.add_hints-requires-clause-in_range
add_hints-requires-clause-in_range c =
    let more = conditions_grow c.args.left.now c.args.right.now (allowed_by (is_fit (length c.args.left.now.links) (length c.args.right.now.links) c.args.fits.now) c.args.left.now c.args.right.now) (names_of c.args.g.left c.args.g.right c.args.g.digits) c.args.f.now in
    rw c.in_ok-add_conditions.ensures (omega (arith, more, c.requires.in_range))

pub add_hints-requires-clause-room : goal.add_hints-requires-clause-room
add_hints-requires-clause-room c = rw c.in_ok-add_conditions.ensures c.requires.room

pub returns : goal.returns
returns c = c.in_ok-add_hints.ensures ∙ ap (with_hints c.args.left.now c.args.right.now (names_of c.args.g.left c.args.g.right c.args.g.digits)) c.in_ok-add_conditions.ensures
