use Rattle.std.proofs.Common.{arith, ◌∙◌}
use Rattle.formula_laws.specs.Formula.{names_of}
use Rattle.hint_clauses.proofs.Hinting.{all_rooms}
use Rattle.hint_clauses.proofs.hints.add_all_hints.Goals as goal

pub add_asked_hints-requires-clause-room : goal.add_asked_hints-requires-clause-room
add_asked_hints-requires-clause-room c = (all_rooms c.args.left.now c.args.right.now (names_of c.args.g.left c.args.g.right c.args.g.digits) c.args.f.now _ c.requires.room).asked

pub add_refused_hints-requires-clause-in_range : goal.add_refused_hints-requires-clause-in_range
add_refused_hints-requires-clause-in_range c =
    let r = all_rooms c.args.left.now c.args.right.now (names_of c.args.g.left c.args.g.right c.args.g.digits) c.args.f.now _ c.requires.room in
    rw c.in_ok-add_asked_hints.ensures (omega (arith, r.asked_more, c.requires.in_range))

pub add_refused_hints-requires-clause-room : goal.add_refused_hints-requires-clause-room
add_refused_hints-requires-clause-room c =
    let r = all_rooms c.args.left.now c.args.right.now (names_of c.args.g.left c.args.g.right c.args.g.digits) c.args.f.now _ c.requires.room in
    rw c.in_ok-add_asked_hints.ensures r.refused

pub add_distance_hints-requires-clause-in_range : goal.add_distance_hints-requires-clause-in_range
add_distance_hints-requires-clause-in_range c =
    let r = all_rooms c.args.left.now c.args.right.now (names_of c.args.g.left c.args.g.right c.args.g.digits) c.args.f.now _ c.requires.room in
    rw (c.in_ok-add_refused_hints.ensures, c.in_ok-add_asked_hints.ensures) (omega (arith, r.refused_more, c.requires.in_range))

pub add_distance_hints-requires-clause-room : goal.add_distance_hints-requires-clause-room
add_distance_hints-requires-clause-room c = rw (c.in_ok-add_refused_hints.ensures, c.in_ok-add_asked_hints.ensures) c.requires.room

pub returns : goal.returns
returns c = c.in_ok-add_distance_hints.ensures ∙ rw (c.in_ok-add_refused_hints.ensures, c.in_ok-add_asked_hints.ensures)
