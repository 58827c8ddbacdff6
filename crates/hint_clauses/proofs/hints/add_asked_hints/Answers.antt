use Rattle.std.proofs.Common.{arith, ◌∙◌}
use Rattle.hint_clauses.proofs.Whole.{asked_whole, hint_rooms}
use Rattle.hint_clauses.proofs.hints.add_asked_hints.Goals as goal

pub add_rises-requires-clause-room : goal.add_rises-requires-clause-room
add_rises-requires-clause-room c = rw c.links_of.ensures (hint_rooms c.args.left.now c.args.right.now c.args.g c.args.f.now _ c.requires.room).left

pub add_rises-requires-2-clause-in_range : goal.add_rises-requires-2-clause-in_range
add_rises-requires-2-clause-in_range c =
    let r = hint_rooms c.args.left.now c.args.right.now c.args.g c.args.f.now _ c.requires.room in
    rw (c.in_ok-add_rises.ensures, c.links_of.ensures) (omega (arith, r.left_more, c.requires.in_range))

pub add_rises-requires-2-clause-room : goal.add_rises-requires-2-clause-room
add_rises-requires-2-clause-room c =
    let r = hint_rooms c.args.left.now c.args.right.now c.args.g c.args.f.now _ c.requires.room in
    rw (c.in_ok-add_rises.ensures, c.links_of.ensures, c.links_of-2.ensures) r.right

pub add_remainders-requires-clause-in_range : goal.add_remainders-requires-clause-in_range
add_remainders-requires-clause-in_range c =
    let r = hint_rooms c.args.left.now c.args.right.now c.args.g c.args.f.now _ c.requires.room in
    rw (c.in_ok-add_rises-2.ensures, c.in_ok-add_rises.ensures, c.links_of.ensures, c.links_of-2.ensures) (omega (arith, r.right_more, c.requires.in_range))

pub add_remainders-requires-clause-room : goal.add_remainders-requires-clause-room
add_remainders-requires-clause-room c =
    let r = hint_rooms c.args.left.now c.args.right.now c.args.g c.args.f.now _ c.requires.room in
    rw (c.in_ok-add_rises-2.ensures, c.in_ok-add_rises.ensures, c.links_of.ensures, c.links_of-2.ensures) r.befores

pub add_remainders-requires-2-clause-in_range : goal.add_remainders-requires-2-clause-in_range
add_remainders-requires-2-clause-in_range c =
    let r = hint_rooms c.args.left.now c.args.right.now c.args.g c.args.f.now _ c.requires.room in
    rw (c.in_ok-add_remainders.ensures, c.in_ok-add_rises-2.ensures, c.in_ok-add_rises.ensures, c.links_of.ensures, c.links_of-2.ensures) (omega (arith, r.befores_more, c.requires.in_range))

pub add_remainders-requires-2-clause-room : goal.add_remainders-requires-2-clause-room
add_remainders-requires-2-clause-room c =
    let r = hint_rooms c.args.left.now c.args.right.now c.args.g c.args.f.now _ c.requires.room in
    rw (c.in_ok-add_remainders.ensures, c.in_ok-add_rises-2.ensures, c.in_ok-add_rises.ensures, c.links_of.ensures, c.links_of-2.ensures) r.behinds

pub returns : goal.returns
returns c =
    c.in_ok-add_remainders-2.ensures
    ∙ rw (c.in_ok-add_remainders.ensures, c.in_ok-add_rises-2.ensures, c.in_ok-add_rises.ensures, c.links_of.ensures, c.links_of-2.ensures) (asked_whole c.args.left.now c.args.right.now c.args.g c.args.f.now)
