use Rattle.std.proofs.Common.{Some, arith, refl, vec_capacity}
use Rattle.sat_trail.proofs.EntryLemmas.{room-from_open}
use Rattle.sat_trail.proofs.OpenLemmas.{has-more}
use Rattle.sat_trail.proofs.PlaceLemmas.{pushed}
use Rattle.sat_trail.proofs.trail.Trail.imply.Goals as goal

pub append-requires-clause-room : goal.append-requires-clause-room
append-requires-clause-room c =
    let t = c.self.invariant.0.trail in
    let room = room-from_open c.self.inside.vars c.self.inside.entries.items (record { lit = c.args.lit; level = c.self.inside.level; reason = Some c.args.clause }) t.in_range t.distinct (rw (← c.self.view_is) at c.requires.in_range) (rw (← c.self.view_is) at c.requires.open) in
    omega (arith, c.self.invariant.0.room)

pub append-requires-clause-small : goal.append-requires-clause-small
append-requires-clause-small c =
    let t = c.self.invariant.0.trail in
    let room = room-from_open c.self.inside.vars c.self.inside.entries.items (record { lit = c.args.lit; level = c.self.inside.level; reason = Some c.args.clause }) t.in_range t.distinct (rw (← c.self.view_is) at c.requires.in_range) (rw (← c.self.view_is) at c.requires.open) in
    omega (arith, t.small)

pub invariant_of-self : goal.invariant_of-self
invariant_of-self c =
    let below = rw (← c.self.view_is) at c.requires.in_range in
    let free = rw (← c.self.view_is) at c.requires.open in
    let all = pushed (record { vars = c.self.inside.vars; level = c.self.inside.level; entries = c.self.inside.entries.items }) c.self.inside.level (vec_capacity c.self.inside.entries) (vec_capacity c.append.new.entries) c.self.inside.places.items (record { lit = c.args.lit; level = c.self.inside.level; reason = Some c.args.clause }) c.self.invariant.0 below free refl refl c.append.ensures.capacity in
    let more = has-more c.self.inside.vars c.self.inside.entries.items (record { lit = c.args.lit; level = c.self.inside.level; reason = Some c.args.clause }) c.self.inside.heap.is_in c.self.invariant.1 in
    rw (c.append.ensures.entries, c.append.ensures.places) (all, more)
