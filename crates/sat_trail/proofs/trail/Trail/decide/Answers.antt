use Rattle.std.proofs.Common.{◌+◌, None, arith, refl, vec_capacity}
use Rattle.sat_trail.proofs.EntryLemmas.{room-from_open, length-le_vars}
use Rattle.sat_trail.proofs.LevelLemmas.{rise-bound}
use Rattle.sat_trail.proofs.OpenLemmas.{has-more}
use Rattle.sat_trail.proofs.PlaceLemmas.{pushed}
use Rattle.sat_trail.proofs.trail.Trail.decide.Goals as goal

pub overflow_add-self : goal.overflow_add-self
overflow_add-self c =
    let t = c.self.invariant.0.trail in
    let few = length-le_vars c.self.inside.vars c.self.inside.entries.items t.in_range t.distinct in
    let up = rise-bound 0 c.self.inside.entries.items c.self.inside.level t.rise in
    omega (arith, t.small)

pub append-requires-clause-room : goal.append-requires-clause-room
append-requires-clause-room c =
    let t = c.self.invariant.0.trail in
    let room = room-from_open c.self.inside.vars c.self.inside.entries.items (record { lit = c.args.lit; level = c.self.inside.level + 1; reason = None }) t.in_range t.distinct (rw (← c.self.view_is) at c.requires.in_range) (rw (← c.self.view_is) at c.requires.open) in
    omega (arith, c.self.invariant.0.room)

pub append-requires-clause-small : goal.append-requires-clause-small
append-requires-clause-small c =
    let t = c.self.invariant.0.trail in
    let room = room-from_open c.self.inside.vars c.self.inside.entries.items (record { lit = c.args.lit; level = c.self.inside.level + 1; reason = None }) t.in_range t.distinct (rw (← c.self.view_is) at c.requires.in_range) (rw (← c.self.view_is) at c.requires.open) in
    omega (arith, t.small)

pub invariant_of-self : goal.invariant_of-self
invariant_of-self c =
    let below = rw (← c.self.view_is) at c.requires.in_range in
    let free = rw (← c.self.view_is) at c.requires.open in
    let all = pushed (record { vars = c.self.inside.vars; level = c.self.inside.level; entries = c.self.inside.entries.items }) (c.self.inside.level + 1) (vec_capacity c.self.inside.entries) (vec_capacity c.append.new.entries) c.self.inside.places.items (record { lit = c.args.lit; level = c.self.inside.level + 1; reason = None }) c.self.invariant.0 below free refl refl c.append.ensures.capacity in
    let more = has-more c.self.inside.vars c.self.inside.entries.items (record { lit = c.args.lit; level = c.self.inside.level + 1; reason = None }) c.self.inside.heap.is_in c.self.invariant.1 in
    rw (c.append.ensures.entries, c.append.ensures.places) (all, more)
