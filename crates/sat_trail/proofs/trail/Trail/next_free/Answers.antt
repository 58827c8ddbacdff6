use Rattle.std.proofs.Common.{length, arith}
use Rattle.sat_trail.proofs.OpenLemmas.{entry-from_open, free-found, has-still}
use Rattle.sat_trail.proofs.trail.Trail.next_free.Goals as goal

pub first_open-requires-clause-table : goal.first_open-requires-clause-table
first_open-requires-clause-table c = rw c.deref.ensures.value (omega (arith, c.self.invariant.0.table, c.self.invariant.1.table))

pub first_open-requires-clause-in_heap : goal.first_open-requires-clause-in_heap
first_open-requires-clause-in_heap c v b o =
    let h = c.self.invariant in
    let free = rw c.deref.ensures.value at o in
    h.1.in_heap v (omega (arith, b, h.1.table)) (entry-from_open c.self.inside.entries.items c.self.inside.places.items v h.0.placed (omega (arith, b, h.0.table, h.1.table)) free)

pub invariant_of-self : goal.invariant_of-self
invariant_of-self c =
    let a = c.self.inside in
    let h = c.self.invariant in
    (h.0, has-still a.entries.items a.places.items a.vars a.heap.is_in c.first_open.new.heap.is_in h.0.trail.distinct h.0.placed h.0.table h.1 c.first_open.ensures.size (rw c.deref.ensures.value at c.first_open.ensures.in_heap))

pub returns-clause-found : goal.returns-clause-found
returns-clause-found c =
    let a = c.self.inside in
    let h = c.self.invariant in
    rw (← c.self.view_is) (free-found a.entries.items a.places.items a.vars (length a.heap.is_in) c.first_open.result h.0.placed h.0.table h.1.table (rw c.deref.ensures.value at c.first_open.ensures.open) (rw c.deref.ensures.value at c.first_open.ensures.none))
