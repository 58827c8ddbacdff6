use Rattle.std.proofs.Common.{◌≡◌, ◌<◌, ℕ, Some, List, length, subst, arith, vec_capacity}
use Rattle.std.specs.List.{slice_get}
use Rattle.std.proofs.lemmas.Option.{slice_get_within, get_or_from_slice_get}
use Rattle.std.specs.Prelude.{IsTrue}
use Rattle.std.proofs.lemmas.Bool.{ltb-true}
use Rattle.cnf.specs.Lits.{is_below, are_below, variable}
use Rattle.sat_trail.specs.declared.entry.Entry.{Entry}
use Rattle.sat_trail.specs.Trail.{lits}
use Rattle.sat_trail.proofs.EntryLemmas.{below-get}
use Rattle.sat_trail.proofs.OpenLemmas.{has-fewer}
use Rattle.sat_trail.proofs.PlaceLemmas.{undone, within}
use Rattle.sat_trail.proofs.trail.Trail.undo_to.Goals as goal

entries-below : (vars : ℕ) (es : List Entry) (n : ℕ) → IsTrue (are_below vars (lits es)) → n ≡ vars → (k : ℕ) (e : Entry) → slice_get es k ≡ Some e → variable e.lit < n
entries-below vars es n below size k e there =
    let P : Entry → Type 0 = λ x. IsTrue (is_below vars x.lit) in
    let at = below-get vars es k e below (slice_get_within es k e there) in
    let low = ltb-true (variable e.lit) vars (subst P (get_or_from_slice_get es k e e there) at) in
    omega (arith, low, size)

pub forget_above-kept-requires-clause-in_table : goal.forget_above-kept-requires-clause-in_table
forget_above-kept-requires-clause-in_table c k e b =
    let h = c.self.invariant.0 in
    let there = rw c.deref.ensures.value at b in
    let P : Entry → Type 0 = λ x. IsTrue (is_below c.self.inside.vars x.lit) in
    let below = below-get c.self.inside.vars c.self.inside.entries.items k e h.trail.in_range (slice_get_within c.self.inside.entries.items k e there) in
    let w = within c.self.inside.vars e.lit (rw (get_or_from_slice_get c.self.inside.entries.items k e e there) at below) in
    omega (arith, h.table)

pub invariant_of-self : goal.invariant_of-self
invariant_of-self c =
    let f = c.forget_above-kept.ensures in
    let all = undone (record { vars = c.self.inside.vars; level = c.self.inside.level; entries = c.self.inside.entries.items }) c.args.level (vec_capacity c.self.inside.entries) c.forget_above-kept.result c.self.inside.places.items c.forget_above-kept.new.places.items c.self.invariant.0 (rw (← c.self.view_is) at c.requires) (rw c.deref.ensures.value at f.kept) f.size (rw c.deref.ensures.value at f.placed) in
    let b = c.put_back_from.ensures in
    let fewer = has-fewer c.self.inside.vars c.self.inside.entries.items c.forget_above-kept.result c.self.inside.heap.is_in c.put_back_from.new.heap.is_in c.self.invariant.1 b.size b.kept (rw c.deref-2.ensures.value at b.put_back) in
    rw (c.truncate.ensures.items, c.truncate.ensures.capacity, c.age.ensures.is_in) (all, fewer)

pub put_back_from-requires : goal.put_back_from-requires
put_back_from-requires c =
    rw c.deref-2.ensures.value (entries-below c.self.inside.vars c.self.inside.entries.items (length c.self.inside.heap.is_in) c.self.invariant.0.trail.in_range c.self.invariant.1.table)
