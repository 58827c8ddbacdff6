use Rattle.std.proofs.Common.{◌≡◌, ℕ, ◌+◌, ◌*◌, ◌/◌, ◌<◌, Option, Some, None, List, length, get_or, sym, ap, ◌∙◌, arith}
use Rattle.std.specs.List.{IsDistinct}
use Rattle.std.specs.Prelude.{nat_eq}
use Rattle.sat_trail.specs.declared.entry.Entry.{Entry}
use Rattle.sat_trail.specs.Places.{place}
use Rattle.sat_trail.specs.Trail.{entry_of, variables}
use Rattle.sat_trail.proofs.PlaceLemmas.{entry_of-place, entry_of-none}
use Rattle.sat_trail.proofs.trail.Trail.entry_of.Goals as goal

none : Entry
none = record { lit = record { 0 = 0 }; level = 0; reason = None }

-- the place of one of the variable's literals
found : (es : List Entry) (v i k : ℕ) (o : Option ℕ) (d : Entry) → IsDistinct nat_eq (variables es) → i / 2 ≡ v → o ≡ place es i → o ≡ Some k → (k < length es) × (entry_of es v ≡ Some (get_or es k d))
found es v i k o d u b e s = entry_of-place es v i k d u b (sym e ∙ s)

pub index-requires : goal.index-requires
index-requires c =
    let e = rw (← c.self.view_is) at c.place.ensures in
    let at = found c.self.inside.entries.items c.args.var (2 * c.args.var) c.in-Some.place c.place.result none c.self.invariant.0.trail.distinct (omega arith) e c.in-Some.is in
    omega (arith, at.0, c.self.inside.entries.ok)

pub index-requires-in-Some-place : goal.index-requires-in-Some-place
index-requires-in-Some-place c =
    let e = rw (← c.self.view_is) at c.place-in-None.ensures in
    let at = found c.self.inside.entries.items c.args.var (2 * c.args.var + 1) c.in-Some-place.place c.place-in-None.result none c.self.invariant.0.trail.distinct (omega arith) e c.in-Some-place.is in
    omega (arith, at.0, c.self.inside.entries.ok)

pub returns-in-Some : goal.returns-in-Some
returns-in-Some c =
    let e = rw (← c.self.view_is) at c.place.ensures in
    let at = found c.self.inside.entries.items c.args.var (2 * c.args.var) c.in-Some.place c.place.result c.index.result.now c.self.invariant.0.trail.distinct (omega arith) e c.in-Some.is in
    rw (← c.self.view_is) (ap Some c.index.ensures ∙ sym at.1)

pub returns-in-Some-place : goal.returns-in-Some-place
returns-in-Some-place c =
    let e = rw (← c.self.view_is) at c.place-in-None.ensures in
    let at = found c.self.inside.entries.items c.args.var (2 * c.args.var + 1) c.in-Some-place.place c.place-in-None.result c.index-in-Some-place.result.now c.self.invariant.0.trail.distinct (omega arith) e c.in-Some-place.is in
    rw (← c.self.view_is) (ap Some c.index-in-Some-place.ensures ∙ sym at.1)

pub returns-in-None-place : goal.returns-in-None-place
returns-in-None-place c = sym (entry_of-none c.args.self.now.entries c.args.var (sym c.place.ensures ∙ c.in-None.is) (sym c.place-in-None.ensures ∙ c.in-None-place.is))
