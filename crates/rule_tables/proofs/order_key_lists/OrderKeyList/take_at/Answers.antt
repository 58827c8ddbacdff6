use Rattle.std.proofs.Common.{◌≡◌, ℕ, ◌+◌, ◌-◌, ◌≤◌, List, ap, ap₂, drop, length, subst, sym, ◌∙◌, arith}
use Rattle.std.specs.List.{refill, remove}
use Rattle.std.specs.List.Sorted.{IsStrictlyIncreasing}
use Rattle.rule_tables.proofs.Ascending.{removed_ascends}
use Rattle.rule_tables.proofs.FreePlaces.{place_within, refilled, removed}
use Rattle.rule_tables.proofs.order_key_lists.OrderKeyList.take_at.Goals as goal

pub overflow_add-at : goal.overflow_add-at
overflow_add-at c =
    let place = c.requires in
    let within = place_within c.self.inside.places.items c.args.self.now c.self.inside.free c.args.place c.self.invariant.1 c.self.view_is (omega (arith, place)) in
    let count = c.len.ensures.value in
    let fits = c.len.ensures.fits in
    omega (arith, within, count, fits)

pub invariant_of-self : goal.invariant_of-self
invariant_of-self c =
    let items : List ℕ = c.self.inside.places.items in
    let new : List ℕ = c.move_back.new.places in
    let place = c.requires in
    let within = place_within items c.args.self.now c.self.inside.free (c.args.place + 1) c.self.invariant.1 c.self.view_is (omega (arith, place)) in
    let value : c.as_mut_slice.result.now ≡ items = c.as_mut_slice.ensures.value in
    let count : length new ≡ length items = c.move_back.ensures.count ∙ ap (λ (xs : List ℕ). length xs) value in
    let at : c.self.inside.free + c.args.place - c.self.inside.free ≡ c.args.place = omega arith in
    let is : drop (c.self.inside.free + 1) (refill (length items) items new) ≡ remove c.args.self.now c.args.place =
    ap (drop (c.self.inside.free + 1)) (refilled items new count)
    ∙ c.move_back.ensures.moved
    ∙ ap₂ (λ (xs : List ℕ) (n : ℕ). remove (drop c.self.inside.free xs) n) value at
    ∙ ap (λ (xs : List ℕ). remove xs c.args.place) c.self.view_is
    in
    let ascends : IsStrictlyIncreasing c.args.self.now = subst IsStrictlyIncreasing c.self.view_is c.self.invariant.0 in
    let long : length (refill (length items) items new) ≡ length items = ap (λ (xs : List ℕ). length xs) (refilled items new count) ∙ count in
    let few : c.self.inside.free + 1 ≤ length (refill (length items) items new) = omega (arith, long, within) in
    (subst IsStrictlyIncreasing (sym is) (removed_ascends c.args.self.now c.args.place c.requires ascends), few)

pub invariant_of-self-2 : goal.invariant_of-self-2
invariant_of-self-2 c =
    let items : List ℕ = c.self.inside.places.items in
    let place = c.requires in
    let within = place_within items c.args.self.now c.self.inside.free (c.args.place + 1) c.self.invariant.1 c.self.view_is (omega (arith, place)) in
    let is : drop c.self.inside.free c.remove.new.self.items ≡ remove c.args.self.now c.args.place =
    ap (drop c.self.inside.free) c.remove.ensures.items
    ∙ removed items c.self.inside.free c.args.place (omega (arith, within))
    ∙ ap (λ (xs : List ℕ). remove xs c.args.place) c.self.view_is
    in
    let ascends : IsStrictlyIncreasing c.args.self.now = subst IsStrictlyIncreasing c.self.view_is c.self.invariant.0 in
    let long = c.remove.ensures.len in
    (subst IsStrictlyIncreasing (sym is) (removed_ascends c.args.self.now c.args.place c.requires ascends), omega (arith, long, within))

pub returns : goal.returns
returns c =
    let items : List ℕ = c.self.inside.places.items in
    let place = c.requires in
    let within = place_within items c.args.self.now c.self.inside.free (c.args.place + 1) c.self.invariant.1 c.self.view_is (omega (arith, place)) in
    ap (drop c.self.inside.free) c.remove.ensures.items
    ∙ removed items c.self.inside.free c.args.place (omega (arith, within))
    ∙ ap (λ (xs : List ℕ). remove xs c.args.place) c.self.view_is
