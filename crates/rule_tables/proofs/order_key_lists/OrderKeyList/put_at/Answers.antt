use Rattle.std.proofs.Common.{◌≡◌, ℕ, ◌+◌, ◌-◌, ◌≤◌, List, ap, ap₂, drop, length, subst, sym, ◌∙◌, arith}
use Rattle.std.specs.List.{insert, refill}
use Rattle.std.specs.List.Sorted.{IsStrictlyIncreasing}
use Rattle.rule_tables.proofs.Ascending.{inserted_ascends}
use Rattle.rule_tables.proofs.FreePlaces.{inserted, place_within, refilled}
use Rattle.rule_tables.proofs.order_key_lists.OrderKeyList.put_at.Goals as goal

pub overflow_add-at : goal.overflow_add-at
overflow_add-at c =
    let within = place_within c.self.inside.places.items c.args.self.now c.self.inside.free c.args.place c.self.invariant.1 c.self.view_is c.requires.0 in
    let count = c.len.ensures.value in
    let fits = c.len.ensures.fits in
    omega (arith, within, count, fits)

pub invariant_of-self : goal.invariant_of-self
invariant_of-self c =
    let items : List ℕ = c.self.inside.places.items in
    let new : List ℕ = c.move_front.new.places in
    let value : c.as_mut_slice.result.now ≡ items = c.as_mut_slice.ensures.value in
    let count : length new ≡ length items = c.move_front.ensures.count ∙ ap (λ (xs : List ℕ). length xs) value in
    let at : c.self.inside.free + c.args.place - c.self.inside.free ≡ c.args.place = omega arith in
    let is : drop (c.self.inside.free - 1) (refill (length items) items new) ≡ insert c.args.self.now c.args.place c.args.order_key =
    ap (drop (c.self.inside.free - 1)) (refilled items new count)
    ∙ c.move_front.ensures.moved
    ∙ ap₂ (λ (xs : List ℕ) (n : ℕ). insert (drop c.self.inside.free xs) n c.args.order_key) value at
    ∙ ap (λ (xs : List ℕ). insert xs c.args.place c.args.order_key) c.self.view_is
    in
    let ascends : IsStrictlyIncreasing c.args.self.now = subst IsStrictlyIncreasing c.self.view_is c.self.invariant.0 in
    let long : length (refill (length items) items new) ≡ length items = ap (λ (xs : List ℕ). length xs) (refilled items new count) ∙ count in
    let free = c.self.invariant.1 in
    let few : c.self.inside.free - 1 ≤ length (refill (length items) items new) = omega (arith, long, free) in
    (subst IsStrictlyIncreasing (sym is) (inserted_ascends c.args.self.now c.args.order_key c.args.place ascends c.requires), few)

pub invariant_of-self-2 : goal.invariant_of-self-2
invariant_of-self-2 c =
    let items : List ℕ = c.self.inside.places.items in
    let within = place_within items c.args.self.now c.self.inside.free c.args.place c.self.invariant.1 c.self.view_is c.requires.0 in
    let is : drop c.self.inside.free c.insert.new.self.items ≡ insert c.args.self.now c.args.place c.args.order_key =
    ap (drop c.self.inside.free) c.in_ok-insert.ensures.ok
    ∙ inserted items c.self.inside.free c.args.place within c.args.order_key
    ∙ ap (λ (xs : List ℕ). insert xs c.args.place c.args.order_key) c.self.view_is
    in
    let ascends : IsStrictlyIncreasing c.args.self.now = subst IsStrictlyIncreasing c.self.view_is c.self.invariant.0 in
    let long = c.in_ok-insert.ensures.len in
    let free = c.self.invariant.1 in
    (subst IsStrictlyIncreasing (sym is) (inserted_ascends c.args.self.now c.args.order_key c.args.place ascends c.requires), omega (arith, long, free))

pub returns-clause-ok : goal.returns-clause-ok
returns-clause-ok c =
    let items : List ℕ = c.self.inside.places.items in
    let within = place_within items c.args.self.now c.self.inside.free c.args.place c.self.invariant.1 c.self.view_is c.requires.0 in
    ap (drop c.self.inside.free) c.in_ok-insert.ensures.ok
    ∙ inserted items c.self.inside.free c.args.place within c.args.order_key
    ∙ ap (λ (xs : List ℕ). insert xs c.args.place c.args.order_key) c.self.view_is
