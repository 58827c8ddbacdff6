use Rattle.std.proofs.Common.{◌++◌, ◌≤◌, ◌∙◌, List, ap, arith, length, map}
use Rattle.std.specs.List.{filter}
use Rattle.std.proofs.lemmas.List.{take_all}
use Rattle.order_index.proofs.entries.push_turned.Goals as goal
use Rattle.order_index.specs.Afterwards.{after}
use Rattle.order_laws.specs.Places.{PlacedPair}
use Rattle.order_laws.specs.Reversed as order

pub returns : goal.returns
returns c =
    let test = c.loop-q-test.false in
    let end = c.loop-q.auto.q-index-end in
    let all : length c.args.pairs.now ≤ c.loop-q.q-index = omega (arith, test, end) in
    c.loop-q.invariant
    ∙ ap (λ (xs : List PlacedPair). c.args.found.now.items ++ map (order.with_pair c.args.p.now) (filter (λ x. order.is_reversed c.args.change.now.window.items.now (after c.args.change.now.window.items.now c.args.change.now.step) c.args.p.now.pair x.pair) xs))
    (take_all c.loop-q.q-index c.args.pairs.now all)
