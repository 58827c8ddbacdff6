use Rattle.std.proofs.Common.{◌≡◌, ◌<◌, refl, arith}
use Rattle.window_order.proofs.LastFound.{no, yes}
use Rattle.window_order.proofs.LastPlaces.{before_in_one, earlier, later, stands_at}
use Rattle.window_order.proofs.place.comes_before_at.Goals as goal

pub returns-then-at-other : goal.returns-then-at-other
returns-then-at-other c =
    let less : c.args.at < c.args.other = omega (arith, c.if-at-other.true) in
    yes (earlier c.args.items.now c.args.at c.args.other c.args.p.now c.args.q.now c.requires.first c.requires.second less)

pub returns-then-other-at : goal.returns-then-other-at
returns-then-other-at c =
    let less : c.args.other < c.args.at = omega (arith, c.if-other-at.true) in
    no (later c.args.items.now c.args.at c.args.other c.args.p.now c.args.q.now c.requires.first c.requires.second less)

pub item_at-requires : goal.item_at-requires
item_at-requires c = (c.requires.first.item, c.requires.first.item_at)

pub comes_before_there-requires-clause-first : goal.comes_before_there-requires-clause-first
comes_before_there-requires-clause-first c = stands_at c.args.items.now c.args.at c.args.at c.item_at.result.now c.args.p.now refl c.item_at.ensures c.requires.first

pub comes_before_there-requires-clause-second : goal.comes_before_there-requires-clause-second
comes_before_there-requires-clause-second c =
    let same : c.args.at ≡ c.args.other = omega (arith, c.if-at-other.false, c.if-other-at.false) in
    stands_at c.args.items.now c.args.at c.args.other c.item_at.result.now c.args.q.now same c.item_at.ensures c.requires.second

pub returns : goal.returns
returns c =
    let same : c.args.at ≡ c.args.other = omega (arith, c.if-at-other.false, c.if-other-at.false) in
    before_in_one c.args.items.now c.args.at c.args.other c.item_at.result.now c.args.p.now c.args.q.now c.comes_before_there.result same c.item_at.ensures c.requires.first c.requires.second c.comes_before_there.ensures
