use Rattle.std.proofs.Common.{◌+◌, ◌-◌, ◌<◌, arith}
use Rattle.order_index.proofs.FarPlaces.{places_between, places_of_one, places_of_three, places_past}
use Rattle.order_index.proofs.places.places_at.Goals as goal

pub returns-then-upper-lower : goal.returns-then-upper-lower
returns-then-upper-lower c = places_of_one c.args.far c.args.upper c.args.lower c.number_above-first.result c.number_below-last.result c.number_above-first.ensures c.number_below-last.ensures c.if-upper-lower.true

pub returns-then-far-apart : goal.returns-then-far-apart
returns-then-far-apart c =
    let order = c.requires.order in
    let other = c.if-upper-lower.false in
    let apart : c.args.upper < c.args.lower = grind (arith, order, other) in
    places_of_three c.args.far c.args.upper c.args.lower c.number_above-first.result c.number_below-last.result c.number_above-first.ensures c.number_below-last.ensures c.number_above-second.result c.number_below-third.result c.number_above-second.ensures
    c.number_below-third.ensures apart c.if-far-apart.true

pub returns-then-far-apart-2 : goal.returns-then-far-apart-2
returns-then-far-apart-2 c =
    let order = c.requires.order in
    let other = c.if-upper-lower.false in
    let apart : c.args.upper < c.args.lower = grind (arith, order, other) in
    places_between c.args.far c.args.upper c.args.lower c.number_above-first.result c.number_below-last.result c.number_above-first.ensures c.number_below-last.ensures c.number_above-second.result c.number_below-third.result c.number_above-second.ensures
    c.number_below-third.ensures apart c.if-far-apart-2.true

pub returns : goal.returns
returns c =
    let order = c.requires.order in
    let other = c.if-upper-lower.false in
    let apart : c.args.upper < c.args.lower = grind (arith, order, other) in
    let same = c.if-far-apart.false in
    let near = c.if-far-apart-2.false in
    let past : c.args.lower - c.args.upper < c.args.far + c.args.far = grind (arith, same, near) in
    places_past c.args.far c.args.upper c.args.lower c.number_above-first.result c.number_below-last.result c.number_above-first.ensures c.number_below-last.ensures c.number_above-second.result c.number_below-third.result c.number_above-second.ensures
    c.number_below-third.ensures apart past
