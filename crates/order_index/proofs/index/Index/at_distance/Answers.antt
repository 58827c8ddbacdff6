use Rattle.std.proofs.Common.{arith}
use Rattle.order_index.proofs.Classes.{place_is, places_order}
use Rattle.order_index.proofs.InTurn.{all_pass}
use Rattle.order_index.proofs.Sources.{places_cover}
use Rattle.order_index.proofs.Telling.{passes_stay}
use Rattle.order_index.proofs.Turns.{turn_blocks, turn_passes}
use Rattle.order_index.proofs.index.Index.at_distance.Goals as goal
use Rattle.order_index.specs.Told.{IsAtPlace, IsFar, Passes, reversed_by}
use Rattle.sheet_order.proofs.ForCallers.{stays_on}

pub returns-in-Blocked-clause-told : goal.returns-in-Blocked-clause-told
returns-in-Blocked-clause-told c =
    let items = c.args.change.now.window.items.now in
    let k = c.args.change.now.step in
    let places = c.places_at-places.result in
    let far = c.args.far in
    turn_blocks c.loop-turn.pairs.answers c.at_place.new.pairs.answers (passes_stay c.loop-turn.pairs c.at_place.new.pairs c.at_place.ensures.stays) (reversed_by items k) (IsAtPlace places far) c.loop-turn.turn c.loop-turn.invariant.pass c.in_ok-allowed.allowed
    (place_is c.at_place.new.pairs.answers (reversed_by items k) places far c.loop-turn.turn c.place_at-place.result c.place_at-place.ensures c.in_ok-allowed.allowed c.in_ok-allowed.ensures.told) (IsFar far)
    (λ s there of. let w = places_cover c.listed_is_reversed.ensures c.listed_stands_last.ensures items k c.requires.change.step far c.args.upper c.args.lower places c.requires.upper c.requires.lower c.places_at-places.ensures s there of in (w.0, w.2))
    (λ i r of. of.1) (places_order far c.args.upper c.args.lower places c.places_at-places.ensures) c.in-Blocked.cause c.in-Blocked.is

pub loop-turn-preserved : goal.loop-turn-preserved
loop-turn-preserved c =
    let items = c.args.change.now.window.items.now in
    let k = c.args.change.now.step in
    let places = c.places_at-places.result in
    let far = c.args.far in
    record {
      stays = stays_on c.args.pairs.now c.loop-turn.pairs c.at_place.new.pairs c.loop-turn.invariant.stays c.at_place.ensures.stays;
      moved = c.at_place.ensures.moved;
      pass = turn_passes c.loop-turn.pairs.answers c.at_place.new.pairs.answers (passes_stay c.loop-turn.pairs c.at_place.new.pairs c.at_place.ensures.stays) (reversed_by items k) (IsAtPlace places far) c.loop-turn.turn c.loop-turn.invariant.pass
          c.in_ok-allowed.allowed (place_is c.at_place.new.pairs.answers (reversed_by items k) places far c.loop-turn.turn c.place_at-place.result c.place_at-place.ensures c.in_ok-allowed.allowed c.in_ok-allowed.ensures.told) c.in_default.is;
    }

pub returns-clause-told : goal.returns-clause-told
returns-clause-told c =
    let items = c.args.change.now.window.items.now in
    let k = c.args.change.now.step in
    let places = c.places_at-places.result in
    let end = c.loop-turn-test.false in
    all_pass (Passes c.loop-turn.pairs.answers) (reversed_by items k) (IsAtPlace places c.args.far) (IsFar c.args.far) c.loop-turn.turn c.loop-turn.invariant.pass
    (λ s there of.
    let w = places_cover c.listed_is_reversed.ensures c.listed_stands_last.ensures items k c.requires.change.step c.args.far c.args.upper c.args.lower places c.requires.upper c.requires.lower c.places_at-places.ensures s there of in
    let less = w.1 in
    (w.0, omega (arith, less, end), w.2))
