use Rattle.std.proofs.Common.{◌≡◌, length, sym, ap, ◌∙◌, arith}
use Rattle.order_index.proofs.Classes.{moved_cover, moved_order}
use Rattle.order_index.proofs.InTurn.{all_pass}
use Rattle.order_index.proofs.Telling.{passes_stay}
use Rattle.order_index.proofs.Turns.{turn_blocks, turn_passes}
use Rattle.order_index.proofs.walking.with_pair.Goals as goal
use Rattle.order_index.specs.Told.{IsOfMoved, IsWith, Passes, moved_by, reversed_by}
use Rattle.order_laws.specs.Reversed.{AnotherPair}
use Rattle.sheet_order.proofs.ForCallers.{stays_on}

pub of_number-requires-clause-number : goal.of_number-requires-clause-number
of_number-requires-clause-number c =
    let less = c.loop-number-test.true in
    let count = c.len-count.ensures in
    let same : length c.args.moving.now.pairs.items ≡ length c.loop-number.moving.pairs.items = ap length (c.requires.moved.pairs ∙ sym c.loop-number.invariant.moved.pairs) in
    omega (arith, less, count, same)

pub returns-in-Blocked-clause-told : goal.returns-in-Blocked-clause-told
returns-in-Blocked-clause-told c =
    let items = c.args.change.now.window.items.now in
    let k = c.args.change.now.step in
    let o = AnotherPair c.args.q.now in
    turn_blocks c.loop-number.pairs.answers c.of_number.new.pairs.answers (passes_stay c.loop-number.pairs c.of_number.new.pairs c.of_number.ensures.stays) (reversed_by items k) (IsOfMoved (moved_by items k) o c.args.far) c.loop-number.number
    c.loop-number.invariant.pass c.in_ok-allowed.allowed c.in_ok-allowed.ensures.told (IsWith o c.args.far)
    (λ s there of. let w = moved_cover c.listed_is_reversed.ensures c.listed_stands_last.ensures items k o c.args.far s there of in (w.0, w.2)) (λ i r of. of.1) (moved_order c.listed_is_reversed.ensures c.listed_stands_last.ensures items k o c.args.far) c.in-Blocked.cause
    c.in-Blocked.is

pub loop-number-preserved : goal.loop-number-preserved
loop-number-preserved c =
    let items = c.args.change.now.window.items.now in
    let k = c.args.change.now.step in
    record {
      stays = stays_on c.args.pairs.now c.loop-number.pairs c.of_number.new.pairs c.loop-number.invariant.stays c.of_number.ensures.stays;
      moved = c.of_number.ensures.moved;
      of_q = c.of_number.ensures.of_q;
      pass = turn_passes c.loop-number.pairs.answers c.of_number.new.pairs.answers (passes_stay c.loop-number.pairs c.of_number.new.pairs c.of_number.ensures.stays) (reversed_by items k) (IsOfMoved (moved_by items k) (AnotherPair c.args.q.now) c.args.far)
          c.loop-number.number c.loop-number.invariant.pass c.in_ok-allowed.allowed c.in_ok-allowed.ensures.told c.in_default.is;
    }

pub returns-clause-told : goal.returns-clause-told
returns-clause-told c =
    let items = c.args.change.now.window.items.now in
    let k = c.args.change.now.step in
    let o = AnotherPair c.args.q.now in
    let count = c.len-count.ensures in
    let end = c.loop-number-test.false in
    let same : length c.args.moving.now.pairs.items ≡ length (moved_by items k) = ap length c.requires.moved.pairs in
    all_pass (Passes c.loop-number.pairs.answers) (reversed_by items k) (IsOfMoved (moved_by items k) o c.args.far) (IsWith o c.args.far) c.loop-number.number c.loop-number.invariant.pass
    (λ s there of. let w = moved_cover c.listed_is_reversed.ensures c.listed_stands_last.ensures items k o c.args.far s there of in let less = w.1 in (w.0, omega (arith, count, end, same, less), w.2))
