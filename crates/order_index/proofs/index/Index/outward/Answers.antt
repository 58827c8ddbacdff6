use Rattle.std.proofs.Common.{arith}
use Rattle.order_index.proofs.Classes.{far_order}
use Rattle.order_index.proofs.EntryFacts.{entry_within}
use Rattle.order_index.proofs.InTurn.{all_pass}
use Rattle.order_index.proofs.Sources.{far_cover}
use Rattle.order_index.proofs.Telling.{all_told, passes_stay}
use Rattle.order_index.proofs.Turns.{turn_blocks, turn_passes}
use Rattle.order_index.proofs.index.Index.outward.Goals as goal
use Rattle.order_index.specs.Afterwards.{after, edit_at}
use Rattle.order_index.specs.Told.{IsFar, Passes, reversed_by}
use Rattle.sheet_order.proofs.ForCallers.{stays_on}
use Rattle.sheet_order.specs.declared.permitting.Allowed.TheVariants.{Free, Blocked}
use Rattle.step_obstacles.proofs.ForCallers.{window_facts}

pub returns-in-Blocked-clause-told : goal.returns-in-Blocked-clause-told
returns-in-Blocked-clause-told c =
    let items = c.args.change.now.window.items.now in
    let k = c.args.change.now.step in
    let w = c.args.change.now.window in
    let is = c.requires.change.step in
    let window = c.requires.change.window in
    all_told c.listed_ascends.ensures c.keys_tell_apart.ensures c.at_distance.new.pairs.answers items (after items k) (edit_at items k).moved (Blocked c.in-Blocked.cause)
    (turn_blocks c.loop-far.pairs.answers c.at_distance.new.pairs.answers (passes_stay c.loop-far.pairs c.at_distance.new.pairs c.at_distance.ensures.stays) (reversed_by items k) IsFar c.loop-far.far c.loop-far.invariant.pass c.in_ok-allowed.allowed
    c.in_ok-allowed.ensures.told (λ r. Unit {0})
    (λ s there of.
    let f = far_cover c.listed_is_reversed.ensures c.listed_stands_last.ensures items k is w.start w.last window.start_is window.last_is (window_facts items k (edit_at items k) is).middle_first s
    (entry_within c.listed_is_reversed.ensures c.listed_stands_last.ensures items k c.weighing_is_decided.ensures c.order_is_decided.ensures c.steps_have_windows.ensures c.windows_tell_pairs.ensures c.windows_tell_kept.ensures is w window s there) there in
    (f.0, f.2)) (λ i r of. tt) far_order c.in-Blocked.cause c.in-Blocked.is)

pub loop-far-preserved : goal.loop-far-preserved
loop-far-preserved c =
    let items = c.args.change.now.window.items.now in
    let k = c.args.change.now.step in
    record {
      stays = stays_on c.args.pairs.now c.loop-far.pairs c.at_distance.new.pairs c.loop-far.invariant.stays c.at_distance.ensures.stays;
      moved = c.at_distance.ensures.moved;
      pass = turn_passes c.loop-far.pairs.answers c.at_distance.new.pairs.answers (passes_stay c.loop-far.pairs c.at_distance.new.pairs c.at_distance.ensures.stays) (reversed_by items k) IsFar c.loop-far.far c.loop-far.invariant.pass c.in_ok-allowed.allowed
          c.in_ok-allowed.ensures.told c.in_default.is;
    }

pub returns-clause-told : goal.returns-clause-told
returns-clause-told c =
    let items = c.args.change.now.window.items.now in
    let k = c.args.change.now.step in
    let w = c.args.change.now.window in
    let is = c.requires.change.step in
    let window = c.requires.change.window in
    let end = c.loop-far-test.false in
    all_told c.listed_ascends.ensures c.keys_tell_apart.ensures c.loop-far.pairs.answers items (after items k) (edit_at items k).moved Free
    (all_pass (Passes c.loop-far.pairs.answers) (reversed_by items k) IsFar (λ r. Unit {0}) c.loop-far.far c.loop-far.invariant.pass
    (λ s there of.
    let f = far_cover c.listed_is_reversed.ensures c.listed_stands_last.ensures items k is w.start w.last window.start_is window.last_is (window_facts items k (edit_at items k) is).middle_first s
    (entry_within c.listed_is_reversed.ensures c.listed_stands_last.ensures items k c.weighing_is_decided.ensures c.order_is_decided.ensures c.steps_have_windows.ensures c.windows_tell_pairs.ensures c.windows_tell_kept.ensures is w window s there) there in
    let less = f.1 in
    (f.0, omega (arith, less, end), f.2)))
