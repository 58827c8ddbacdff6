use Rattle.std.proofs.Common.{◌≡◌, List, length, ap, arith}
use Rattle.order_index.proofs.EntryFacts.{entry_within}
use Rattle.order_index.proofs.Telling.{none_of}
use Rattle.order_index.proofs.index.Index.at_number.Goals as goal
use Rattle.order_index.specs.Afterwards.{edit_at}
use Rattle.order_index.specs.Told.{IsAt, reversed_by}
use Rattle.css_model.specs.declared.sheet.Item.{Item}
use Rattle.step_obstacles.proofs.ForCallers.{window_facts}

pub returns-then-number-change-clause-told : goal.returns-then-number-change-clause-told
returns-then-number-change-clause-told c =
    let items = c.args.change.now.window.items.now in
    let k = c.args.change.now.step in
    let out = c.if-number-change.true in
    none_of c.args.pairs.now.answers (reversed_by items k) (IsAt c.args.number c.args.far)
    (λ r there is.
    let w = entry_within c.listed_is_reversed.ensures c.listed_stands_last.ensures items k c.weighing_is_decided.ensures c.order_is_decided.ensures c.steps_have_windows.ensures c.windows_tell_pairs.ensures c.windows_tell_kept.ensures c.requires.change.step
    c.args.change.now.window c.requires.change.window r there in
    let low = w.0 in
    let at = is.0 in
    absurd (omega (arith, low, at, out)))

pub returns-then-change-number-clause-told : goal.returns-then-change-number-clause-told
returns-then-change-number-clause-told c =
    let items = c.args.change.now.window.items.now in
    let k = c.args.change.now.step in
    let out = c.if-change-number.true in
    none_of c.args.pairs.now.answers (reversed_by items k) (IsAt c.args.number c.args.far)
    (λ r there is.
    let w = entry_within c.listed_is_reversed.ensures c.listed_stands_last.ensures items k c.weighing_is_decided.ensures c.order_is_decided.ensures c.steps_have_windows.ensures c.windows_tell_pairs.ensures c.windows_tell_kept.ensures c.requires.change.step
    c.args.change.now.window c.requires.change.window r there in
    let high = w.1 in
    let at = is.0 in
    absurd (omega (arith, high, at, out)))

pub at_item-requires-clause-there : goal.at_item-requires-clause-there
at_item-requires-clause-there c =
    let items = c.args.change.now.window.items.now in
    let k = c.args.change.now.step in
    let within = (window_facts items k (edit_at items k) c.requires.change.step).within in
    let last_is = c.requires.change.window.last_is in
    let high = c.if-change-number.false in
    let same : length items ≡ length c.args.self.now = ap (λ (xs : List Item). length xs) c.requires.items in
    omega (arith, within, last_is, high, same)
