use Rattle.std.proofs.Common.{◌≡◌, length, sym, ap, ◌∙◌, arith}
use Rattle.order_index.proofs.Classes.{kept_at_is, kept_with_is, moved_cover, moved_order}
use Rattle.order_index.proofs.InTurn.{all_pass}
use Rattle.order_index.proofs.Telling.{told_as}
use Rattle.order_index.proofs.Turns.{turn_blocks, turn_passes}
use Rattle.order_index.proofs.walking.with_kept.Goals as goal
use Rattle.order_index.specs.Told.{IsAt, IsOfMoved, IsWith, Passes, moved_by, reversed_by}
use Rattle.order_laws.specs.Reversed.{KeptAt}
use Rattle.sheet_order.specs.declared.permitting.Allowed.TheVariants.{Free, Blocked}

pub of_number_kept-allowed-requires-clause-number : goal.of_number_kept-allowed-requires-clause-number
of_number_kept-allowed-requires-clause-number c =
    let less = c.loop-number-test.true in
    let count = c.len-count.ensures in
    let same : length c.args.moving.now.pairs.items ≡ length c.loop-number.moving.pairs.items = ap length (c.requires.moved.pairs ∙ sym c.loop-number.invariant.moved.pairs) in
    omega (arith, less, count, same)

pub returns-in-Blocked-clause-told : goal.returns-in-Blocked-clause-told
returns-in-Blocked-clause-told c =
    let items = c.args.change.now.window.items.now in
    let k = c.args.change.now.step in
    let n = c.args.kept.now.0 in
    λ answers. told_as answers (reversed_by items k) (IsWith (KeptAt n) c.args.far) (IsAt n c.args.far) (λ r there is. kept_with_is n c.args.far r is)
    (λ r there is. kept_at_is c.listed_is_reversed.ensures c.listed_stands_last.ensures items k c.weighing_is_decided.ensures c.order_is_decided.ensures n c.args.kept.now.1 c.requires.kept.at c.requires.kept.kept c.args.far r there is) (Blocked c.in-Blocked.cause)
    (turn_blocks answers answers (λ r h. h) (reversed_by items k) (IsOfMoved (moved_by items k) (KeptAt n) c.args.far) c.loop-number.number (c.loop-number.invariant.pass answers) c.of_number_kept-allowed.result (c.of_number_kept-allowed.ensures.told answers)
    (IsWith (KeptAt n) c.args.far) (λ s there of. let w = moved_cover c.listed_is_reversed.ensures c.listed_stands_last.ensures items k (KeptAt n) c.args.far s there of in (w.0, w.2)) (λ i r of. of.1)
    (moved_order c.listed_is_reversed.ensures c.listed_stands_last.ensures items k (KeptAt n) c.args.far) c.in-Blocked.cause c.in-Blocked.is)

pub loop-number-preserved : goal.loop-number-preserved
loop-number-preserved c =
    let items = c.args.change.now.window.items.now in
    let k = c.args.change.now.step in
    record {
      moved = c.of_number_kept-allowed.ensures.moved;
      pass = λ answers. turn_passes answers answers (λ r h. h) (reversed_by items k) (IsOfMoved (moved_by items k) (KeptAt c.args.kept.now.0) c.args.far) c.loop-number.number (c.loop-number.invariant.pass answers) c.of_number_kept-allowed.result
          (c.of_number_kept-allowed.ensures.told answers) c.in_default.is;
    }

pub returns-clause-told : goal.returns-clause-told
returns-clause-told c =
    let items = c.args.change.now.window.items.now in
    let k = c.args.change.now.step in
    let n = c.args.kept.now.0 in
    let count = c.len-count.ensures in
    let end = c.loop-number-test.false in
    let same : length c.args.moving.now.pairs.items ≡ length (moved_by items k) = ap length c.requires.moved.pairs in
    λ answers. told_as answers (reversed_by items k) (IsWith (KeptAt n) c.args.far) (IsAt n c.args.far) (λ r there is. kept_with_is n c.args.far r is)
    (λ r there is. kept_at_is c.listed_is_reversed.ensures c.listed_stands_last.ensures items k c.weighing_is_decided.ensures c.order_is_decided.ensures n c.args.kept.now.1 c.requires.kept.at c.requires.kept.kept c.args.far r there is) Free
    (all_pass (Passes answers) (reversed_by items k) (IsOfMoved (moved_by items k) (KeptAt n) c.args.far) (IsWith (KeptAt n) c.args.far) c.loop-number.number (c.loop-number.invariant.pass answers)
    (λ s there of. let w = moved_cover c.listed_is_reversed.ensures c.listed_stands_last.ensures items k (KeptAt n) c.args.far s there of in let less = w.1 in (w.0, omega (arith, count, end, same, less), w.2)))
