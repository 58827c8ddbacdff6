use Rattle.std.proofs.Common.{◌≡◌, List, Some, length, refl, sym, subst, arith}
use Rattle.std.specs.Prelude.{slice_get}
use Rattle.std.proofs.lemmas.Option.{slice_get_read}
use Rattle.css_model.specs.declared.sheet.Item.{Item}
use Rattle.css_model.specs.declared.sheet.Item.TheVariants.{Rule}
use Rattle.css_model.specs.Sheets.RuleParts.{RuleParts}
use Rattle.order_index.proofs.Classes.{pair_with_is, pairs_cover, pairs_inside, pairs_order}
use Rattle.order_index.proofs.InTurn.{all_pass}
use Rattle.order_index.proofs.Telling.{passes_stay}
use Rattle.order_index.proofs.Turns.{turn_blocks, turn_passes}
use Rattle.order_index.proofs.index.Index.at_rule.Goals as goal
use Rattle.order_index.specs.Others.{AreAt}
use Rattle.order_index.specs.Told.{IsAt, IsWithPair, Passes, reversed_by}
use Rattle.sheet_order.proofs.ForCallers.{stays_on}

pub pairs_at-others-requires : goal.pairs_at-others-requires
pairs_at-others-requires c = record { rule = subst (λ (xs : List Item). (r : RuleParts) × (slice_get xs c.args.number ≡ Some (Rule r))) c.requires.items c.requires.rule }

pub returns-in-Blocked-clause-told : goal.returns-in-Blocked-clause-told
returns-in-Blocked-clause-told c =
    let items = c.args.change.now.window.items.now in
    let k = c.args.change.now.step in
    let others = c.pairs_at-others.result.now in
    let are = subst (λ (xs : List Item). AreAt xs c.args.number others) (sym c.requires.items) c.pairs_at-others.ensures in
    let at = slice_get_read others (length others) c.loop-q.q-index c.q-item.result refl (omega arith) c.q-item.is in
    turn_blocks c.loop-q.pairs.answers c.with_pair.new.pairs.answers (passes_stay c.loop-q.pairs c.with_pair.new.pairs c.with_pair.ensures.stays) (reversed_by items k) (IsWithPair others c.args.far) c.loop-q.q-index c.loop-q.invariant.pass
    c.in_ok-allowed.allowed (pair_with_is c.with_pair.new.pairs.answers (reversed_by items k) others c.args.far c.loop-q.q-index c.q-item.result at c.in_ok-allowed.allowed c.in_ok-allowed.ensures.told) (IsAt c.args.number c.args.far)
    (λ s there of. let w = pairs_cover c.listed_is_reversed.ensures c.listed_stands_last.ensures items k c.weighing_is_decided.ensures c.order_is_decided.ensures c.args.number others are c.args.far s there of in (w.0, w.2))
    (λ i r of. pairs_inside c.listed_is_reversed.ensures c.listed_stands_last.ensures items k c.args.number others are c.args.far i r of) (pairs_order c.listed_is_reversed.ensures c.listed_stands_last.ensures items k others are.rise c.args.far) c.in-Blocked.cause c.in-Blocked.is

pub loop-q-preserved : goal.loop-q-preserved
loop-q-preserved c =
    let items = c.args.change.now.window.items.now in
    let k = c.args.change.now.step in
    let others = c.pairs_at-others.result.now in
    let at = slice_get_read others (length others) c.loop-q.q-index c.q-item.result refl (omega arith) c.q-item.is in
    record {
      stays = stays_on c.args.pairs.now c.loop-q.pairs c.with_pair.new.pairs c.loop-q.invariant.stays c.with_pair.ensures.stays;
      moved = c.with_pair.ensures.moved;
      pass = turn_passes c.loop-q.pairs.answers c.with_pair.new.pairs.answers (passes_stay c.loop-q.pairs c.with_pair.new.pairs c.with_pair.ensures.stays) (reversed_by items k) (IsWithPair others c.args.far) c.loop-q.q-index c.loop-q.invariant.pass
          c.in_ok-allowed.allowed (pair_with_is c.with_pair.new.pairs.answers (reversed_by items k) others c.args.far c.loop-q.q-index c.q-item.result at c.in_ok-allowed.allowed c.in_ok-allowed.ensures.told) c.in_default.is;
    }

pub returns-clause-told : goal.returns-clause-told
returns-clause-told c =
    let items = c.args.change.now.window.items.now in
    let k = c.args.change.now.step in
    let others = c.pairs_at-others.result.now in
    let are = subst (λ (xs : List Item). AreAt xs c.args.number others) (sym c.requires.items) c.pairs_at-others.ensures in
    let test = c.loop-q-test.false in
    let end = c.loop-q.auto.q-index-end in
    all_pass (Passes c.loop-q.pairs.answers) (reversed_by items k) (IsWithPair others c.args.far) (IsAt c.args.number c.args.far) c.loop-q.q-index c.loop-q.invariant.pass
    (λ s there of. let w = pairs_cover c.listed_is_reversed.ensures c.listed_stands_last.ensures items k c.weighing_is_decided.ensures c.order_is_decided.ensures c.args.number others are c.args.far s there of in let less = w.1 in (w.0, omega (arith, test, end, less), w.2))
