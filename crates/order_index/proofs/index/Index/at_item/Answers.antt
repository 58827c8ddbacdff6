use Rattle.std.proofs.Common.{◌≡◌, List, Some, sym, ap, ◌∙◌, subst}
use Rattle.std.specs.Prelude.{bit_and, slice_get}
use Rattle.css_model.specs.declared.sheet.Item.{Item}
use Rattle.order_index.proofs.EntryFacts.{none_masked}
use Rattle.order_index.proofs.Telling.{none_of}
use Rattle.order_index.proofs.index.Index.at_item.Goals as goal
use Rattle.order_index.specs.Told.{IsAt, reversed_by}
use Rattle.order_index.specs.Walked.{with_masks}

pub returns-then-moving-mask-eq0-clause-told : goal.returns-then-moving-mask-eq0-clause-told
returns-then-moving-mask-eq0-clause-told c =
    let items = c.args.change.now.window.items.now in
    let k = c.args.change.now.step in
    let item = c.item_at-item.result.now in
    let mask = c.args.moving.now.mask in
    let at = subst (λ (xs : List Item). slice_get xs c.args.number ≡ Some item) (sym c.requires.items) c.item_at-item.ensures in
    none_of c.args.pairs.now.answers (reversed_by items k) (IsAt c.args.number c.args.far)
    (λ r there is.
    none_masked c.listed_is_reversed.ensures c.listed_stands_last.ensures items k mask (c.requires.moved.mask ∙ ap (with_masks 0) c.requires.moved.pairs) c.args.number item at
    (ap (bit_and mask) (sym (c.mask_at-mask.ensures item c.item_at-item.ensures)) ∙ c.if-moving-mask-eq0.true) r there is.0)

pub returns-in-KeptRule-clause-told : goal.returns-in-KeptRule-clause-told
returns-in-KeptRule-clause-told c = c.with_kept.ensures.told c.args.pairs.now.answers
