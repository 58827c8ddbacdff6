use Rattle.std.proofs.Common.{◌≡◌, ◌≤◌, List, Some, ap, sym, ◌∙◌, subst, arith}
use Rattle.std.specs.Prelude.{slice_get}
use Rattle.std.proofs.lemmas.Option.{same_Some}
use Rattle.css_model.specs.declared.sheet.Item.{Item}
use Rattle.css_model.specs.declared.sheet.Item.TheVariants.{Rule}
use Rattle.indexed_sheet.specs.declared.marks.Mark.{Mark}
use Rattle.planner_state.specs.Weighing.{IsWeighed}
use Rattle.planner_state.proofs.Results.{if_fine}
use Rattle.planner_state.proofs.Weighed.{known_there}
use Rattle.planner_state.proofs.weighing.weigh_at.Goals as goal

pub weigh_item-requires-clause-weighable : goal.weigh_item-requires-clause-weighable
weigh_item-requires-clause-weighable c =
    let items : c.items.result.now ≡ c.args.indexed.now.items = c.items.ensures in
    let there : slice_get c.args.indexed.now.items c.args.number ≡ Some c.item_at-item.result.now = subst (λ (xs : List Item). slice_get xs c.args.number ≡ Some c.item_at-item.result.now) items c.item_at-item.ensures in
    λ r is. c.requires.weighable c.args.number r (there ∙ ap Some is)

pub weigh_item-requires-clause-known : goal.weigh_item-requires-clause-known
weigh_item-requires-clause-known c =
    let items : c.items.result.now ≡ c.args.indexed.now.items = c.items.ensures in
    let there : slice_get c.args.indexed.now.items c.args.number ≡ Some c.item_at-item.result.now = subst (λ (xs : List Item). slice_get xs c.args.number ≡ Some c.item_at-item.result.now) items c.item_at-item.ensures in
    let later : c.args.next ≤ c.mark-item_id.result.item_id = omega (arith, c.if-item_id-next.false) in
    known_there c.args.source.now c.args.next c.args.indexed.now c.args.known c.args.number c.mark-item_id.result c.item_at-item.result.now c.mark-item_id.ensures there later c.requires.known

pub returns-clause-weighed : goal.returns-clause-weighed
returns-clause-weighed c =
    let items : c.items.result.now ≡ c.args.indexed.now.items = c.items.ensures in
    let there : slice_get c.args.indexed.now.items c.args.number ≡ Some c.item_at-item.result.now = subst (λ (xs : List Item). slice_get xs c.args.number ≡ Some c.item_at-item.result.now) items c.item_at-item.ensures in
    if_fine c.weigh_item.result
    (λ weighed m r at item_at later. subst (λ (o : Mark). IsWeighed c.args.source.now c.weigh_item.new.weights o.item_id r) (same_Some c.mark-item_id.result m (sym c.mark-item_id.ensures ∙ at))
    (weighed r (same_Some c.item_at-item.result.now (Rule r) (sym there ∙ item_at)))) c.weigh_item.ensures.weighed
