use Rattle.std.proofs.Common.{ℕ, List, take, subst, sym, arith}
use Rattle.std.specs.List.{flat_map}
use Rattle.std.proofs.lemmas.List.{take_all}
use Rattle.css_model.specs.declared.sheet.Item.{Item}
use Rattle.css_model.specs.Sheets.Printed.{printed_item}
use Rattle.css_print.proofs.Joining.{flat_map_step}
use Rattle.css_print.proofs.print.put_items.Goals as goal

pub loop-item-preserved : goal.loop-item-preserved
loop-item-preserved g c =
    let text = printed_item c.args.source.now in
    let items = c.args.items.now in
    let i = c.loop-item.item-index in
    let item = c.item-item.result in
    let before = flat_map text (take i items) in
    subst (λ (written : List ℕ). g.O.Output.more c.args.out.now written c.put_item.new.out)
    (sym (flat_map_step text items i item (omega arith) c.item-item.is))
    (g.met.O.Output.joins _ _ _ before (text item) c.loop-item.invariant c.in_ok-put_item.ensures)

pub returns : goal.returns
returns g c =
    let text = printed_item c.args.source.now in
    let items = c.args.items.now in
    subst (λ (taken : List Item). g.O.Output.more c.args.out.now (flat_map text taken) c.loop-item.out)
    (take_all c.loop-item.item-index items (omega arith)) c.loop-item.invariant
