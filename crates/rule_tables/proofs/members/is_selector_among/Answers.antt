use Rattle.std.proofs.Common.{◌≡◌, ◌↔◌, Bool, true, map, subst, sym}
use Rattle.std.specs.List.{Contains}
use Rattle.css_model.specs.declared.sheet.SelItem.{SelItem}
use Rattle.order_laws.proofs.ForCallers.{has_selector_is}
use Rattle.rule_tables.proofs.members.is_selector_among.Goals as goal

pub returns : goal.returns
returns c =
    subst (λ (b : Bool). (b ≡ true) ↔ Contains (map (λ (x : SelItem). x.selector) c.args.items.now) c.args.selector.now) (sym c.has_selector.ensures)
    (has_selector_is c.args.items.now c.args.selector.now)
