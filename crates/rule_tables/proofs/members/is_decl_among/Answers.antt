use Rattle.std.proofs.Common.{◌≡◌, ◌↔◌, Bool, true, map, subst, sym}
use Rattle.std.specs.List.{Contains}
use Rattle.css_model.specs.declared.sheet.DeclItem.{DeclItem}
use Rattle.order_laws.proofs.ForCallers.{has_decl_is}
use Rattle.rule_tables.proofs.members.is_decl_among.Goals as goal

pub returns : goal.returns
returns c =
    subst (λ (b : Bool). (b ≡ true) ↔ Contains (map (λ (x : DeclItem). x.decl) c.args.items.now) c.args.decl.now) (sym c.has_decl.ensures)
    (has_decl_is c.args.items.now c.args.decl.now)
