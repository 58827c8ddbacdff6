use Rattle.std.proofs.Common.{◌≡◌, take}
use Rattle.css_model.proofs.sheet.copy_decl_items.Given as goal

abbrev pub invariant-loop-decl : goal.invariant-loop-decl
invariant-loop-decl l = l.copies.items ≡ take l.decl-index l.decls.items
