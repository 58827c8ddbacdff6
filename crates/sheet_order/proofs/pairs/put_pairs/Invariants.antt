use Rattle.std.proofs.Common.{◌≡◌, map, take}
use Rattle.order_laws.specs.Places as order
use Rattle.sheet_order.specs.Keys.{inserted}
use Rattle.sheet_order.proofs.pairs.put_pairs.Given as goal

-- those of the first declarations
abbrev pub invariant-loop-decl : goal.invariant-loop-decl
invariant-loop-decl l = l.found.keys ≡ inserted l.fn.found.keys (map (order.placed l.item l.selector) (take l.decl-index l.decls))
