use Rattle.std.proofs.Common.{◌≡◌, length}
use Rattle.sheet_order.specs.Keys.{inserted, products_back}
use Rattle.sheet_order.proofs.pairs.put_products.Given as goal

-- what was put, and what is left to put
abbrev pub invariant-left : goal.invariant-left
invariant-left l = inserted l.found.keys (products_back l.item l.left.keys l.decls) ≡ inserted l.fn.found.keys (products_back l.item l.fn.selectors.keys l.decls)

abbrev pub decreases-left : goal.decreases-left
decreases-left l = length l.left.keys
