use Rattle.std.proofs.Common.{length}
use Rattle.std.specs.List.{Contains}
use Rattle.std.specs.List.Sorted.{IsStrictlyIncreasing}
use Rattle.css_model.specs.declared.sheet.SelItem.{SelItem}
use Rattle.rule_tables.proofs.Sharing.{IsOfOne}
use Rattle.rule_tables.proofs.partners.order_keys_of_selectors.Given as goal

abbrev pub invariant-rest : goal.invariant-rest
invariant-rest l = record {
  ascends : IsStrictlyIncreasing l.found;
  of_one : IsOfOne l.entries l.selectors l.found;
  among : (s : SelItem) → Contains l.rest s → Contains l.selectors s;
}

abbrev pub decreases-rest : goal.decreases-rest
decreases-rest l = length l.rest
