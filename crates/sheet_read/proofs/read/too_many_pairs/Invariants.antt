use Rattle.std.proofs.Common.{◌≡◌, ◌≤◌, drop}
use Rattle.css_model.specs.declared.limits.TheConstants.{MAX_PAIRS}
use Rattle.css_model.specs.Sheets.Sheet as spec
use Rattle.sheet_read.proofs.read.too_many_pairs.Given as goal

-- the pairs so far are not too many
abbrev pub invariant-loop-item : goal.invariant-loop-item
invariant-loop-item l = record {
  later : spec.too_many_pairs l.pairs (drop l.item-index l.items) ≡ spec.too_many_pairs 0 l.items;
  few : l.pairs ≤ MAX_PAIRS;
}
