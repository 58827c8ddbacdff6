use Rattle.std.proofs.Common.{◌≡◌, ◌≤◌, ◌+◌, length}
use Rattle.std.specs.List.{count_by}
use Rattle.media_groups.specs.Opened as spec
use Rattle.media_groups.proofs.opening.imports_of.Given as goal

abbrev pub invariant-items : goal.invariant-items
invariant-items l = record {
  counted : l.imports + count_by (spec.is_import_item l.reading.source.now) l.rest ≡ count_by (spec.is_import_item l.reading.source.now) l.items;
  few : l.imports + length l.rest ≤ length l.items;
}

abbrev pub decreases-items : goal.decreases-items
decreases-items l = length l.rest
