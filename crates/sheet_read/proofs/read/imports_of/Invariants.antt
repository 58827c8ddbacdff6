use Rattle.std.proofs.Common.{◌≡◌, ◌≤◌, ◌+◌, length}
use Rattle.css_model.specs.Sheets.Sheet.{namespace_at}
use Rattle.sheet_read.specs.Placed.{ArePlaced}
use Rattle.sheet_read.specs.Steps.{whole_items, count_imports}
use Rattle.sheet_read.proofs.read.imports_of.Given as goal

-- the `@import` rules so far, and no `@namespace`
abbrev pub invariant-items : goal.invariant-items
invariant-items l = record {
  counted : l.imports + count_imports l.source (whole_items l.rest) ≡ count_imports l.source (whole_items l.lexemes);
  namespace : namespace_at l.source (whole_items l.rest) ≡ namespace_at l.source (whole_items l.lexemes);
  placed : ArePlaced l.source l.rest;
  few : l.imports + length l.rest ≤ length l.lexemes;
}

abbrev pub decreases-items : goal.decreases-items
decreases-items l = length l.rest
