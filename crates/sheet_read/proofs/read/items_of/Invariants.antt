use Rattle.std.proofs.Common.{◌≡◌, ◌≤◌, ◌-◌, ◌++◌, length, List}
use Rattle.css_model.specs.declared.limits.TheConstants.{MAX_ITEMS, MAX_PAIRS}
use Rattle.css_model.specs.declared.sheet.Item.{Item}
use Rattle.css_model.specs.Sheets.ComesFrom.{pair_count}
use Rattle.css_model.specs.Sheets.Sheet.{read_items}
use Rattle.sheet_read.specs.Cut.{StandFor}
use Rattle.sheet_read.specs.Placed.{ArePlaced}
use Rattle.sheet_read.specs.Steps.{whole_items, count_imports}
use Rattle.sheet_read.proofs.read.items_of.Given as goal

-- the items so far, those for which they stand, the room that is left, and the `@import` rules that are left
abbrev pub invariant-items : goal.invariant-items
invariant-items l = record {
  before : List Item;
  read : before ++ read_items l.source (whole_items l.rest) ≡ read_items l.source (whole_items l.lexemes);
  stand : StandFor 0 l.items.items before;
  room : l.room ≡ MAX_PAIRS - pair_count l.items.items;
  imports : l.imports_left ≡ count_imports l.source (whole_items l.rest);
  placed : ArePlaced l.source l.rest;
  few : length l.items.items ≤ MAX_ITEMS;
}

abbrev pub decreases-items : goal.decreases-items
decreases-items l = length l.rest
