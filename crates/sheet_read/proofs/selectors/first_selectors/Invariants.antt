use Rattle.std.proofs.Common.{◌≡◌, length, List}
use Rattle.std.specs.List.{AllByRecursion}
use Rattle.css_model.specs.declared.sheet.SelItem.{SelItem}
use Rattle.css_model.specs.Sheets.Selectors.{selectors}
use Rattle.sheet_read.specs.Cut.{AreFirst}
use Rattle.sheet_read.specs.Placed.{ArePlaced}
use Rattle.sheet_read.proofs.Preludes.{parts_left, read}
use Rattle.sheet_read.proofs.selectors.first_selectors.Given as goal

-- the selectors so far, of which the first are stored, and those of the parts that are left, are those of the rule
abbrev pub invariant-loop-rest : goal.invariant-loop-rest
invariant-loop-rest l = record {
  placed : AllByRecursion (ArePlaced l.source) (parts_left l.rest);
  all : List SelItem;
  same : read l.source all (parts_left l.rest) ≡ selectors l.source l.fn.item;
  first : AreFirst l.decls l.room l.selectors.items all;
}

abbrev pub decreases-loop-rest : goal.decreases-loop-rest
decreases-loop-rest l = length (parts_left l.rest)
