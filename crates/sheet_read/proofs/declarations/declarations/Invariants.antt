use Rattle.std.proofs.Common.{◌≡◌, length}
use Rattle.std.specs.List.{AllByRecursion}
use Rattle.css_model.specs.Sheets.Declarations.{declarations}
use Rattle.sheet_read.specs.Placed.{ArePlaced}
use Rattle.sheet_read.proofs.Entries.{entries_left, listed}
use Rattle.sheet_read.proofs.declarations.declarations.Given as goal

-- the declarations so far, and those of the entries that are left, are those of the block
abbrev pub invariant-loop-rest : goal.invariant-loop-rest
invariant-loop-rest l = record {
  placed : AllByRecursion (ArePlaced l.source) (entries_left l.rest);
  same : listed l.source l.decls.items (entries_left l.rest) ≡ declarations l.source l.fn.item;
}

abbrev pub decreases-loop-rest : goal.decreases-loop-rest
decreases-loop-rest l = length (entries_left l.rest)
