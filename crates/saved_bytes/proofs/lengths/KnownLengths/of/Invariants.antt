use Rattle.std.proofs.Common.{◌≡◌, length}
use Rattle.std.specs.List.{AllByRecursion}
use Rattle.css_model.specs.Sheets.Sound.{IsSoundItem}
use Rattle.saved_bytes.proofs.lengths.KnownLengths.of.Given as goal

-- those that are left are items of the source
abbrev pub invariant-rest : goal.invariant-rest
invariant-rest l = record {
  same : l.lengths ≡ l.bytes;
  sound : AllByRecursion (IsSoundItem l.bytes) l.rest;
}

abbrev pub decreases-rest : goal.decreases-rest
decreases-rest l = length l.rest
