use Rattle.std.proofs.Common.{◌≡◌, length}
use Rattle.std.specs.List.{AllByRecursion}
use Rattle.css_model.specs.Sheets.Sound.{IsSoundSelector}
use Rattle.saved_bytes.proofs.lengths.KnownLengths.remember_each.Given as goal

-- those that are left are selectors of the source
abbrev pub invariant-rest : goal.invariant-rest
invariant-rest l = record {
  same : l.self ≡ l.initial.self;
  sound : AllByRecursion (IsSoundSelector l.self) l.rest;
}

abbrev pub decreases-rest : goal.decreases-rest
decreases-rest l = length l.rest
