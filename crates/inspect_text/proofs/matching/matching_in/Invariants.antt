use Rattle.std.proofs.Common.{◌≡◌, ◌+◌, ◌++◌, length}
use Rattle.std.specs.List.{AllByRecursion, enumerate_from}
use Rattle.cascade_eval.specs.Entries.{IsSmall}
use Rattle.css_model.specs.Documents.Matching.{matches}
use Rattle.css_model.specs.Documents.RunDocuments.{expand, target_of}
use Rattle.css_model.specs.Sheets.Sound.{IsSoundSelector}
use Rattle.inspect_laws.specs.Entries.{matching_in}
use Rattle.inspect_text.proofs.matching.matching_in.Given as goal

-- those that were found, and those of the selectors that are left
abbrev pub invariant-selectors : goal.invariant-selectors
invariant-selectors l = record {
  found : l.found.items ++ matching_in (matches (expand l.x) (target_of l.x)) l.source (enumerate_from l.number l.rest)
      ≡ matching_in (matches (expand l.x) (target_of l.x)) l.source (enumerate_from 0 l.fn.selectors);
  small : AllByRecursion (λ s. IsSmall s.selector) l.rest;
  sound : AllByRecursion (IsSoundSelector l.source) l.rest;
  number : l.number + length l.rest ≡ length l.fn.selectors;
}

abbrev pub decreases-selectors : goal.decreases-selectors
decreases-selectors l = length l.rest
