use Rattle.std.proofs.Common.{◌≡◌, ◌++◌, length}
use Rattle.std.specs.List.{AllByRecursion, flat_map}
use Rattle.css_model.specs.Sheets.Sound.{IsSoundSelector}
use Rattle.dead_sel.specs.Held.{is_dead}
use Rattle.lint_text.specs.Findings.{dead_of}
use Rattle.lint_text.proofs.searching.find_dead.Given as goal

-- what was found, and what is found in the selectors that are left
abbrev pub invariant-selectors : goal.invariant-selectors
invariant-selectors l = record {
  found : l.found.items ++ flat_map (dead_of (is_dead l.pairs.answers) l.level) l.rest ≡ l.fn.found.items ++ flat_map (dead_of (is_dead l.pairs.answers) l.level) l.fn.selectors;
  sound : AllByRecursion (IsSoundSelector l.level.source) l.rest;
}

abbrev pub decreases-selectors : goal.decreases-selectors
decreases-selectors l = length l.rest
