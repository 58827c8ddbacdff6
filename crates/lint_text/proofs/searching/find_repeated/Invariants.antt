use Rattle.std.proofs.Common.{◌≡◌, ◌+◌, ◌++◌, length}
use Rattle.std.specs.List.{AllByRecursion, enumerate_from, flat_map}
use Rattle.css_model.specs.Sheets.Sound.{IsSoundDeclaration}
use Rattle.lint_text.specs.Findings.{repeated_of}
use Rattle.lint_text.proofs.searching.find_repeated.Given as goal

-- what was found, and what is found in the declarations that are left
abbrev pub invariant-decls : goal.invariant-decls
invariant-decls l = record {
  found : l.found.items ++ flat_map (repeated_of l.level l.item l.selectors) (enumerate_from l.number l.rest)
      ≡ l.fn.found.items ++ flat_map (repeated_of l.level l.item l.selectors) (enumerate_from 0 l.fn.decls);
  sound : AllByRecursion (IsSoundDeclaration l.level.source) l.rest;
  number : l.number + length l.rest ≡ length l.fn.decls;
}

abbrev pub decreases-decls : goal.decreases-decls
decreases-decls l = length l.rest
