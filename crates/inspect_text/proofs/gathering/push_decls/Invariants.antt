use Rattle.std.proofs.Common.{◌≡◌, ◌+◌, ◌++◌, length}
use Rattle.std.specs.List.{AllByRecursion, enumerate_from, flat_map}
use Rattle.css_model.specs.Sheets.Sound.{IsSoundDeclaration}
use Rattle.inspect_laws.specs.Entries.{by_declaration}
use Rattle.inspect_text.proofs.gathering.push_decls.Given as goal

-- what was put, and what is left to put
abbrev pub invariant-decls : goal.invariant-decls
invariant-decls l = record {
  found : l.found.items ++ flat_map (by_declaration l.layer l.item l.matching) (enumerate_from l.number l.rest)
      ≡ l.fn.found.items ++ flat_map (by_declaration l.layer l.item l.matching) (enumerate_from 0 l.fn.decls);
  sound : AllByRecursion (IsSoundDeclaration l.layer.source) l.rest;
  number : l.number + length l.rest ≡ length l.fn.decls;
}

abbrev pub decreases-decls : goal.decreases-decls
decreases-decls l = length l.rest
