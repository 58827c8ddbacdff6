use Rattle.std.proofs.Common.{◌≡◌, ◌++◌, length, map}
use Rattle.std.specs.List.{AllByRecursion, join_with_byte}
use Rattle.css_model.specs.Sheets.Printed.{printed_declaration}
use Rattle.css_model.specs.Sheets.Sound.{IsSoundDeclaration}
use Rattle.media_groups.proofs.printing.put_declarations.Given as goal

-- what was written, and the text of those that are left, are the whole text
abbrev pub invariant-decls : goal.invariant-decls
invariant-decls l = record {
  text : l.out.items ++ join_with_byte 59 (map (printed_declaration l.source) l.rest) ≡ l.fn.out.items ++ join_with_byte 59 (map (printed_declaration l.source) l.fn.decls);
  sound : AllByRecursion (IsSoundDeclaration l.source) l.rest;
}

abbrev pub decreases-decls : goal.decreases-decls
decreases-decls l = length l.rest
