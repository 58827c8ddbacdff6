use Rattle.std.proofs.Common.{map, take}
use Rattle.std.specs.List.{join_with_byte}
use Rattle.css_model.specs.Sheets.Printed.{printed_declaration}
use Rattle.css_print.proofs.print.put_declarations.Given as goal

-- what was written so far
abbrev pub invariant-loop-i : goal.invariant-loop-i
invariant-loop-i g l = g.O.Output.more l.fn.out (join_with_byte 59 (map (printed_declaration l.source) (take l.i l.items))) l.out
