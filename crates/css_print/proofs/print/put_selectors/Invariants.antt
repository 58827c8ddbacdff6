use Rattle.std.proofs.Common.{map, take}
use Rattle.std.specs.List.{join_with_byte}
use Rattle.css_model.specs.Sheets.Printed.{printed_selector}
use Rattle.css_print.proofs.print.put_selectors.Given as goal

-- what was written so far
abbrev pub invariant-loop-i : goal.invariant-loop-i
invariant-loop-i g l = g.O.Output.more l.fn.out (join_with_byte 44 (map (printed_selector l.source) (take l.i l.items))) l.out
