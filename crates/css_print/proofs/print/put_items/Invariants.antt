use Rattle.std.proofs.Common.{take}
use Rattle.std.specs.List.{flat_map}
use Rattle.css_model.specs.Sheets.Printed.{printed_item}
use Rattle.css_print.proofs.print.put_items.Given as goal

-- what was written so far
abbrev pub invariant-loop-item : goal.invariant-loop-item
invariant-loop-item g l = g.O.Output.more l.fn.out (flat_map (printed_item l.source) (take l.item-index l.items)) l.out
