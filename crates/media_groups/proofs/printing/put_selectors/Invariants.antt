use Rattle.std.proofs.Common.{◌≡◌, ◌++◌, length, map}
use Rattle.std.specs.List.{AllByRecursion, join_with_byte}
use Rattle.css_model.specs.Sheets.Printed.{printed_selector}
use Rattle.css_model.specs.Sheets.Sound.{IsSoundSelector}
use Rattle.media_groups.proofs.printing.put_selectors.Given as goal

-- what was written, and the text of those that are left, are the whole text
abbrev pub invariant-selectors : goal.invariant-selectors
invariant-selectors l = record {
  text : l.out.items ++ join_with_byte 44 (map (printed_selector l.source) l.rest) ≡ l.fn.out.items ++ join_with_byte 44 (map (printed_selector l.source) l.fn.selectors);
  sound : AllByRecursion (IsSoundSelector l.source) l.rest;
}

abbrev pub decreases-selectors : goal.decreases-selectors
decreases-selectors l = length l.rest
