use Rattle.std.proofs.Common.{◌≡◌, take}
use Rattle.css_model.proofs.sheet.copy_selectors.Given as goal

abbrev pub invariant-loop-selector : goal.invariant-loop-selector
invariant-loop-selector l = l.copies.items ≡ take l.selector-index l.selectors.items
