use Rattle.std.proofs.Common.{ap}
use Rattle.indexed_sheet.proofs.left_masks.masks_of_shared.Goals as goal
use Rattle.indexed_sheet.specs.Putting.{items_in}

pub with_selectors_of-requires-in-Two : goal.with_selectors_of-requires-in-Two
with_selectors_of-requires-in-Two c = (c.requires.1 c.in-Two.made c.in-Two.rest (ap items_in c.in-Two.is)).0
