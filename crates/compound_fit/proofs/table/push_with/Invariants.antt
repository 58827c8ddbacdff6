use Rattle.std.proofs.Common.{take}
use Rattle.compound_fit.specs.Table.{AddsFits, with_each}
use Rattle.compound_fit.proofs.table.push_with.Given as goal

abbrev pub invariant-loop-other : goal.invariant-loop-other
invariant-loop-other l = AddsFits l.initial.fits.items l.fits.items (with_each l.compound (take l.other-index l.compounds))
