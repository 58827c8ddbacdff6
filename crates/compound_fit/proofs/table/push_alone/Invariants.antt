use Rattle.std.proofs.Common.{take}
use Rattle.compound_fit.specs.Table.{AddsFits}
use Rattle.compound_fit.proofs.table.push_alone.Given as goal

abbrev pub invariant-loop-compound : goal.invariant-loop-compound
invariant-loop-compound l = AddsFits l.initial.fits.items l.fits.items (take l.compound-index l.compounds)
