use Rattle.std.proofs.Common.{take}
use Rattle.std.specs.List.{flat_map}
use Rattle.compound_fit.specs.Table.{AddsFits, with_each}
use Rattle.compound_fit.proofs.table.push_pairs.Given as goal

abbrev pub invariant-loop-compound : goal.invariant-loop-compound
invariant-loop-compound l = AddsFits l.initial.fits.items l.fits.items (flat_map (λ c. with_each c l.y) (take l.compound-index l.x))
