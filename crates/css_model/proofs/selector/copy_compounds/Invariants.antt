use Rattle.std.proofs.Common.{◌≡◌, take}
use Rattle.css_model.proofs.selector.copy_compounds.Given as goal

abbrev pub invariant-loop-compound : goal.invariant-loop-compound
invariant-loop-compound l = l.copies.items ≡ take l.compound-index l.chain.items
