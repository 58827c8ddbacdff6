use Rattle.std.proofs.Common.{◌≡◌, take}
use Rattle.css_model.proofs.selector.Compound.copy.Given as goal

abbrev pub invariant-loop-simple : goal.invariant-loop-simple
invariant-loop-simple l = l.simples.items ≡ take l.simple-index l.simple-items
