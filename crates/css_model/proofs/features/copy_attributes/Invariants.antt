use Rattle.std.proofs.Common.{◌≡◌, take}
use Rattle.css_model.proofs.features.copy_attributes.Given as goal

abbrev pub invariant-loop-name : goal.invariant-loop-name
invariant-loop-name l = l.copies.items ≡ take l.name-index l.attributes.items
