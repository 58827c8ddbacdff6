use Rattle.std.proofs.Common.{◌≡◌, map, take}
use Rattle.sheet_members.specs.Layers.{body_layer}
use Rattle.sheet_members.proofs.layer.layers_of.Given as goal

abbrev pub invariant-loop-number : goal.invariant-loop-number
invariant-loop-number l = l.layers.items ≡ map (body_layer l.source) (take l.number l.media)
