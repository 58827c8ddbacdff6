use Rattle.std.proofs.Common.{◌≡◌, map, take}
use Rattle.sheet_members.specs.Layers.{head_texts}
use Rattle.sheet_members.proofs.heads.heads_of.Given as goal

abbrev pub invariant-loop-block : goal.invariant-loop-block
invariant-loop-block l = l.heads.items ≡ map (head_texts l.reading.source.now) (take l.block-index l.media)
