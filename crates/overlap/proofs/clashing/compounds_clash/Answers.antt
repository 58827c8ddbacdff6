use Rattle.std.proofs.Common.{rules}
use Rattle.overlap.proofs.Forced.{one_more}
use Rattle.overlap.proofs.clashing.compounds_clash.Goals as goal

pub loop-i-preserved : goal.loop-i-preserved
loop-i-preserved c = one_more c.links_of-left.result.now c.links_of-right.result.now c.loop-i.i c.loop-i.invariant (c.go_together.ensures (search rules))
