use Rattle.sat_trail.proofs.EntryLemmas.{below-get}
use Rattle.sat_trail.proofs.trail.Trail.entry.Goals as goal

pub returns-clause-in_range : goal.returns-clause-in_range
returns-clause-in_range c =
    let h = rw (← c.self.view_is) at c.requires in
    rw (← c.self.view_is) (rw c.index.ensures (below-get c.self.inside.vars c.self.inside.entries.items c.args.k c.index.result.now c.self.invariant.0.trail.in_range h))
