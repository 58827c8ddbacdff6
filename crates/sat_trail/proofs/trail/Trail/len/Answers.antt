use Rattle.std.proofs.Common.{arith}
use Rattle.sat_trail.proofs.EntryLemmas.{length-le_vars}
use Rattle.sat_trail.proofs.trail.Trail.len.Goals as goal

pub overflow_cast-result : goal.overflow_cast-result
overflow_cast-result c =
    let t = c.self.invariant.0.trail in
    let few = length-le_vars c.self.inside.vars c.self.inside.entries.items t.in_range t.distinct in
    omega (arith, t.small, c.self.inside.entries.ok)

pub returns-clause-bound : goal.returns-clause-bound
returns-clause-bound c =
    let t = c.self.invariant.0.trail in
    let few = length-le_vars c.self.inside.vars c.self.inside.entries.items t.in_range t.distinct in
    rw (← c.self.view_is) (omega (arith, c.self.inside.entries.ok))
