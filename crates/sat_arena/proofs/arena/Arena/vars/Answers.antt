use Rattle.sat_arena.proofs.ModelLemmas.{is-arena}
use Rattle.sat_arena.proofs.arena.Arena.vars.Goals as goal

pub returns-clause-arena : goal.returns-clause-arena
returns-clause-arena c =
    let a = c.self.inside in
    rw (← c.self.view_is) (is-arena a.vars a.words.items a.firsts.items a.starts.items c.self.invariant)
