use Rattle.sat_arena.proofs.MoveSteps.{moves}
use Rattle.sat_arena.proofs.arena.Arena.move_after.Goals as goal

pub relink-requires-clause-clause : goal.relink-requires-clause-clause
relink-requires-clause-clause c =
    let a = c.self.inside in
    let m = moves a.vars a.words.items a.firsts.items a.starts.items c.args.lit c.args.before c.args.clause c.args.to c.self.invariant (rw (← c.self.view_is) at c.requires.lit) (rw (← c.self.view_is) at c.requires.to) (rw (← c.self.view_is) at c.requires.behind) (rw (← c.self.view_is) at c.requires.holds) (rw (← c.self.view_is) at c.requires.unwatched) in
    m.clause

pub relink-requires-clause-before : goal.relink-requires-clause-before
relink-requires-clause-before c =
    let a = c.self.inside in
    let m = moves a.vars a.words.items a.firsts.items a.starts.items c.args.lit c.args.before c.args.clause c.args.to c.self.invariant (rw (← c.self.view_is) at c.requires.lit) (rw (← c.self.view_is) at c.requires.to) (rw (← c.self.view_is) at c.requires.behind) (rw (← c.self.view_is) at c.requires.holds) (rw (← c.self.view_is) at c.requires.unwatched) in
    m.behind

pub relink-requires-clause-apart : goal.relink-requires-clause-apart
relink-requires-clause-apart c =
    let a = c.self.inside in
    let m = moves a.vars a.words.items a.firsts.items a.starts.items c.args.lit c.args.before c.args.clause c.args.to c.self.invariant (rw (← c.self.view_is) at c.requires.lit) (rw (← c.self.view_is) at c.requires.to) (rw (← c.self.view_is) at c.requires.behind) (rw (← c.self.view_is) at c.requires.holds) (rw (← c.self.view_is) at c.requires.unwatched) in
    m.apart

pub invariant_of-self : goal.invariant_of-self
invariant_of-self c =
    let a = c.self.inside in
    let m = moves a.vars a.words.items a.firsts.items a.starts.items c.args.lit c.args.before c.args.clause c.args.to c.self.invariant (rw (← c.self.view_is) at c.requires.lit) (rw (← c.self.view_is) at c.requires.to) (rw (← c.self.view_is) at c.requires.behind) (rw (← c.self.view_is) at c.requires.holds) (rw (← c.self.view_is) at c.requires.unwatched) in
    rw (c.relink.ensures.words, c.relink.ensures.firsts) m.done.inside

pub returns-clause-clauses : goal.returns-clause-clauses
returns-clause-clauses c =
    let a = c.self.inside in
    let m = moves a.vars a.words.items a.firsts.items a.starts.items c.args.lit c.args.before c.args.clause c.args.to c.self.invariant (rw (← c.self.view_is) at c.requires.lit) (rw (← c.self.view_is) at c.requires.to) (rw (← c.self.view_is) at c.requires.behind) (rw (← c.self.view_is) at c.requires.holds) (rw (← c.self.view_is) at c.requires.unwatched) in
    rw (← c.self.view_is, c.relink.ensures.words) m.done.clauses

pub returns-clause-to : goal.returns-clause-to
returns-clause-to c =
    let a = c.self.inside in
    let m = moves a.vars a.words.items a.firsts.items a.starts.items c.args.lit c.args.before c.args.clause c.args.to c.self.invariant (rw (← c.self.view_is) at c.requires.lit) (rw (← c.self.view_is) at c.requires.to) (rw (← c.self.view_is) at c.requires.behind) (rw (← c.self.view_is) at c.requires.holds) (rw (← c.self.view_is) at c.requires.unwatched) in
    rw (← c.self.view_is, c.relink.ensures.words, c.relink.ensures.firsts) m.done.list_to

pub returns-clause-lit : goal.returns-clause-lit
returns-clause-lit c =
    let a = c.self.inside in
    let m = moves a.vars a.words.items a.firsts.items a.starts.items c.args.lit c.args.before c.args.clause c.args.to c.self.invariant (rw (← c.self.view_is) at c.requires.lit) (rw (← c.self.view_is) at c.requires.to) (rw (← c.self.view_is) at c.requires.behind) (rw (← c.self.view_is) at c.requires.holds) (rw (← c.self.view_is) at c.requires.unwatched) in
    rw (← c.self.view_is, c.relink.ensures.words, c.relink.ensures.firsts) m.done.list_lit

pub returns-clause-others : goal.returns-clause-others
returns-clause-others c l nl nt =
    let a = c.self.inside in
    let m = moves a.vars a.words.items a.firsts.items a.starts.items c.args.lit c.args.before c.args.clause c.args.to c.self.invariant (rw (← c.self.view_is) at c.requires.lit) (rw (← c.self.view_is) at c.requires.to) (rw (← c.self.view_is) at c.requires.behind) (rw (← c.self.view_is) at c.requires.holds) (rw (← c.self.view_is) at c.requires.unwatched) in
    rw (← c.self.view_is, c.relink.ensures.words, c.relink.ensures.firsts) (m.done.list_others l nl nt)

pub returns-clause-arena : goal.returns-clause-arena
returns-clause-arena c =
    let a = c.self.inside in
    let m = moves a.vars a.words.items a.firsts.items a.starts.items c.args.lit c.args.before c.args.clause c.args.to c.self.invariant (rw (← c.self.view_is) at c.requires.lit) (rw (← c.self.view_is) at c.requires.to) (rw (← c.self.view_is) at c.requires.behind) (rw (← c.self.view_is) at c.requires.holds) (rw (← c.self.view_is) at c.requires.unwatched) in
    rw (c.relink.ensures.words, c.relink.ensures.firsts) m.done.arena
