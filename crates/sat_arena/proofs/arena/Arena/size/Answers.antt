use Rattle.std.proofs.Common.{◌+◌, sym, ◌∙◌, arith}
use Rattle.std.proofs.lemmas.List.{get_or_default}
use Rattle.sat_arena.proofs.ReadLemmas.{known-start, clause-inside, size-is}
use Rattle.sat_arena.proofs.arena.Arena.size.Goals as goal

pub overflow_add-clause : goal.overflow_add-clause
overflow_add-clause c =
    let a = c.self.inside in
    let o = known-start a.vars a.words.items a.firsts.items a.starts.items c.args.clause (rw (← c.self.view_is) at c.requires) in
    let i = (clause-inside a.vars a.words.items a.firsts.items a.starts.items c.args.clause c.self.invariant o).1 in
    omega (arith, i, a.words.ok)

pub index-requires : goal.index-requires
index-requires c =
    let a = c.self.inside in
    let o = known-start a.vars a.words.items a.firsts.items a.starts.items c.args.clause (rw (← c.self.view_is) at c.requires) in
    let i = (clause-inside a.vars a.words.items a.firsts.items a.starts.items c.args.clause c.self.invariant o).1 in
    omega (arith, i, a.words.ok)

pub returns : goal.returns
returns c =
    let a = c.self.inside in
    let o = known-start a.vars a.words.items a.firsts.items a.starts.items c.args.clause (rw (← c.self.view_is) at c.requires) in
    let i = (clause-inside a.vars a.words.items a.firsts.items a.starts.items c.args.clause c.self.invariant o).1 in
    rw (← c.self.view_is) (c.index.ensures ∙ (get_or_default a.words.items (c.args.clause + 4) c.index.result.now 0 (omega (arith, i)) ∙ sym (size-is a.vars a.words.items a.firsts.items a.starts.items c.args.clause o)))
