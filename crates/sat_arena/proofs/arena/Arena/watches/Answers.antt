use Rattle.std.proofs.Common.{◌≡◌, ◌+◌, IsTrue, get_or, sym, ap, subst, ◌∙◌, arith}
use Rattle.cnf.specs.declared.lit.Lit.{Lit}
use Rattle.cnf.specs.Lits.{is_below}
use Rattle.sat_arena.specs.Arena.{WatchedClause}
use Rattle.sat_arena.proofs.ReadLemmas.{known-start, clause-inside, clause_at-is}
use Rattle.sat_arena.proofs.ModelLemmas.{watches-in_range}
use Rattle.sat_arena.proofs.arena.Arena.watches.Goals as goal

pub lit_at-requires-clause-place : goal.lit_at-requires-clause-place
lit_at-requires-clause-place c =
    let a = c.self.inside in
    let o = known-start a.vars a.words.items a.firsts.items a.starts.items c.args.clause (rw (← c.self.view_is) at c.requires) in
    let i = (clause-inside a.vars a.words.items a.firsts.items a.starts.items c.args.clause c.self.invariant o).1 in
    rw c.deref.ensures.value (omega (arith, i))

pub lit_at-requires-clause-number : goal.lit_at-requires-clause-number
lit_at-requires-clause-number c =
    let a = c.self.inside in
    let o = known-start a.vars a.words.items a.firsts.items a.starts.items c.args.clause (rw (← c.self.view_is) at c.requires) in
    rw c.deref.ensures.value (c.self.invariant.clauses c.args.clause o).one

pub overflow_add-clause : goal.overflow_add-clause
overflow_add-clause c =
    let a = c.self.inside in
    let o = known-start a.vars a.words.items a.firsts.items a.starts.items c.args.clause (rw (← c.self.view_is) at c.requires) in
    let i = (clause-inside a.vars a.words.items a.firsts.items a.starts.items c.args.clause c.self.invariant o).1 in
    omega (arith, i, a.words.ok)

pub lit_at-requires-2-clause-place : goal.lit_at-requires-2-clause-place
lit_at-requires-2-clause-place c =
    let a = c.self.inside in
    let o = known-start a.vars a.words.items a.firsts.items a.starts.items c.args.clause (rw (← c.self.view_is) at c.requires) in
    let i = (clause-inside a.vars a.words.items a.firsts.items a.starts.items c.args.clause c.self.invariant o).1 in
    rw c.deref-2.ensures.value (omega (arith, i))

pub lit_at-requires-2-clause-number : goal.lit_at-requires-2-clause-number
lit_at-requires-2-clause-number c =
    let a = c.self.inside in
    let o = known-start a.vars a.words.items a.firsts.items a.starts.items c.args.clause (rw (← c.self.view_is) at c.requires) in
    rw c.deref-2.ensures.value (c.self.invariant.clauses c.args.clause o).other

pub returns-clause-one : goal.returns-clause-one
returns-clause-one c =
    let a = c.self.inside in
    let o = known-start a.vars a.words.items a.firsts.items a.starts.items c.args.clause (rw (← c.self.view_is) at c.requires) in
    let is : c.lit_at.result ≡ record { 0 = get_or a.words.items c.args.clause 0 } = rw c.deref.ensures.value at c.lit_at.ensures in
    rw (← c.self.view_is) (is ∙ sym (ap (λ (k : WatchedClause). k.one) (clause_at-is a.vars a.words.items a.firsts.items a.starts.items c.args.clause o)))

pub returns-clause-other : goal.returns-clause-other
returns-clause-other c =
    let a = c.self.inside in
    let o = known-start a.vars a.words.items a.firsts.items a.starts.items c.args.clause (rw (← c.self.view_is) at c.requires) in
    let is : c.lit_at-2.result ≡ record { 0 = get_or a.words.items (c.args.clause + 2) 0 } = rw c.deref-2.ensures.value at c.lit_at-2.ensures in
    rw (← c.self.view_is) (is ∙ sym (ap (λ (k : WatchedClause). k.other) (clause_at-is a.vars a.words.items a.firsts.items a.starts.items c.args.clause o)))

pub returns-clause-in_range : goal.returns-clause-in_range
returns-clause-in_range c ne =
    let a = c.self.inside in
    let o = known-start a.vars a.words.items a.firsts.items a.starts.items c.args.clause (rw (← c.self.view_is) at c.requires) in
    let one : c.lit_at.result ≡ record { 0 = get_or a.words.items c.args.clause 0 } = rw c.deref.ensures.value at c.lit_at.ensures in
    let other : c.lit_at-2.result ≡ record { 0 = get_or a.words.items (c.args.clause + 2) 0 } = rw c.deref-2.ensures.value at c.lit_at-2.ensures in
    let k = c.self.invariant.clauses c.args.clause o in
    let P : Lit → Type 0 = λ l. IsTrue (is_below a.vars l) in
    let both = watches-in_range a.vars a.words.items c.args.clause k (λ q. ne (one ∙ (q ∙ sym other))) in
    rw (← c.self.view_is) (subst P (sym one) both.0, subst P (sym other) both.1)
