use Rattle.std.proofs.Common.{◌≡◌, ◌+◌, IsTrue, Some, get_or, sym, subst, ap, ◌∙◌, arith}
use Rattle.cnf.specs.declared.lit.Lit.{Lit}
use Rattle.cnf.specs.Lits.{is_below}
use Rattle.sat_arena.proofs.ReadLemmas.{reads-literal}
use Rattle.sat_arena.proofs.arena.Arena.literal.Goals as goal

pub overflow_add-clause : goal.overflow_add-clause
overflow_add-clause c =
    let a = c.self.inside in
    let r = reads-literal a.vars a.words.items a.firsts.items a.starts.items c.args.clause c.args.k c.self.invariant (rw (← c.self.view_is) at c.requires.known) (rw (← c.self.view_is) at c.requires.in_bounds) in
    omega (arith, r.inside, a.words.ok)

pub overflow_add-clause-2 : goal.overflow_add-clause-2
overflow_add-clause-2 c =
    let a = c.self.inside in
    let r = reads-literal a.vars a.words.items a.firsts.items a.starts.items c.args.clause c.args.k c.self.invariant (rw (← c.self.view_is) at c.requires.known) (rw (← c.self.view_is) at c.requires.in_bounds) in
    omega (arith, r.inside, a.words.ok)

pub lit_at-requires-clause-place : goal.lit_at-requires-clause-place
lit_at-requires-clause-place c =
    let a = c.self.inside in
    let r = reads-literal a.vars a.words.items a.firsts.items a.starts.items c.args.clause c.args.k c.self.invariant (rw (← c.self.view_is) at c.requires.known) (rw (← c.self.view_is) at c.requires.in_bounds) in
    rw c.deref.ensures.value r.inside

pub lit_at-requires-clause-number : goal.lit_at-requires-clause-number
lit_at-requires-clause-number c =
    let a = c.self.inside in
    let r = reads-literal a.vars a.words.items a.firsts.items a.starts.items c.args.clause c.args.k c.self.invariant (rw (← c.self.view_is) at c.requires.known) (rw (← c.self.view_is) at c.requires.in_bounds) in
    rw c.deref.ensures.value r.number

pub returns-clause-literal : goal.returns-clause-literal
returns-clause-literal c =
    let a = c.self.inside in
    let r = reads-literal a.vars a.words.items a.firsts.items a.starts.items c.args.clause c.args.k c.self.invariant (rw (← c.self.view_is) at c.requires.known) (rw (← c.self.view_is) at c.requires.in_bounds) in
    let is : c.lit_at.result ≡ record { 0 = get_or a.words.items (c.args.clause + 5 + c.args.k) 0 } = rw c.deref.ensures.value at c.lit_at.ensures in
    rw (← c.self.view_is) (r.literal ∙ ap Some (sym is))

pub returns-clause-in_range : goal.returns-clause-in_range
returns-clause-in_range c =
    let a = c.self.inside in
    let r = reads-literal a.vars a.words.items a.firsts.items a.starts.items c.args.clause c.args.k c.self.invariant (rw (← c.self.view_is) at c.requires.known) (rw (← c.self.view_is) at c.requires.in_bounds) in
    let is : c.lit_at.result ≡ record { 0 = get_or a.words.items (c.args.clause + 5 + c.args.k) 0 } = rw c.deref.ensures.value at c.lit_at.ensures in
    let P : Lit → Type 0 = λ l. IsTrue (is_below a.vars l) in
    rw (← c.self.view_is) (subst P (sym is) r.in_range)
