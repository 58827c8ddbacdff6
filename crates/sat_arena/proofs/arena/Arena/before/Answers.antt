use Rattle.std.proofs.Common.{ℕ, List, sym, subst, ◌∙◌, arith}
use Rattle.std.proofs.lemmas.List.{get_or_default}
use Rattle.sat_arena.specs.Arena.{IsBehind}
use Rattle.sat_arena.specs.Words.{list_from}
use Rattle.sat_arena.proofs.ReadLemmas.{below-number, list-at}
use Rattle.sat_arena.proofs.WalkLemmas.{Walks, walks}
use Rattle.sat_arena.proofs.arena.Arena.before.Goals as goal

pub predecessor-requires : goal.predecessor-requires
predecessor-requires c =
    let a = c.self.inside in
    let below = below-number a.vars c.args.lit (rw (← c.self.view_is) at c.requires.lit) in
    let first = c.index.ensures ∙ get_or_default a.firsts.items c.args.lit.0 c.index.result.now 0 (omega (arith, below, c.self.invariant.heads)) in
    let w = walks a.vars a.words.items a.firsts.items a.starts.items c.args.lit c.args.clause c.self.invariant below (rw (← c.self.view_is) at c.requires.known) (rw (← c.self.view_is) at c.requires.watches) in
    let P : ℕ → Type 0 = λ x. Walks c.args.lit.0 c.args.clause a.words.items x in
    let Q : List ℕ → Type 0 = λ ws. Walks c.args.lit.0 c.args.clause ws c.index.result.now in
    subst Q (sym c.deref.ensures.value) (subst P (sym first) w)

pub returns : goal.returns
returns c =
    let a = c.self.inside in
    let below = below-number a.vars c.args.lit (rw (← c.self.view_is) at c.requires.lit) in
    let n = c.self.invariant.heads in
    let first = c.index.ensures ∙ get_or_default a.firsts.items c.args.lit.0 c.index.result.now 0 (omega (arith, below, n)) in
    let P : ℕ → Type 0 = λ x. IsBehind (list_from a.words.items c.args.lit.0 x) c.predecessor.result c.args.clause in
    let Q : List ℕ → Type 0 = λ ws. IsBehind (list_from ws c.args.lit.0 c.index.result.now) c.predecessor.result c.args.clause in
    let R : List ℕ → Type 0 = λ zs. IsBehind zs c.predecessor.result c.args.clause in
    rw (← c.self.view_is) (subst R (sym (list-at a.vars a.words.items a.firsts.items a.starts.items c.args.lit.0 (omega (arith, below, n)))) (subst P first (subst Q c.deref.ensures.value c.predecessor.ensures)))
