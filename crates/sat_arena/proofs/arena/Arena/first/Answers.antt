use Rattle.std.proofs.Common.{cond, eqb, Some, None, ap, ◌∙◌, arith}
use Rattle.std.proofs.lemmas.List.{get_or_default}
use Rattle.sat_arena.proofs.ReadLemmas.{below-number, first-is}
use Rattle.sat_arena.proofs.arena.Arena.first.Goals as goal

pub returns : goal.returns
returns c =
    let a = c.self.inside in
    let below = below-number a.vars c.args.lit (rw (← c.self.view_is) at c.requires) in
    let word = c.index.ensures ∙ get_or_default a.firsts.items c.args.lit.0 c.index.result.now 0 (omega (arith, below, c.self.invariant.heads)) in
    rw (← c.self.view_is) (c.linked_index.ensures ∙ (ap (λ x. cond (eqb x 0) None (Some x)) word ∙ first-is a.vars a.words.items a.firsts.items a.starts.items c.args.lit.0 c.self.invariant below))
