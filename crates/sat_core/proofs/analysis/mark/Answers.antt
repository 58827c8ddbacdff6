use Rattle.std.proofs.Common.{◌≡◌, true, length, set, get_or, sym, ap, ◌∙◌, false, arith}
use Rattle.std.proofs.lemmas.Bool.{ltb-true}
use Rattle.std.proofs.lemmas.List.{length-set}
use Rattle.std.proofs.lemmas.Option.{slice_get_within, get_or_from_slice_get}
use Rattle.cnf.specs.declared.lit.Lit.{Lit}
use Rattle.cnf.specs.Lits.{variable}
use Rattle.sat_arena.specs.Arena.{clause_at}
use Rattle.sat_trail.proofs.ForCallers.{length-le_vars}
use Rattle.sat_core.proofs.MarkLemmas.{marks-more, marked_at-le}
use Rattle.sat_core.proofs.analysis.mark.Goals as goal

pub overflow_add-count : goal.overflow_add-count
overflow_add-count c =
    let t = c.requires.trail in
    let few = length-le_vars c.args.trail.now.vars c.args.trail.now.entries t.in_range t.distinct in
    let bound = marked_at-le c.mark_one-count.new.seen.items c.args.level c.args.trail.now.entries in
    omega (arith, c.mark_one-count.ensures.count, c.loop-k.invariant.count, t.small)

pub loop-k-preserved : goal.loop-k-preserved
loop-k-preserved c =
    let clause = (clause_at c.args.arena.now c.args.number).lits in
    let none : Lit = record { 0 = 0 } in
    let x = get_or clause c.loop-k.k none in
    let is_x : x ≡ c.literal.result = get_or_from_slice_get clause c.loop-k.k c.literal.result none c.literal.ensures.literal in
    let within = slice_get_within clause c.loop-k.k c.literal.result c.literal.ensures.literal in
    let now = c.loop-k.seen.items in
    let m = c.mark_one-count.ensures.marks in
    let e : variable x ≡ c.variable.result = ap variable is_x ∙ sym c.variable.ensures in
    record {
      size = ap length m ∙ (length-set now c.variable.result true ∙ c.loop-k.invariant.size);
      marks =
          λ v.
          ap (λ s. get_or s v false) m
          ∙ (ap (λ i. get_or (set now i true) v false) (sym e)
          ∙ marks-more c.args.seen.now.items now clause c.loop-k.k none v within (c.loop-k.invariant.marks v) (let b = ltb-true _ c.args.arena.now.vars c.literal.ensures.in_range in omega (arith, c.loop-k.invariant.size, c.requires.vars, ap variable is_x)));
      count = omega (arith, c.mark_one-count.ensures.count, c.loop-k.invariant.count);
    }
