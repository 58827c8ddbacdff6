use Rattle.std.proofs.Common.{List, ap, arith, length, subst, suc, sym, ℕ, ◌++◌, ◌∙◌, ◌≡◌}
use Rattle.std.specs.List.{AllByRecursion}
use Rattle.formula_laws.specs.Asked.{compound_rests, run_rests}
use Rattle.formula_laws.specs.Path.{each_below}
use Rattle.hint_clauses.proofs.Briefly.{run_short}
use Rattle.hint_clauses.proofs.asked.run_rests.Goals as goal
use Rattle.remainders.specs.Sizes.{IsShort}
use Rattle.remainders.specs.declared.remainder.Remainder.{Remainder}
use Rattle.sibling_clauses.proofs.ForCallers.{each_more}

pub loop-q-preserved : goal.loop-q-preserved
loop-q-preserved c =
    c.in_ok-push_compound_rests.ensures
    ∙ ap (λ (rs : List Remainder). rs ++ compound_rests c.args.count c.args.links.now c.args.chain.now c.args.p c.loop-q.q) c.loop-q.invariant
    ∙ sym (each_more c.loop-q.q (compound_rests c.args.count c.args.links.now c.args.chain.now c.args.p))

pub returns : goal.returns
returns c =
    let end : c.loop-q.q ≡ suc (length c.args.links.now) = omega arith in
    let made : c.loop-q.rests.items ≡ run_rests c.args.count c.args.links.now c.args.chain.now c.args.p = c.loop-q.invariant ∙ ap (λ (n : ℕ). each_below n (compound_rests c.args.count c.args.links.now c.args.chain.now c.args.p)) end in
    record {
      value = made;
      short = subst (AllByRecursion IsShort) (sym made) (run_short c.args.count c.args.links.now c.args.chain.now c.args.p c.requires.tests);
    }
