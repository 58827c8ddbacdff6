use Rattle.std.proofs.Common.{true, IsTrue, List, [], ◌∷◌, take, get_or, refl, sym, subst, arith}
use Rattle.std.proofs.lemmas.Bool.{and_from, lt-ltb}
use Rattle.std.proofs.lemmas.List.{take_more}
use Rattle.cnf.specs.declared.lit.Lit.{Lit}
use Rattle.cnf.specs.Lits.{variable, is_below, are_below}
use Rattle.cnf.proofs.ForCallers.{list_all-append-from}
use Rattle.bench_counts.proofs.numbers.is_in_range.Goals as goal

pub loop-lit-preserved : goal.loop-lit-preserved
loop-lit-preserved c =
    let none : Lit = record { 0 = 0 } in
    let x = get_or c.args.clause.now c.loop-lit.lit-index none in
    let e = c.variable.ensures in
    let below = lt-ltb (variable x) c.args.vars (omega arith) in
    let P : List Lit → Type 0 = λ ls. IsTrue (are_below c.args.vars ls) in
    subst P (sym (take_more c.args.clause.now c.loop-lit.lit-index none c.loop-lit-test.true)) (list_all-append-from (is_below c.args.vars) (take c.loop-lit.lit-index c.args.clause.now) (x ∷ []) c.loop-lit.invariant (and_from _ true below refl))
