use Rattle.std.proofs.Common.{◌≡◌, ◌+◌, ◌++◌, ◌∷◌, [], true, List, IsTrue, length, refl, sym, ap, subst, ◌∙◌}
use Rattle.std.specs.List.{list_all}
use Rattle.std.proofs.lemmas.Bool.{and_from}
use Rattle.std.proofs.lemmas.List.{length_push}
use Rattle.cnf.specs.declared.lit.Lit.{Lit}
use Rattle.cnf.specs.Cnf.{Cnf}
use Rattle.cnf.specs.Gates.{with_clause}
use Rattle.cnf.specs.Lits.{are_below}
use Rattle.cnf.proofs.ForCallers.{list_all-append-from}
use Rattle.rup_check.specs.Text.{lines_text}
use Rattle.rup_check.proofs.FrontLemmas.{lines-push}
use Rattle.rup_check.proofs.read.read_formula.Goals as goal

pub loop-k-preserved : goal.loop-k-preserved
loop-k-preserved c =
    let i = c.loop-k.invariant in
    let f = c.loop-k.formula in
    let lits = c.in-Some.lits.items in
    let next = c.in-Some.next.now in
    let w = rw c.in-Some.is at c.in_ok-line.ensures in
    let e : c.add_clause.new.self ≡ with_clause f lits = c.in_ok-add_clause-in-Some.ensures.ok ∙ ap (with_clause f) c.deref.ensures.value in
    let clauses = ap (λ (x : Cnf). x.clauses) e in
    let P : List (List Lit) → Type 0 = λ cs. IsTrue (list_all (are_below c.args.vars) cs) in
    record {
      vars = ap (λ (x : Cnf). x.vars) e ∙ i.vars;
      count = ap length clauses ∙ (length_push f.clauses lits ∙ ap (λ n. n + 1) i.count);
      in_range = subst P (sym clauses) (list_all-append-from (are_below c.args.vars) f.clauses (lits ∷ []) i.in_range (and_from _ true w.0 refl));
      parts = i.parts ∙ (ap (λ r. lines_text f.clauses ++ r) w.1 ∙ (lines-push f.clauses lits next ∙ ap (λ cs. lines_text cs ++ next) (sym clauses)));
    }
