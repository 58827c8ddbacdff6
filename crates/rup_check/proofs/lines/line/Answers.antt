use Rattle.std.proofs.Common.{◌++◌, ◌∷◌, [], true, List, IsTrue, codes, refl, sym, ap, subst, ◌∙◌, append_assoc}
use Rattle.std.proofs.lemmas.Bool.{and_from}
use Rattle.cnf.specs.declared.lit.Lit.{Lit}
use Rattle.cnf.specs.Lits.{is_below, are_below}
use Rattle.cnf.proofs.ForCallers.{list_all-append-from}
use Rattle.rup_check.specs.Fronts.{lits_text}
use Rattle.rup_check.proofs.FrontLemmas.{left-next, left-none, line-lits, lits-push}
use Rattle.rup_check.proofs.lines.line.Goals as goal

pub returns-in-Some : goal.returns-in-Some
returns-in-Some c =
    let i = c.literals.invariant in
    let ls = c.literals.lits.items in
    let next = c.in-Some.next.now in
    (i.in_range, i.parts ∙ (ap (λ r. lits_text ls ++ r) c.in-Some.ensures ∙ (sym (append_assoc (lits_text ls) (codes "0\n") next) ∙ ap (λ xs. xs ++ next) (sym (line-lits ls)))))

pub returns-in-None : goal.returns-in-None
returns-in-None c clause more b e = left-none c.args.vars c.literals.rest.now more c.in-None.ensures c.in_default.ensures (c.literals.invariant.whole clause more b e)

pub literals-preserved : goal.literals-preserved
literals-preserved c =
    let i = c.literals.invariant in
    let ls = c.literals.lits.items in
    let l = c.in-Some-literal.lit in
    let next = c.in-Some-literal.next.now in
    let s = c.in-Some-literal.ensures in
    let p = c.in_ok-push-in-Some-literal.ensures.items in
    let P : List Lit → Type 0 = λ xs. IsTrue (are_below c.args.vars xs) in
    record {
      in_range = subst P (sym p) (list_all-append-from (is_below c.args.vars) ls (l ∷ []) i.in_range (and_from _ true s.0 refl));
      parts = i.parts ∙ (ap (λ r. lits_text ls ++ r) s.1 ∙ (lits-push ls l next ∙ ap (λ xs. lits_text xs ++ next) (sym p)));
      whole = λ clause more b e. left-next c.args.vars c.literals.rest.now next more l c.requires s.0 s.1 c.in_default.ensures (i.whole clause more b e);
    }
