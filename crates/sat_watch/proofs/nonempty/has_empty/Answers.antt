use Rattle.std.proofs.Common.{◌≡◌, true, false, eqb, IsTrue, List, [], ◌∷◌, length, take, refl, sym, subst, ◌∙◌, arith, add-one}
use Rattle.std.specs.List.{list_all}
use Rattle.std.proofs.lemmas.Bool.{and_from, eqb-true, eqb-false, false≢true, false_from_ne_true}
use Rattle.cnf.specs.declared.lit.Lit.{Lit}
use Rattle.cnf.proofs.ForCallers.{list_all-get, list_all-append-from}
use Rattle.sat_watch.specs.Nonempty.{is_nonempty}
use Rattle.sat_watch.proofs.StepLemmas.{take-at}
use Rattle.sat_watch.proofs.nonempty.has_empty.Goals as goal

empty-test : (c : List Lit) → eqb (length c) 0 ≡ true → is_nonempty c ≡ false
empty-test [] e = refl
empty-test (x ∷ xs) e = let n = eqb-true (length (x ∷ xs)) 0 e in absurd (omega arith)

full-test : (c : List Lit) → eqb (length c) 0 ≡ false → IsTrue (is_nonempty c)
full-test [] e = absurd (eqb-false 0 0 e refl)
full-test (x ∷ xs) e = refl

pub returns-then-is_empty : goal.returns-then-is_empty
returns-then-is_empty c =
    let empty = empty-test c.clause.result.now (sym c.is_empty.ensures ∙ c.if-is_empty.true) in
    let no : list_all is_nonempty c.args.f.now.clauses ≡ false = false_from_ne_true _ (λ h. false≢true (sym empty ∙ list_all-get is_nonempty c.args.f.now.clauses c.loop-k.k c.clause.result.now h c.clause.ensures.clause)) in
    (λ _. no, λ _. refl)

pub loop-k-preserved : goal.loop-k-preserved
loop-k-preserved c =
    let full = full-test c.clause.result.now (sym c.is_empty.ensures ∙ c.if-is_empty.false) in
    let P : List (List Lit) → Type 0 = λ f. IsTrue (list_all is_nonempty f) in
    rw add-one (subst P (sym (take-at c.args.f.now.clauses c.loop-k.k c.clause.result.now c.clause.ensures.clause)) (list_all-append-from is_nonempty (take c.loop-k.k c.args.f.now.clauses) (c.clause.result.now ∷ []) c.loop-k.invariant (and_from _ true full refl)))
