use Rattle.std.proofs.Common.{Bool, IsTrue, List, [], ◌∷◌, refl, sym, ◌∙◌}
use Rattle.std.proofs.lemmas.Bool.{false≢true}
use Rattle.cnf.specs.declared.lit.Lit.{Lit}
use Rattle.cnf.specs.Values.{holds, all_hold}
use Rattle.std.proofs.lemmas.Bool.{and_parts, and_from}
use Rattle.sat_watch.specs.Nonempty.{is_nonempty, are_nonempty}
use Rattle.sat_core.proofs.solver.solve.Goals as goal

-- no values satisfy an empty clause
nonempty-from_holds : (vs : List Bool) (cs : List (List Lit)) → IsTrue (all_hold vs cs) → IsTrue (are_nonempty cs)
nonempty-from_holds vs [] h = refl
nonempty-from_holds vs (c ∷ cs) h =
    let parts = and_parts (holds vs c) (all_hold vs cs) h in
    and_from _ _ (one c parts.0) (nonempty-from_holds vs cs parts.1)
  where
    one : (c : List Lit) → IsTrue (holds vs c) → IsTrue (is_nonempty c)
    one [] h = absurd (false≢true h)
    one (l ∷ ls) h = refl

pub returns-then-has_empty : goal.returns-then-has_empty
returns-then-has_empty c =
    let empty = c.has_empty.ensures.0 c.if-has_empty.true in
    record {
      none = λ vs s. false≢true (sym empty ∙ nonempty-from_holds vs c.args.f.now.clauses s.each_holds);
      by_empty = λ _. c.new.ensures.items;
      by_ledger = λ full. absurd (false≢true (sym empty ∙ full));
    }
