use Rattle.std.proofs.Common.{◌≡◌, ◌++◌, ◌∷◌, [], true, List, IsTrue, length, refl, sym, ap, subst, ◌∙◌, arith}
use Rattle.std.proofs.lemmas.Bool.{and_parts, and_from, eqb-false, false≢true}
use Rattle.cnf.specs.declared.lit.Lit.{Lit}
use Rattle.cnf.specs.Lits.{are_below}
use Rattle.cnf.specs.Propagation.{is_consistent, is_distinct}
use Rattle.cnf.proofs.ForCallers.{list_all-append-from}
use Rattle.rup_check.specs.Checks.{is_step}
use Rattle.rup_check.specs.Reading.{is_plain, are_plain}
use Rattle.rup_check.specs.Text.{lines_text}
use Rattle.rup_check.proofs.FrontLemmas.{line-shorter, line-unique, lines-push}
use Rattle.rup_check.proofs.read.read_steps.Goals as goal

pub returns-then-not-is_plain-clause-err : goal.returns-then-not-is_plain-clause-err
returns-then-not-is_plain-clause-err c =
    let i = c.steps.invariant in
    let vars = c.args.vars in
    let lits = c.in-Some.found.0.items in
    let w = rw c.in-Some.is at c.in_ok-line.ensures in
    let P : List Lit → Type 0 = λ ls. IsTrue (is_plain vars ls) in
    record {
      steps = c.steps.steps.items;
      rest = c.steps.rest.now;
      plain = i.plain;
      parts = i.parts;
      some = λ z. eqb-false (length c.steps.rest.now) 0 (sym c.is_empty.ensures ∙ c.steps-test.true) (ap length z);
      none = λ clause more b e.
          let step = (and_parts (is_step vars clause) (is_distinct clause) b).0 in
          let below = (and_parts (are_below vars clause) (is_consistent clause) step).0 in
          let same = line-unique vars clause lits more c.in-Some.found.1.now c.requires.vars below w.0 (sym e ∙ w.1) in
          false≢true (sym c.if-not-is_plain.true ∙ (c.is_plain.ensures ∙ (ap (is_plain vars) c.deref.ensures.value ∙ subst P same b)));
      counted = omega (arith, c.len-then-not-is_plain.ensures, c.steps.steps.ok);
    }

pub steps-smaller : goal.steps-smaller
steps-smaller c =
    let w = rw c.in-Some.is at c.in_ok-line.ensures in
    line-shorter c.in-Some.found.0.items c.steps.rest.now c.in-Some.found.1.now w.1

pub steps-preserved : goal.steps-preserved
steps-preserved c =
    let i = c.steps.invariant in
    let vars = c.args.vars in
    let lits = c.in-Some.found.0.items in
    let next = c.in-Some.found.1.now in
    let w = rw c.in-Some.is at c.in_ok-line.ensures in
    let plain : IsTrue (is_plain vars lits) = sym (c.is_plain.ensures ∙ ap (is_plain vars) c.deref.ensures.value) ∙ c.if-not-is_plain.false in
    let p : c.push.new.self.items ≡ c.steps.steps.items ++ lits ∷ [] = c.in_ok-push.ensures.items in
    let P : List (List Lit) → Type 0 = λ cs. IsTrue (are_plain vars cs) in
    record {
      plain = subst P (sym p) (list_all-append-from (is_plain vars) c.steps.steps.items (lits ∷ []) i.plain (and_from _ true plain refl));
      parts = i.parts ∙ (ap (λ r. lines_text c.steps.steps.items ++ r) w.1 ∙ (lines-push c.steps.steps.items lits next ∙ ap (λ cs. lines_text cs ++ next) (sym p)));
    }
