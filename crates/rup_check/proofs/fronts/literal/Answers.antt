use Rattle.std.proofs.Common.{◌+◌, ◌++◌, codes, sym, ◌∙◌, inl, inr, arith}
use Rattle.std.specs.Prelude.{decimal}
use Rattle.std.proofs.lemmas.Bool.{ltb-true}
use Rattle.cnf.specs.Lits.{variable}
use Rattle.rup_check.proofs.FrontLemmas.{literal-parts, minus-apart, minus-tail}
use Rattle.rup_check.proofs.fronts.literal.Goals as goal

pub returns-in-None-variable : goal.returns-in-None-variable
returns-in-None-variable c l rest b e =
    let small = c.ranges.vars.fits in
    let low = ltb-true (variable l) c.args.vars b in
    elim (literal-parts l c.args.text.now rest e) [
      | inl q ↦ c.in-None-variable.ensures (variable l) rest low (minus-tail _ _ (sym c.in-Some.ensures ∙ q))
      | inr q ↦ minus-apart (variable l + 1) rest c.in-Some.digits.now (omega arith) (sym c.in-Some.ensures ∙ q)
    ]

pub returns-in-None-variable-2 : goal.returns-in-None-variable-2
returns-in-None-variable-2 c l rest b e =
    let low = ltb-true (variable l) c.args.vars b in
    elim (literal-parts l c.args.text.now rest e) [
      | inl q ↦ c.in-None.ensures (decimal (variable l + 1) ++ (codes " " ++ rest)) q
      | inr q ↦ c.in-None-variable-2.ensures (variable l) rest low q
    ]
