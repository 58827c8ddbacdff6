use Rattle.std.proofs.Common.{◌≡◌, ◌%◌, ap, ◌∙◌, arith}
use Rattle.cnf.specs.Lits.{variable}
use Rattle.cnf.specs.Values.{value}
use Rattle.cnf.proofs.LitLemmas.{negation_of_even, negation_of_odd, value-negation, variable-negation}
use Rattle.cnf.proofs.lit.Lit.negation.Goals as goal

pub returns-then-self-eq0-clause-value : goal.returns-then-self-eq0-clause-value
returns-then-self-eq0-clause-value c = negation_of_even c.args.self c.if-self-eq0.true

pub returns-then-self-eq0-clause-flips : goal.returns-then-self-eq0-clause-flips
returns-then-self-eq0-clause-flips c =
    λ vs. ap (value vs) (negation_of_even c.args.self c.if-self-eq0.true) ∙ value-negation vs c.args.self

pub returns-else-self-eq0-clause-value : goal.returns-else-self-eq0-clause-value
returns-else-self-eq0-clause-value c =
    let odd : c.args.self.0 % 2 ≡ 1 = omega arith in negation_of_odd c.args.self odd

pub returns-else-self-eq0-clause-flips : goal.returns-else-self-eq0-clause-flips
returns-else-self-eq0-clause-flips c =
    let odd : c.args.self.0 % 2 ≡ 1 = omega arith in
    λ vs. ap (value vs) (negation_of_odd c.args.self odd) ∙ value-negation vs c.args.self

pub returns-then-self-eq0-clause-same_variable : goal.returns-then-self-eq0-clause-same_variable
returns-then-self-eq0-clause-same_variable c =
    ap variable (negation_of_even c.args.self c.if-self-eq0.true) ∙ variable-negation c.args.self

pub returns-else-self-eq0-clause-same_variable : goal.returns-else-self-eq0-clause-same_variable
returns-else-self-eq0-clause-same_variable c =
    let odd : c.args.self.0 % 2 ≡ 1 = omega arith in
    ap variable (negation_of_odd c.args.self odd) ∙ variable-negation c.args.self
