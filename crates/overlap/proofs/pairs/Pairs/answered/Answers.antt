use Rattle.std.proofs.Common.{rules, ◌≡◌, ℕ, sym, subst}
use Rattle.overlap.specs.Answers.{IsTrueAnswer}
use Rattle.overlap.proofs.TrueLists.{stands_last}
use Rattle.overlap.proofs.pairs.Pairs.answered.Goals as goal

pub remember-requires-clause-true_answer : goal.remember-requires-clause-true_answer
remember-requires-clause-true_answer c =
    let b : c.args.self.now.budget ≡ c.self.inside.budget = search rules in
    subst (λ (budget : ℕ). IsTrueAnswer c.args.x.now c.args.y.now budget c.in_ok-decision.decision.answer) (sym b) c.in_ok-decision.ensures.answer

pub returns-clause-at : goal.returns-clause-at
returns-clause-at c =
    stands_last c.remember.result c.args.self.now c.remember.new.self c.args.x.now c.args.y.now c.in_ok-decision.decision.answer c.remember.ensures.at c.remember.ensures.ok
