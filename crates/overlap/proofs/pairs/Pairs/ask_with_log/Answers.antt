use Rattle.std.proofs.Common.{rules, ◌≡◌, ℕ, refl, sym, subst}
use Rattle.overlap.specs.Answers.{IsLogOf, IsTrueAnswer}
use Rattle.overlap.proofs.TrueLists.{held_with_log}
use Rattle.overlap.proofs.pairs.Pairs.ask_with_log.Goals as goal

pub remember-requires-clause-true_answer : goal.remember-requires-clause-true_answer
remember-requires-clause-true_answer c =
    let b : c.args.self.now.budget ≡ c.self.inside.budget = search rules in
    subst (λ (budget : ℕ). IsTrueAnswer c.args.x.now c.args.y.now budget c.in_ok-answer.field-0.answer) (sym b) c.in_ok-answer.ensures.answer

pub returns-clause-held : goal.returns-clause-held
returns-clause-held c =
    let b : c.args.self.now.budget ≡ c.self.inside.budget = search rules in
    held_with_log c.args.self.now c.remember.new.self c.args.x.now c.args.y.now c.in_ok-answer.field-0.answer c.in_ok-answer.field-0.log c.in_ok-remember.ensures.ok
    (subst (λ (budget : ℕ). IsLogOf c.args.x.now c.args.y.now budget c.in_ok-answer.field-0.answer c.in_ok-answer.field-0.log) (sym b) (c.in_ok-answer.ensures.log refl))
