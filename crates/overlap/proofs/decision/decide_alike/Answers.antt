use Rattle.std.proofs.Common.{◌≡◌, ℕ, ◌<◌, Err, ap, subst, sym, ◌∙◌}
use Rattle.css_model.specs.Sheets.Limits.{max_stepped}
use Rattle.overlap.specs.Answers.{IsAlikeAnswer, is_refuted, pair_stepped, too_many_stepped}
use Rattle.overlap.specs.declared.answer.Answer.{Answer}
use Rattle.overlap.specs.declared.answer.Answer.TheVariants.{Outside}
use Rattle.overlap.proofs.Deciding.{many_stepped}
use Rattle.overlap.proofs.Limits.{few_stepped, pair_range}
use Rattle.overlap.proofs.decision.decide_alike.Goals as goal

pub new-requires-clause-in_range : goal.new-requires-clause-in_range
new-requires-clause-in_range c =
    pair_range c.args.x.now c.args.y.now (c.profile_keeps_the_limits.ensures c.args.x.now c.requires.first) (c.profile_keeps_the_limits.ensures c.args.y.now c.requires.second)

pub new-requires-clause-left_few : goal.new-requires-clause-left_few
new-requires-clause-left_few c = few_stepped c.args.x.now (c.profile_keeps_the_limits.ensures c.args.x.now c.requires.first)

pub new-requires-clause-right_few : goal.new-requires-clause-right_few
new-requires-clause-right_few c = few_stepped c.args.y.now (c.profile_keeps_the_limits.ensures c.args.y.now c.requires.second)

pub returns-in-Err-NthParts-clause-answer : goal.returns-in-Err-NthParts-clause-answer
returns-in-Err-NthParts-clause-answer c =
    let is : (c.in-Err-NthParts.count ≡ pair_stepped c.args.x.now c.args.y.now) × (max_stepped < c.in-Err-NthParts.count) = (c.in-Err-NthParts.ensures.parts c.in-Err-NthParts.count).0 (ap Err c.in-Err-NthParts.field-0-is) in
    subst (λ (a : Answer). IsAlikeAnswer c.args.x.now c.args.y.now c.args.budget a) (sym (c.too_many.ensures ∙ ap (λ (n : ℕ). Outside too_many_stepped n) c.in-Err-NthParts.count-is))
    (many_stepped c.args.x.now c.args.y.now c.args.budget c.in-Err-NthParts.count is.0 is.1)

pub returns-in-Err-NthParts-clause-log : goal.returns-in-Err-NthParts-clause-log
returns-in-Err-NthParts-clause-log c = λ yes. ap (λ (a : Answer). is_refuted c.args.x.now c.args.y.now a) c.too_many.ensures
