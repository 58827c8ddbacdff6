use Rattle.std.proofs.Common.{inl, inr}
use Rattle.std.proofs.lemmas.Result.{IfOk-weaker}
use Rattle.indexed_sheet.proofs.facts.learn_of_step.Goals as goal
use Rattle.indexed_sheet.specs.Facts.{AreLearnt}

pub returns-in_default : goal.returns-in_default
returns-in_default c = IfOk-weaker c.learn_made.result (λ new. AreLearnt c.args.facts.items new.items c.args.from c.args.made) _ (λ new learnt. inl learnt) c.learn_made.ensures
