use Rattle.command_words.proofs.Limits.{some_may_be_told}
use Rattle.command_words.proofs.laws.some_may_be_told.Goals as goal

pub returns : goal.returns
returns c = some_may_be_told
