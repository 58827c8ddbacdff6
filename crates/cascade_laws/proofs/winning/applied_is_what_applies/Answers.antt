use Rattle.cascade_laws.proofs.Applying.{applied-words, words-applied}
use Rattle.cascade_laws.proofs.winning.applied_is_what_applies.Goals as goal

pub returns : goal.returns
returns c = λ doc target meanings items e. (applied-words doc target meanings items e, words-applied doc target meanings items e)
