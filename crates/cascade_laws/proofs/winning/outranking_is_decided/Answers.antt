use Rattle.cascade_laws.proofs.CascadeWords.{outranks-words, words-outranks}
use Rattle.cascade_laws.proofs.winning.outranking_is_decided.Goals as goal

pub returns : goal.returns
returns c = λ e f. (outranks-words e f, words-outranks e f)
