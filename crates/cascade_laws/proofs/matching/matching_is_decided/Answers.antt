use Rattle.cascade_laws.proofs.MatchingWords.{matches-words, words-match}
use Rattle.cascade_laws.proofs.matching.matching_is_decided.Goals as goal

pub returns : goal.returns
returns c = λ doc target selector. (matches-words doc target selector, words-match doc target selector)
