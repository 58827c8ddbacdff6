use Rattle.std.proofs.Common.{◌≡◌, ◌++◌, length}
use Rattle.css_tokens.specs.Left.{left}
use Rattle.normal_text.specs.Ahead.{front}
use Rattle.normal_text.specs.Words.{words_in, words_of}
use Rattle.normal_text.proofs.words.words_of.Given as goal

-- the words so far, and those to come
abbrev pub invariant-tokens : goal.invariant-tokens
invariant-tokens l = l.words.items ++ words_in l.fn.text (front l.ahead (left l.tokens).tokens) ≡ words_of l.fn.text

abbrev pub decreases-tokens : goal.decreases-tokens
decreases-tokens l = length (front l.ahead (left l.tokens).tokens)
