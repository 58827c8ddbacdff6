use Rattle.std.proofs.Common.{◌≡◌, length}
use Rattle.css_model.specs.Documents.Attribute.{has_word_later}
use Rattle.attr_values.proofs.passing.has_word_later.Given as goal

abbrev pub invariant-loop-rest : goal.invariant-loop-rest
invariant-loop-rest l = has_word_later l.rest l.word ≡ has_word_later l.text l.word

abbrev pub decreases-loop-rest : goal.decreases-loop-rest
decreases-loop-rest l = length l.rest
