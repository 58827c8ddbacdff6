use Rattle.std.proofs.Common.{◌≡◌, length}
use Rattle.css_model.specs.Documents.Attribute.{has_word_later}
use Rattle.element_tests.proofs.attribute.has_word_later.Given as goal

abbrev pub invariant-loop-left : goal.invariant-loop-left
invariant-loop-left l = has_word_later l.left l.word ≡ has_word_later l.text l.word

abbrev pub decreases-loop-left : goal.decreases-loop-left
decreases-loop-left l = length l.left
