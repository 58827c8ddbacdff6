use Rattle.std.proofs.Common.{◌≡◌, length}
use Rattle.css_model.specs.Documents.Attribute.{begins_with_word}
use Rattle.element_tests.proofs.attribute.begins_with_word.Given as goal

abbrev pub invariant-loop-word_left : goal.invariant-loop-word_left
invariant-loop-word_left l = begins_with_word l.text_left l.word_left ≡ begins_with_word l.text l.word

abbrev pub decreases-loop-word_left : goal.decreases-loop-word_left
decreases-loop-word_left l = length l.word_left
