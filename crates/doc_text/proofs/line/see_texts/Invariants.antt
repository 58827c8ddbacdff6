use Rattle.std.proofs.Common.{length}
use Rattle.doc_text.specs.Elements.{AreTexts}
use Rattle.doc_text.proofs.line.see_texts.Given as goal

-- where the rest are texts, all are
abbrev pub invariant-loop-rest : goal.invariant-loop-rest
invariant-loop-rest l = AreTexts l.rest → AreTexts l.attributes

abbrev pub decreases-loop-rest : goal.decreases-loop-rest
decreases-loop-rest l = length l.rest
