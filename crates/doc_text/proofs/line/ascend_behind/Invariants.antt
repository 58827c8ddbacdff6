use Rattle.std.proofs.Common.{◌≡◌, length}
use Rattle.doc_text.specs.Elements.{ascend_behind}
use Rattle.doc_text.proofs.line.ascend_behind.Given as goal

abbrev pub invariant-loop-rest : goal.invariant-loop-rest
invariant-loop-rest l = ascend_behind l.last l.rest ≡ ascend_behind l.first l.attributes

abbrev pub decreases-loop-rest : goal.decreases-loop-rest
decreases-loop-rest l = length l.rest
