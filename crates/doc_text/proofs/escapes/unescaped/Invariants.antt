use Rattle.std.proofs.Common.{◌≡◌, ◌++◌, length}
use Rattle.doc_text.specs.Elements.{unescaped}
use Rattle.doc_text.proofs.escapes.unescaped.Given as goal

abbrev pub invariant-loop-rest : goal.invariant-loop-rest
invariant-loop-rest l = l.out.items ++ unescaped l.rest ≡ unescaped l.bytes

abbrev pub decreases-loop-rest : goal.decreases-loop-rest
decreases-loop-rest l = length l.rest
