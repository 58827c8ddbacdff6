use Rattle.std.proofs.Common.{◌≡◌, ◌+◌, ◌++◌, Some, length}
use Rattle.doc_text.specs.DocText.{ended, line_texts}
use Rattle.doc_text.proofs.print.push_lines.Given as goal

abbrev pub invariant-lines : goal.invariant-lines
invariant-lines l =
    (l.out.items ++ ended (line_texts (Some l.marked) l.k l.rest) ≡ l.initial.out.items ++ ended (line_texts (Some l.marked) 0 l.lines)) × (l.k + length l.rest ≡ length l.lines)

abbrev pub decreases-lines : goal.decreases-lines
decreases-lines l = length l.rest
