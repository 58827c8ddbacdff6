use Rattle.std.proofs.Common.{◌≡◌, ◌≤◌, ◌+◌, ◌++◌, length}
use Rattle.doc_text.specs.DocText.{ended, line_texts}
use Rattle.doc_text.specs.Lines.{line_ends}
use Rattle.doc_text.specs.States.{IsStart}
use Rattle.doc_text.proofs.read.read_body.Given as goal

-- the lines that are read, and the rest
abbrev pub invariant-lines : goal.invariant-lines
invariant-lines l =
    IsStart l.state × (l.body ≡ ended (line_texts l.state.marked 0 l.state.lines) ++ l.rest) × (length l.state.lines + line_ends l.rest ≤ line_ends l.body)

abbrev pub decreases-lines : goal.decreases-lines
decreases-lines l = length l.rest
