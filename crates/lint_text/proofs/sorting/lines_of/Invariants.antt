use Rattle.std.proofs.Common.{◌≡◌, ◌++◌, length, map}
use Rattle.doc_text.specs.DocText.{ended}
use Rattle.lint_text.proofs.sorting.lines_of.Given as goal

-- what was written, and the lines that are left
abbrev pub invariant-lines : goal.invariant-lines
invariant-lines l = l.out.items ++ ended (map (λ f. f.line) l.rest) ≡ ended (map (λ f. f.line) l.fn.found)

abbrev pub decreases-lines : goal.decreases-lines
decreases-lines l = length l.rest
