use Rattle.std.proofs.Common.{◌≡◌, length}
use Rattle.css_tokens.specs.Left.{left}
use Rattle.sheet_read.proofs.lexing.fault_behind.Given as goal

-- what is left ends as the whole does
abbrev pub invariant-tokens : goal.invariant-tokens
invariant-tokens l = (left l.reader).fault ≡ (left l.fn.reader).fault

abbrev pub decreases-tokens : goal.decreases-tokens
decreases-tokens l = length (left l.reader).tokens
