use Rattle.std.proofs.Common.{◌≡◌, ◌++◌, length}
use Rattle.inspect_laws.specs.Entries.{by_declaration}
use Rattle.inspect_text.proofs.gathering.push_decl.Given as goal

-- what was put, and what is left to put
abbrev pub invariant-matching : goal.invariant-matching
invariant-matching l = l.found.items ++ by_declaration l.layer l.item l.rest (l.number, l.d) ≡ l.fn.found.items ++ by_declaration l.layer l.item l.fn.matching (l.number, l.d)

abbrev pub decreases-matching : goal.decreases-matching
decreases-matching l = length l.rest
