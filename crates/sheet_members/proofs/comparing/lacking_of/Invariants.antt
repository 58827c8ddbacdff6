use Rattle.std.proofs.Common.{◌≡◌, ◌++◌, length, not}
use Rattle.std.specs.List.{filter}
use Rattle.sheet_members.specs.Compared.{has_member}
use Rattle.sheet_members.proofs.comparing.lacking_of.Given as goal

abbrev pub invariant-members : goal.invariant-members
invariant-members l = l.lacking.items ++ filter (λ m. not (has_member l.others m.label)) l.rest ≡ filter (λ m. not (has_member l.others m.label)) l.fn.members

abbrev pub decreases-members : goal.decreases-members
decreases-members l = length l.rest
