use Rattle.std.proofs.Common.{◌≡◌, ◌++◌, length}
use Rattle.std.specs.List.{filter_map}
use Rattle.sheet_members.specs.Compared.{common_of}
use Rattle.sheet_members.proofs.comparing.commons_of.Given as goal

abbrev pub invariant-members : goal.invariant-members
invariant-members l = l.commons.items ++ filter_map (common_of l.others) l.rest ≡ filter_map (common_of l.others) l.fn.members

abbrev pub decreases-members : goal.decreases-members
decreases-members l = length l.rest
