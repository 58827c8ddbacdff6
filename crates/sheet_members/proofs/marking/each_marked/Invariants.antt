use Rattle.std.proofs.Common.{◌≡◌, ◌++◌, length, map}
use Rattle.sheet_members.specs.Compared.{marked}
use Rattle.sheet_members.proofs.marking.each_marked.Given as goal

abbrev pub invariant-members : goal.invariant-members
invariant-members l = l.found.items ++ map (marked l.places) l.rest ≡ map (marked l.places) l.fn.members

abbrev pub decreases-members : goal.decreases-members
decreases-members l = length l.rest
