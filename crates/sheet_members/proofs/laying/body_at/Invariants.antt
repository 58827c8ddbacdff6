use Rattle.std.proofs.Common.{◌≡◌, length}
use Rattle.sheet_members.specs.Layers.{body_at}
use Rattle.sheet_members.proofs.laying.body_at.Given as goal

-- it is none of those before
abbrev pub invariant-bodies : goal.invariant-bodies
invariant-bodies l = body_at l.rest l.number ≡ body_at l.fn.bodies l.number

abbrev pub decreases-bodies : goal.decreases-bodies
decreases-bodies l = length l.rest
