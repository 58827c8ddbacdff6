use Rattle.std.proofs.Common.{◌≡◌, length}
use Rattle.media_groups.specs.Opened as spec
use Rattle.media_groups.proofs.blocks.body_end.Given as goal

abbrev pub invariant-lexemes : goal.invariant-lexemes
invariant-lexemes l = spec.body_end l.end l.rest ≡ spec.body_end l.at l.inside

abbrev pub decreases-lexemes : goal.decreases-lexemes
decreases-lexemes l = length l.rest
