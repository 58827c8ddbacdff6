use Rattle.std.proofs.Common.{◌≡◌, length}
use Rattle.media_groups.specs.Opened as spec
use Rattle.media_groups.proofs.blocks.body_of.Given as goal

abbrev pub invariant-lexemes : goal.invariant-lexemes
invariant-lexemes l = spec.body_of l.rest ≡ spec.body_of l.item

abbrev pub decreases-lexemes : goal.decreases-lexemes
decreases-lexemes l = length l.rest
