use Rattle.std.proofs.Common.{◌≡◌, ◌+◌, length, map}
use Rattle.merge_text.proofs.counting.count_bodies.Given as goal
use Rattle.opened_merge_laws.specs.Told.{items_in}

-- the bodies so far, and those that are left
abbrev pub invariant-media : goal.invariant-media
invariant-media l = l.n + items_in (map (λ m. m.sheet) l.rest) ≡ items_in (map (λ m. m.sheet) l.media)

abbrev pub decreases-media : goal.decreases-media
decreases-media l = length l.rest
