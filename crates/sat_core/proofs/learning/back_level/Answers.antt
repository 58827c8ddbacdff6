use Rattle.std.proofs.Common.{◌<◌, ℕ, Option, IfSome, length, subst}
use Rattle.sat_core.proofs.LearnedLemmas.{level-of_place, no-level}
use Rattle.sat_core.proofs.learning.back_level.Goals as goal

pub returns-in-Some-level_of : goal.returns-in-Some-level_of
returns-in-Some-level_of c = level-of_place c.args.trail.now c.args.place c.in-Some.k c.in-Some-level_of.level c.entry.result c.variable.result c.level_of.result c.requires.trail c.in-Some.is c.entry.ensures.literal c.variable.ensures c.level_of.ensures c.in-Some-level_of.is

pub returns-in-None-level_of : goal.returns-in-None-level_of
returns-in-None-level_of c =
    let P : Option ℕ → Type 0 = λ o. IfSome o (λ k. k < length c.args.trail.now.entries) in
    absurd (no-level c.args.trail.now c.in-Some.k c.entry.result c.variable.result c.level_of.result c.requires.trail (subst P c.in-Some.is c.requires.place) c.entry.ensures.literal c.variable.ensures c.level_of.ensures c.in-None-level_of.is)
