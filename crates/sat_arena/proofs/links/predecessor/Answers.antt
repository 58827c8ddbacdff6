use Rattle.std.proofs.Common.{◌≡◌, ◌<◌, ℕ, Some, length, get_or, ap, subst, sym}
use Rattle.sat_arena.specs.Links.{link}
use Rattle.sat_arena.proofs.WalkLemmas.{IsAt, from_member, at-begin, at-step, at-shorter, at-member}
use Rattle.sat_arena.proofs.links.predecessor.Goals as goal

pub walk-init : goal.walk-init
walk-init g c = at-begin (link c.args.words.now c.args.lit.0) c.args.first c.args.clause g.members c.requires.0 c.requires.1.1.1

pub slot-requires : goal.slot-requires
slot-requires g c = c.requires.1.1.0 c.walk.at (at-member (link c.args.words.now c.args.lit.0) g.members c.walk.before c.walk.at c.args.clause c.walk.invariant)

pub walk-smaller : goal.walk-smaller
walk-smaller g c =
    let e : get_or c.args.words.now c.slot.result 0 ≡ link c.args.words.now c.args.lit.0 c.walk.at = ap (λ i. get_or c.args.words.now i 0) c.slot.ensures.value in
    let P : ℕ → Type 0 = λ x. length (from_member g.members x) < length (from_member g.members c.walk.at) in
    subst P (sym e) (at-shorter (link c.args.words.now c.args.lit.0) g.members c.walk.before c.walk.at c.args.clause c.requires.1.0 c.walk.invariant c.walk-test.true)

pub walk-preserved : goal.walk-preserved
walk-preserved g c =
    let e : get_or c.args.words.now c.slot.result 0 ≡ link c.args.words.now c.args.lit.0 c.walk.at = ap (λ i. get_or c.args.words.now i 0) c.slot.ensures.value in
    let P : ℕ → Type 0 = λ x. IsAt (link c.args.words.now c.args.lit.0) g.members (Some c.walk.at) x c.args.clause in
    subst P (sym e) (at-step (link c.args.words.now c.args.lit.0) g.members c.walk.before c.walk.at c.args.clause c.walk.invariant c.walk-test.true)
