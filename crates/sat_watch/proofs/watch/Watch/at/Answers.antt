use Rattle.std.proofs.Common.{◌≡◌, IsTrue, false, sym, ap, subst, ◌∙◌}
use Rattle.cnf.specs.declared.lit.Lit.{Lit}
use Rattle.cnf.specs.Lits.{negation, is_among}
use Rattle.cnf.proofs.ForCallers.{negation-twice}
use Rattle.sat_trail.specs.Trail.{lits}
use Rattle.sat_arena.specs.Arena.{clause_at}
use Rattle.sat_watch.specs.Soundness.{is_false}
use Rattle.sat_watch.specs.Watch.{IsUnit, partner, AreFalseBut}
use Rattle.sat_watch.proofs.PartnerLemmas.{partner-then, partner-else, shows-unit}
use Rattle.sat_watch.proofs.watch.Watch.at.Goals as goal
use Rattle.sat_watch.proofs.watch.Watch.at.Goals.{then-one-lit, else-one-lit}

pub returns-then-is_false-clause-shows : goal.returns-then-is_false-clause-shows
returns-then-is_false-clause-shows c =
    let k = clause_at c.args.arena.now c.args.clause in
    let trail = lits c.args.trail.now.entries in
    let is : c.if-one-lit.partner ≡ partner k c.args.lit = elim c.if-one-lit.branch [
      | then-one-lit w ↦ partner-then k c.args.lit c.watches.result.0 c.watches.result.1 c.if-one-lit.partner c.watches.ensures.one c.watches.ensures.other w.if-one-lit.true w.partner-is
      | else-one-lit w ↦ partner-else k c.args.lit c.watches.result.0 c.watches.result.1 c.if-one-lit.partner c.watches.ensures.one c.watches.ensures.other w.if-one-lit.false w.partner-is
    ] in
    let P : Lit → Type 0 = λ x. IsTrue (is_among trail x) in
    subst P (ap negation c.negation.ensures.value ∙ (negation-twice c.if-one-lit.partner ∙ is)) (sym c.is_false.ensures ∙ c.if-is_false.true)

pub returns-else-is_false-2-clause-shows : goal.returns-else-is_false-2-clause-shows
returns-else-is_false-2-clause-shows c =
    let k = clause_at c.args.arena.now c.args.clause in
    let trail = lits c.args.trail.now.entries in
    let is : c.if-one-lit.partner ≡ partner k c.args.lit = elim c.if-one-lit.branch [
      | then-one-lit w ↦ partner-then k c.args.lit c.watches.result.0 c.watches.result.1 c.if-one-lit.partner c.watches.ensures.one c.watches.ensures.other w.if-one-lit.true w.partner-is
      | else-one-lit w ↦ partner-else k c.args.lit c.watches.result.0 c.watches.result.1 c.if-one-lit.partner c.watches.ensures.one c.watches.ensures.other w.if-one-lit.false w.partner-is
    ] in
    let A : Lit → Type 0 = λ x. AreFalseBut k.lits trail x c.watches.result.1 in
    let B : Lit → Type 0 = λ x. AreFalseBut k.lits trail k.one x in
    let but = subst B c.watches.ensures.other (subst A c.watches.ensures.one c.in-None.ensures.found) in
    let two = (c.requires.arena.watched c.args.clause c.requires.known).two c.requires.watching.0 in
    let F : Lit → Type 0 = λ x. is_false trail x ≡ false in
    let p = subst F is (sym c.is_false-in-None.ensures ∙ c.if-is_false-2.false) in
    let n = subst F (c.negation.ensures.value ∙ ap negation is) (sym c.is_false.ensures ∙ c.if-is_false.false) in
    (is, subst (IsUnit k.lits trail) (sym is) (shows-unit k trail c.args.lit c.requires.watching two c.requires.is_false but p n))
