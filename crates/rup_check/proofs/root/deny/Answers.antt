use Rattle.std.proofs.Common.{List, Some, sym, ap, subst, ◌∙◌}
use Rattle.cnf.specs.Propagation.{IsForced}
use Rattle.sat_trail.specs.Trail.{lits}
use Rattle.sat_trail.proofs.ForCallers.{true-from_value}
use Rattle.sat_watch.specs.Numbered.{Numbered, numbered, clauses_of}
use Rattle.sat_watch.proofs.ForCallers.{open-negation}
use Rattle.rup_check.proofs.ForcedLemmas.{forced-conflict, forced-true}
use Rattle.rup_check.proofs.RootLemmas.{found-some, sound-denied, ready-denied, decided-denied}
use Rattle.rup_check.proofs.root.deny.Goals as goal

pub decide-requires-clause-open : goal.decide-requires-clause-open
decide-requires-clause-open c = rw c.negation.ensures.value (open-negation (lits c.args.trail.now.entries) c.args.lit (sym c.value.ensures ∙ c.in-None.is))

pub propagate_entries-requires-clause-sound : goal.propagate_entries-requires-clause-sound
propagate_entries-requires-clause-sound c = sound-denied c.args.arena.now c.args.trail.now c.decide.new.self c.args.head.now c.negation.result c.requires.quiet c.decide.ensures

pub propagate_entries-requires-clause-ready : goal.propagate_entries-requires-clause-ready
propagate_entries-requires-clause-ready c = ready-denied c.args.arena.now c.args.trail.now c.decide.new.self c.args.head.now c.args.lit c.negation.result c.requires.quiet c.requires.in_range (sym c.value.ensures ∙ c.in-None.is) c.negation.ensures.value c.decide.ensures

pub returns-in-Some-clause-forced : goal.returns-in-Some-clause-forced
returns-in-Some-clause-forced c t clause m con d =
    let es = c.args.trail.now.entries in
    forced-true (numbered c.args.arena.now) clause es c.args.lit c.requires.quiet.kept.sound.reasons d con m (true-from_value (lits es) c.args.lit (sym c.value.ensures ∙ (c.in-Some.is ∙ ap Some t)))

pub returns-in-None-clause-decided : goal.returns-in-None-clause-decided
returns-in-None-clause-decided c clause m d =
    let r = ready-denied c.args.arena.now c.args.trail.now c.decide.new.self c.args.head.now c.args.lit c.negation.result c.requires.quiet c.requires.in_range (sym c.value.ensures ∙ c.in-None.is) c.negation.ensures.value c.decide.ensures in
    let p = c.propagate_entries.ensures in
    decided-denied clause c.args.trail.now c.decide.new.self c.propagate_entries.new.trail c.args.lit c.negation.result c.decide.ensures c.negation.ensures.value r.trail p.ready.trail p.level p.longer m d

pub returns-in-None-clause-forced : goal.returns-in-None-clause-forced
returns-in-None-clause-forced c t clause m con d =
    let r = ready-denied c.args.arena.now c.args.trail.now c.decide.new.self c.args.head.now c.args.lit c.negation.result c.requires.quiet c.requires.in_range (sym c.value.ensures ∙ c.in-None.is) c.negation.ensures.value c.decide.ensures in
    let p = c.propagate_entries.ensures in
    let u = c.propagate_entries.new.trail in
    let ns = numbered c.propagate_entries.new.arena in
    let decided = decided-denied clause c.args.trail.now c.decide.new.self u c.args.lit c.negation.result c.decide.ensures c.negation.ensures.value r.trail p.ready.trail p.level p.longer m d in
    let w = found-some ns (lits u.entries) c.propagate_entries.result (sym c.is_some.ensures ∙ t) p.found in
    let P : List Numbered → Type 0 = λ ns. IsForced (clauses_of ns) clause in
    subst P p.same (forced-conflict ns clause u.entries w.0 p.sound.reasons decided w.1)
