use Rattle.sat_watch.proofs.ShortLemmas.{ready-longer, short-above}
use Rattle.sat_watch.proofs.StepLemmas.{longer-trans}
use Rattle.sat_watch.proofs.propagation.propagate.Goals as goal

pub propagate_entries-requires-clause-ready : goal.propagate_entries-requires-clause-ready
propagate_entries-requires-clause-ready c =
    let u = c.imply_short.new.trail in
    let s = c.imply_short.ensures in
    let short = c.in-None.ensures.found in
    ready-longer c.args.arena.now c.args.trail.now u c.args.head.now c.requires.ready s.trail s.level s.longer s.above (λ _. short)

pub returns-in-Some-clause-ready : goal.returns-in-Some-clause-ready
returns-in-Some-clause-ready c =
    let a = c.args.arena.now in
    let t = c.args.trail.now in
    let u = c.imply_short.new.trail in
    let s = c.imply_short.ensures in
    ready-longer a t u c.args.head.now c.requires.ready s.trail s.level s.longer s.above (short-above a t u c.args.head.now c.requires.ready s.level s.above)

pub returns-in-None-clause-longer : goal.returns-in-None-clause-longer
returns-in-None-clause-longer c = longer-trans c.args.trail.now c.imply_short.new.trail c.propagate_entries.new.trail c.imply_short.ensures.longer c.propagate_entries.ensures.longer
