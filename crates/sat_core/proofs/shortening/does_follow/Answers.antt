use Rattle.sat_core.proofs.ShortenLemmas.{reason-known}
use Rattle.sat_core.proofs.shortening.does_follow.Goals as goal

pub do_others_follow-requires-clause-known : goal.do_others_follow-requires-clause-known
do_others_follow-requires-clause-known c = reason-known c.args.arena.now c.args.trail.now.entries c.args.var c.in-Some.number c.requires.sound.reasons c.in-Some.ensures
