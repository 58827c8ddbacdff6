use Rattle.std.proofs.Common.{sym, ◌∙◌}
use Rattle.sat_watch.proofs.PartnerLemmas.{false-some, false-none}
use Rattle.sat_watch.proofs.watch.is_false.Goals as goal

pub returns-in-None : goal.returns-in-None
returns-in-None c = false-none c.args.trail.now c.args.lit (sym c.in-None.is ∙ c.value.ensures)

pub returns-in-Some : goal.returns-in-Some
returns-in-Some c = false-some c.args.trail.now c.args.lit c.in-Some.value c.requires.trail (sym c.in-Some.is ∙ c.value.ensures)
