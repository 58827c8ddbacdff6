use Rattle.std.proofs.Common.{inr, sym, ◌∙◌}
use Rattle.sat_watch.proofs.ShortLemmas.{made-some}
use Rattle.sat_watch.proofs.propagation.make_true.Goals as goal

pub returns-in-None : goal.returns-in-None
returns-in-None c = inr (sym c.value.ensures ∙ c.in-None.is, c.imply.ensures)

pub returns-in-Some : goal.returns-in-Some
returns-in-Some c = made-some c.args.trail.now c.args.lit c.args.number c.in-Some.value (sym c.in-Some.is ∙ c.value.ensures)
