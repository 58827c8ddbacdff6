use Rattle.pending_laws.proofs.Been.{cuts_have_been}
use Rattle.pending_laws.proofs.before.cuts_have_been.Goals as goal

pub returns : goal.returns
returns c = cuts_have_been c.steps_rearrange.ensures c.items_stay.ensures c.steps_stay_sound.ensures c.savings_go_on.ensures
