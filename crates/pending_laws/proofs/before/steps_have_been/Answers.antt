use Rattle.pending_laws.proofs.Been.{steps_have_been}
use Rattle.pending_laws.proofs.before.steps_have_been.Goals as goal

pub returns : goal.returns
returns c = steps_have_been c.cuts_have_been.ensures c.steps_come_back.ensures c.items_stay.ensures c.steps_stay_sound.ensures c.savings_go_on.ensures
