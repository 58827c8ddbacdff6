use Rattle.std.proofs.Common.{refl}
use Rattle.pending_laws.proofs.taken.free_step_is_taken.Goals as goal

pub returns : goal.returns
returns c = λ answers source items waits watched priorities pending queued k e n is free some saves first.
    (k, e, c.first_is_next.ensures answers source items priorities (c.pending_steps_are_covered.ensures answers source items waits watched priorities pending queued) k e n is free some saves first, refl)
