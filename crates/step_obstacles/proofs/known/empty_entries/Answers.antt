use Rattle.step_obstacles.proofs.known.empty_entries.Goals as goal

pub returns : goal.returns
returns c = c.loop.invariant
