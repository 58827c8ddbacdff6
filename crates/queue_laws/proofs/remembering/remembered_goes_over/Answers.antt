use Rattle.queue_laws.proofs.Reactivated.{remembered_on}
use Rattle.queue_laws.proofs.remembering.remembered_goes_over.Goals as goal

pub returns : goal.returns
returns c = λ answers source items j d h h' entries entries' step sound room pending names stay more old. remembered_on c.candidates_go_on.ensures answers source items d h h' entries pending names old c.steps_have_been.ensures j entries' step sound room stay more
