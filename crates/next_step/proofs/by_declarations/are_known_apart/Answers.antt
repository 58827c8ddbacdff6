use Rattle.next_step.proofs.RulesApart.{apart_turned}
use Rattle.next_step.proofs.by_declarations.are_known_apart.Goals as goal

pub returns-clause-back : goal.returns-clause-back
returns-clause-back c = λ known. apart_turned c.args.view.now.indexed.now.items c.args.focus.now.number c.args.other (c.are_apart.ensures known)
