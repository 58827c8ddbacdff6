use Rattle.next_step.proofs.RulesApart.{apart_turned}
use Rattle.next_step.proofs.DeclWeights.{own_apart}
use Rattle.next_step.proofs.apart.known.has_own.Goals as goal

pub returns-clause-forth : goal.returns-clause-forth
returns-clause-forth c = λ known. own_apart c.args.indexed.now.items c.args.number c.args.other c.requires (c.facts.ensures.own_selectors known)

pub returns-clause-back : goal.returns-clause-back
returns-clause-back c = λ known. apart_turned c.args.indexed.now.items c.args.number c.args.other (own_apart c.args.indexed.now.items c.args.number c.args.other c.requires (c.facts.ensures.own_selectors known))
