use Rattle.next_step.proofs.RulesApart.{turned}
use Rattle.next_step.proofs.apart.are_apart_by_tables.Goals as goal

pub returns-then-theirs-ours : goal.returns-then-theirs-ours
returns-then-theirs-ours c = λ known. c.has_none_of.ensures known c.args.focus.now.rule.now c.requires.focus.rule

pub returns-else-theirs-ours : goal.returns-else-theirs-ours
returns-else-theirs-ours c = λ known. turned c.args.rule.now c.args.focus.now.rule.now (c.has_none_of-else-theirs-ours.ensures known c.args.rule.now c.requires.rule)
