use Rattle.next_step.proofs.NoCut.{own_pairs_uncut}
use Rattle.next_step.proofs.cuts.uncut.is_noted_uncut.Goals as goal

pub returns-then-facts : goal.returns-then-facts
returns-then-facts c = λ known. c.facts-facts.ensures.no_cut c.if-facts.true

pub returns-then-facts-2 : goal.returns-then-facts-2
returns-then-facts-2 c = λ known. own_pairs_uncut c.own_pairs_have_no_cut.ensures c.args.indexed.now.items c.args.number c.args.rule.now c.requires (c.has_parts.ensures known) (c.facts-facts.ensures.own_pairs c.if-facts-2.true)
