use Rattle.next_step.proofs.too_late.by_common.are_plain.Goals as goal

pub returns-clause-ours : goal.returns-clause-ours
returns-clause-ours c = λ known.
    (c.requires.focus.once c.if-not-focus.false c.args.focus.now.rule.now c.requires.focus.rule, (c.weight_at.ensures c.args.focus.now.rule.now c.requires.focus.rule).plain known)

pub returns-clause-theirs : goal.returns-clause-theirs
returns-clause-theirs c = λ known r at.
    ((c.weight_at-theirs.ensures r at).once (c.is_once_and_plain.ensures.once c.if-not-is_once_and_plain.false), (c.weight_at-theirs.ensures r at).plain (c.is_once_and_plain.ensures.plain c.if-not-is_once_and_plain.false))
