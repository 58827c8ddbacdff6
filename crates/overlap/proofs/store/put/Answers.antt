use Rattle.std.proofs.Common.{◌∙◌}
use Rattle.overlap.proofs.Keeping.{appended, last_index}
use Rattle.overlap.proofs.store.put.Goals as goal

pub returns-clause-at : goal.returns-clause-at
returns-clause-at c = c.in_ok-at.ensures.index ∙ last_index c.args.answers.now.entries c.args.places c.requires

pub returns-clause-ok : goal.returns-clause-ok
returns-clause-ok c = c.in_ok-at.ensures.entries ∙ appended c.args.answers.now.entries c.args.places c.args.answer c.requires
