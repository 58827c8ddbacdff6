use Rattle.media_groups.proofs.Counts.{read_facts}
use Rattle.media_groups.proofs.reading.reading_with.Goals as goal

pub invariant_of-result-clause-short : goal.invariant_of-result-clause-short
invariant_of-result-clause-short c = (read_facts c.args.source.now c.args.sheet.now.items c.requires.read).short
