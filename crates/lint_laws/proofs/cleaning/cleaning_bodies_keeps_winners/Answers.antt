use Rattle.lint_laws.proofs.Blocks.{bodies_keep_winners}
use Rattle.lint_laws.proofs.cleaning.cleaning_bodies_keeps_winners.Goals as goal

pub returns : goal.returns
returns c = bodies_keep_winners c.cleaning_keeps_winners.ensures c.bodies_count_by_winners.ensures.sheets
