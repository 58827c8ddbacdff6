use Rattle.std.proofs.Common.{◌++◌, sym, ◌∙◌}
use Rattle.compound_fit.proofs.NoFlags.{none_set, not_asked}
use Rattle.compound_fit.proofs.flags.flags.Goals as goal

pub returns-else-have_state-clause-flags : goal.returns-else-have_state-clause-flags
returns-else-have_state-clause-flags c = λ flag. none_set flag ∙ sym (not_asked flag (c.args.x.now ++ c.args.y.now) (sym c.if-have_state.ensures))
