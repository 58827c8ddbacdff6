use Rattle.std.proofs.Common.{◌≡◌, ◌*◌}
use Rattle.trial_gen.specs.Draws.{state_after}
use Rattle.trial_gen.specs.Made.{made_sheet}
use Rattle.trial_gen.proofs.sheet.make_sheet.Given as goal

abbrev pub invariant-loop-rule : goal.invariant-loop-rule
invariant-loop-rule l = record { draws : l.draws.state ≡ state_after (2 * l._rule); text : l.sheet.items ≡ made_sheet l._rule }
