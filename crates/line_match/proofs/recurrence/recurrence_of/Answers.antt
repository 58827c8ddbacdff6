use Rattle.std.proofs.Common.{◌<◌, Bool, subst, sym}
use Rattle.css_model.specs.Documents.FeatureParts.{FeatureParts}
use Rattle.cascade_laws.specs.Eval.Repeating.{Repeats}
use Rattle.line_match.specs.declared.recurrence.Recurrence.{Recurrence}
use Rattle.line_match.specs.Runs.{run_tests}
use Rattle.line_match.proofs.Recurring.{recurrence_moves, recurrence_repeats}
use Rattle.line_match.proofs.recurrence.recurrence_of.Goals as goal

pub returns-clause-moves : goal.returns-clause-moves
returns-clause-moves c = subst (λ (r : Recurrence). 0 < r.period) (sym c.of_selector.ensures.value) (recurrence_moves c.args.selector.now.chain)

pub returns-clause-repeats : goal.returns-clause-repeats
returns-clause-repeats c =
    subst (λ (r : Recurrence). r.period < 4294967296 → (element : FeatureParts) (has : Bool) → Repeats (run_tests c.args.selector.now.chain element has) r.threshold r.period)
    (sym c.of_selector.ensures.value) (recurrence_repeats c.args.selector.now.chain)
