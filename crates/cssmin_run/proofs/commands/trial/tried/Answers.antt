use Rattle.std.proofs.Common.{◌≡◌, ℕ, List, None, refl, ◌∙◌, subst}
use Rattle.cssmin_run.specs.Commands.Min.{IsMergedBy}
use Rattle.merge_report.specs.Reports.{IsSummary}
use Rattle.trial_gen.specs.Made.{made_sheet}
use Rattle.cssmin_run.proofs.commands.trial.tried.Goals as goal

pub returns-clause-ok : goal.returns-clause-ok
returns-clause-ok c =
    let first : c.as_slice.result.now ≡ made_sheet c.args.rules = c.as_slice.ensures.value ∙ c.in_ok-sheet.ensures in
    let second : c.as_slice-2.result.now ≡ made_sheet c.args.rules = c.as_slice-2.ensures.value ∙ c.in_ok-sheet.ensures in
    let by : IsMergedBy None None (made_sheet c.args.rules) c.in_ok-pairs.pairs c.in_ok-pairs.merged = subst (λ (read : List ℕ). IsMergedBy None None read c.in_ok-pairs.pairs c.in_ok-pairs.merged) first c.in_ok-pairs.ensures.ok in
    record {
      written = c.in_ok-pairs.merged.text.items;
      merges = record { pairs = c.in_ok-pairs.pairs; held_is = refl; same_budget = by.same_budget; all_true = c.are_true.ensures; merged = by.merged; told = refl };
      summary = subst (λ (read : List ℕ). IsSummary c.in_ok-pairs.pairs.answers read c.in_ok-pairs.merged.text.items c.in_ok-text.text.items) second c.in_ok-text.ensures;
    }
