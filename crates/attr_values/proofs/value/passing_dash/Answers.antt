use Rattle.std.proofs.Common.{sym, ◌∙◌}
use Rattle.attr_values.proofs.LongestDash.{dash_passes, dash_fails, no_dash}
use Rattle.attr_values.proofs.value.passing_dash.Goals.{else-is_any_asked-via-then-is_any_asked+in_ok-passes_as_asked+else-branch, else-is_any_asked-via-else-is_any_asked}
use Rattle.attr_values.proofs.value.passing_dash.Goals as goal

pub returns-then-branch : goal.returns-then-branch
returns-then-branch c = dash_passes c.args.tests.now c.longest_asked-longest.result.now c.longest_asked-longest.ensures c.if-is_any_asked.ensures (sym c.if-branch.true ∙ c.in_ok-passes_as_asked.ensures)

pub returns-else-is_any_asked : goal.returns-else-is_any_asked
returns-else-is_any_asked c =
    elim c.else-is_any_asked.branch [
      | else-is_any_asked-via-then-is_any_asked+in_ok-passes_as_asked+else-branch w ↦ dash_fails c.args.tests.now c.longest_asked-longest.result.now c.longest_asked-longest.ensures w.if-is_any_asked.ensures (sym w.if-branch.false ∙ w.in_ok-passes_as_asked.ensures)
      | else-is_any_asked-via-else-is_any_asked w ↦ no_dash c.args.tests.now w.if-is_any_asked.ensures
    ]
