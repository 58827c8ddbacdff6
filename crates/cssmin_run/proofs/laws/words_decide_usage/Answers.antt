use Rattle.cssmin_run.proofs.Forms.{blockers_did, diff_did, inspect_did, lint_did, list_did, same_did, why_did, style_did, dead_did, check_did, cmp_did, min_did, trial_did, usage_is}
use Rattle.cssmin_run.proofs.laws.words_decide_usage.Goals as goal

pub returns-clause-usage : goal.returns-clause-usage
returns-clause-usage c = usage_is

pub returns-clause-min : goal.returns-clause-min
returns-clause-min c = min_did

pub returns-clause-cmp : goal.returns-clause-cmp
returns-clause-cmp c = cmp_did

pub returns-clause-check : goal.returns-clause-check
returns-clause-check c = check_did

pub returns-clause-dead : goal.returns-clause-dead
returns-clause-dead c = dead_did

pub returns-clause-style : goal.returns-clause-style
returns-clause-style c = style_did

pub returns-clause-trial : goal.returns-clause-trial
returns-clause-trial c = trial_did

pub returns-clause-why : goal.returns-clause-why
returns-clause-why c = why_did

pub returns-clause-same : goal.returns-clause-same
returns-clause-same c = same_did

pub returns-clause-diff : goal.returns-clause-diff
returns-clause-diff c = diff_did

pub returns-clause-blockers : goal.returns-clause-blockers
returns-clause-blockers c = blockers_did

pub returns-clause-list : goal.returns-clause-list
returns-clause-list c = list_did

pub returns-clause-lint : goal.returns-clause-lint
returns-clause-lint c = lint_did

pub returns-clause-inspect : goal.returns-clause-inspect
returns-clause-inspect c = inspect_did
