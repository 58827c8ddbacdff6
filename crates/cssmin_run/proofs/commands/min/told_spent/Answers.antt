use Rattle.std.proofs.Common.{Bool, Some, map, refl, subst, true}
use Rattle.cssmin_run.proofs.commands.min.told_spent.Goals as goal
use Rattle.planner.specs.Working.{spent_of}
use Rattle.opened_merge_laws.specs.Merged.{IsMergedWithin}
use Rattle.sheet_order.specs.Laws.{answer_seen}

pub returns-clause-ok : goal.returns-clause-ok
returns-clause-ok c = λ work budget by. record {
  pairs = c.args.merged.0;
  held_is = refl;
  same_budget = by.same_budget;
  all_true = c.are_true.ensures;
  spent = true;
  merged = subst (λ (b : Bool). IsMergedWithin (spent_of (Some work) b) (map answer_seen c.args.merged.0.answers) c.args.bytes.now c.args.merged.1.text.items) c.requires by.merged;
  told = c.in_ok-report.ensures work c.requires by.told;
}
