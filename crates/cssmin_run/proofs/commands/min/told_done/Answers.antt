use Rattle.std.proofs.Common.{map, refl, ◌∙◌}
use Rattle.cssmin_run.proofs.Staying.{among}
use Rattle.cssmin_run.proofs.commands.min.told_done.Goals as goal
use Rattle.opened_merge_laws.proofs.ForCallers.{merged_more}
use Rattle.sheet_order.specs.Laws.{answer_seen}

pub returns-clause-ok : goal.returns-clause-ok
returns-clause-ok c = record {
  pairs = c.told_of.new.pairs;
  held_is = refl;
  same_budget = c.in_ok-report.ensures.stays.budget ∙ c.requires.same_budget;
  all_true = c.are_true.ensures;
  merged = merged_more (map answer_seen c.args.merged.0.answers) (map answer_seen c.told_of.new.pairs.answers) (among c.args.merged.0 c.told_of.new.pairs c.in_ok-report.ensures.stays) c.args.bytes.now c.args.merged.1.text.items c.requires.merged;
  told = c.in_ok-report.ensures.told;
}
