use Rattle.merge_steps.proofs.listing.steps.Goals as goal
use Rattle.merge_steps.proofs.Rows.{all_listed}

pub returns-clause-exact : goal.returns-clause-exact
returns-clause-exact c = all_listed c.args.sheet.now.items c.push_kind-7.new.found.items c.in_ok-push_kind-7.ensures
