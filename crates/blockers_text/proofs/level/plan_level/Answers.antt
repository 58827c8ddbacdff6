use Rattle.blockers_text.proofs.Planning.{still_plannable}
use Rattle.blockers_text.proofs.level.plan_level.Goals as goal
use Rattle.blockers_text.specs.Later.{seen}

pub plan-requires : goal.plan-requires
plan-requires c = record { plannable = c.read_is_plannable.ensures c.args.level.now.source.now c.args.level.now.sheet.now.items c.requires }

pub returns-in_err-found-clause-grows : goal.returns-in_err-found-clause-grows
returns-in_err-found-clause-grows c = record { among = c.plan.ensures.asked; budget = c.plan.ensures.same_budget }

pub returns-clause-grows : goal.returns-clause-grows
returns-clause-grows c = record { among = c.plan.ensures.asked; budget = c.plan.ensures.same_budget }

pub returns-clause-plannable : goal.returns-clause-plannable
returns-clause-plannable c =
    let source = c.args.level.now.source.now in
    let items = c.args.level.now.sheet.now.items in
    still_plannable c.leading_makes_of.ensures (seen c.plan.new.pairs) source c.in_ok-found.found.taken items c.in_ok-found.found.sheet.items (c.read_is_plannable.ensures source items c.requires) c.in_ok-found.ensures.leads
