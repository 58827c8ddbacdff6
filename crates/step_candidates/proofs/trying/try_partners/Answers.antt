use Rattle.std.proofs.lemmas.List.{nil_from_length}
use Rattle.step_candidates.proofs.AddedSteps.{all_walked, none_walked, one_walked}
use Rattle.step_candidates.proofs.trying.try_partners.Goals as goal

pub rest-init : goal.rest-init
rest-init c = none_walked c.args.on.now.lengths.now c.args.on.now.sheet.now.items c.args.number c.args.others.now c.args.found.now

pub rest-preserved : goal.rest-preserved
rest-preserved c = one_walked c.args.on.now.lengths.now c.args.on.now.sheet.now.items c.args.number c.args.others.now c.rest.rest.now c.in-Some.behind.now c.in-Some.other.now
    c.args.found.now c.rest.found c.try_partner.new.found c.in-Some.ensures.cases.0 c.rest.invariant c.in_ok-try_partner.ensures

pub returns : goal.returns
returns c = all_walked c.args.on.now.lengths.now c.args.on.now.sheet.now.items c.args.number c.args.others.now c.rest.rest.now c.args.found.now c.rest.found
    (nil_from_length c.rest.rest.now (rw c.in_default.is at c.split_first.ensures.cases)) c.rest.invariant
