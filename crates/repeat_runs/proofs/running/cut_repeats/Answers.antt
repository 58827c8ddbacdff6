use Rattle.std.proofs.Common.{◌-◌, ◌≤◌, arith}
use Rattle.repeat_runs.proofs.OneRule.{rule_at_number}
use Rattle.repeat_runs.proofs.Ran.{ran}
use Rattle.repeat_runs.proofs.running.cut_repeats.Goals as goal

pub overflow_sub-taken : goal.overflow_sub-taken
overflow_sub-taken c = (ran c.runs_lead.ensures c.args.lengths.now c.args.sheet.items c.in-Some.number c.args.most c.in-Some-2.gone.decls.items c.in-Some-2.gone.selectors.items c.requires.plannable c.in-Some.ensures.some
    (rw c.in-Some-2.is at c.in_ok-gone.ensures.some) c.in_ok-sheet.sheet.items c.parts_of-before.result c.parts_of.result c.in_ok-sheet.ensures c.parts_of-before.ensures c.parts_of.ensures).fewer

pub overflow_cast-taken : goal.overflow_cast-taken
overflow_cast-taken c = let few : c.parts_of-before.result - c.parts_of.result ≤ c.args.most = (ran c.runs_lead.ensures c.args.lengths.now c.args.sheet.items c.in-Some.number c.args.most c.in-Some-2.gone.decls.items c.in-Some-2.gone.selectors.items c.requires.plannable c.in-Some.ensures.some
    (rw c.in-Some-2.is at c.in_ok-gone.ensures.some) c.in_ok-sheet.sheet.items c.parts_of-before.result c.parts_of.result c.in_ok-sheet.ensures c.parts_of-before.ensures c.parts_of.ensures).few in let fits = c.ranges.most.fits in omega (arith, few, fits)

pub returns-clause-leads : goal.returns-clause-leads
returns-clause-leads c = (ran c.runs_lead.ensures c.args.lengths.now c.args.sheet.items c.in-Some.number c.args.most c.in-Some-2.gone.decls.items c.in-Some-2.gone.selectors.items c.requires.plannable c.in-Some.ensures.some
    (rw c.in-Some-2.is at c.in_ok-gone.ensures.some) c.in_ok-sheet.sheet.items c.parts_of-before.result c.parts_of.result c.in_ok-sheet.ensures c.parts_of-before.ensures c.parts_of.ensures).leads

pub returns-clause-few : goal.returns-clause-few
returns-clause-few c = (ran c.runs_lead.ensures c.args.lengths.now c.args.sheet.items c.in-Some.number c.args.most c.in-Some-2.gone.decls.items c.in-Some-2.gone.selectors.items c.requires.plannable c.in-Some.ensures.some
    (rw c.in-Some-2.is at c.in_ok-gone.ensures.some) c.in_ok-sheet.sheet.items c.parts_of-before.result c.parts_of.result c.in_ok-sheet.ensures c.parts_of-before.ensures c.parts_of.ensures).few

pub returns-clause-plannable : goal.returns-clause-plannable
returns-clause-plannable c = (ran c.runs_lead.ensures c.args.lengths.now c.args.sheet.items c.in-Some.number c.args.most c.in-Some-2.gone.decls.items c.in-Some-2.gone.selectors.items c.requires.plannable c.in-Some.ensures.some
    (rw c.in-Some-2.is at c.in_ok-gone.ensures.some) c.in_ok-sheet.sheet.items c.parts_of-before.result c.parts_of.result c.in_ok-sheet.ensures c.parts_of-before.ensures c.parts_of.ensures).plannable

pub returns-clause-shorter : goal.returns-clause-shorter
returns-clause-shorter c = (ran c.runs_lead.ensures c.args.lengths.now c.args.sheet.items c.in-Some.number c.args.most c.in-Some-2.gone.decls.items c.in-Some-2.gone.selectors.items c.requires.plannable c.in-Some.ensures.some
    (rw c.in-Some-2.is at c.in_ok-gone.ensures.some) c.in_ok-sheet.sheet.items c.parts_of-before.result c.parts_of.result c.in_ok-sheet.ensures c.parts_of-before.ensures c.parts_of.ensures).shorter

pub returns-clause-cuts : goal.returns-clause-cuts
returns-clause-cuts c = (ran c.runs_lead.ensures c.args.lengths.now c.args.sheet.items c.in-Some.number c.args.most c.in-Some-2.gone.decls.items c.in-Some-2.gone.selectors.items c.requires.plannable c.in-Some.ensures.some
    (rw c.in-Some-2.is at c.in_ok-gone.ensures.some) c.in_ok-sheet.sheet.items c.parts_of-before.result c.parts_of.result c.in_ok-sheet.ensures c.parts_of-before.ensures c.parts_of.ensures).cuts

-- of equal parts a later one weighs more
pub returns-in_default-2-clause-cuts : goal.returns-in_default-2-clause-cuts
returns-in_default-2-clause-cuts c before after r split kept_before kept_after descend =
    absurd ((rw c.in_default-2.is at c.in_ok-gone.ensures.none) r (rule_at_number c.args.sheet.items c.in-Some.number before after r c.in-Some.ensures.some split kept_before) descend)
