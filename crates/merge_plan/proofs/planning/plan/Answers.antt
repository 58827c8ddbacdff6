use Rattle.std.proofs.Common.{List, map, ap, sym, subst}
use Rattle.css_model.specs.declared.sheet.Item.{Item}
use Rattle.css_model.specs.Sheets.SheetParts.{SheetParts}
use Rattle.merge_plan.proofs.Answering.{done_more, stays_among}
use Rattle.merge_plan.proofs.Plannable.{still_plannable}
use Rattle.merge_plan.proofs.planning.plan.Goals as goal
use Rattle.plan_laws.proofs.ForCallers.{leads_more}
use Rattle.plan_laws.specs.Plannable.{IsPlannable}
use Rattle.sheet_order.specs.Laws.{answer_seen}
use Rattle.step_laws.specs.Leading.{Leads}

-- the copy can be planned as the sheet can
pub merged_sheet-requires : goal.merged_sheet-requires
merged_sheet-requires c = record { plannable = subst (λ (s : SheetParts). IsPlannable c.args.source.now s.items) (sym c.in_ok-copy.ensures) c.requires.plannable }

-- what it merges to can be planned too
pub blocked_steps-requires-clause-plannable : goal.blocked_steps-requires-clause-plannable
blocked_steps-requires-clause-plannable c =
    still_plannable c.leading_makes_of.ensures (map answer_seen c.merged_sheet.new.pairs.answers) c.args.source.now c.in_ok-merged.merged.taken c.args.sheet.now.items c.in_ok-merged.merged.sheet.items c.requires.plannable
    (subst (λ (s : SheetParts). Leads (map answer_seen c.merged_sheet.new.pairs.answers) c.args.source.now c.in_ok-merged.merged.taken s.items c.in_ok-merged.merged.sheet.items) c.in_ok-copy.ensures c.in_ok-merged.ensures.leads)

-- all that was answered stays, also where memory is short in the end
pub returns-in_err-blocked-clause-asked : goal.returns-in_err-blocked-clause-asked
returns-in_err-blocked-clause-asked c = λ a inside. stays_among c.merged_sheet.new.pairs c.blocked_steps.new.pairs c.blocked_steps.ensures.stays a (c.merged_sheet.ensures.asked a inside)

pub returns-clause-asked : goal.returns-clause-asked
returns-clause-asked c = λ a inside. stays_among c.merged_sheet.new.pairs c.blocked_steps.new.pairs c.blocked_steps.ensures.stays a (c.merged_sheet.ensures.asked a inside)

pub returns-clause-leads : goal.returns-clause-leads
returns-clause-leads c =
    leads_more (map answer_seen c.merged_sheet.new.pairs.answers) (map answer_seen c.blocked_steps.new.pairs.answers) (stays_among c.merged_sheet.new.pairs c.blocked_steps.new.pairs c.blocked_steps.ensures.stays) c.args.source.now
    c.in_ok-merged.merged.taken c.args.sheet.now.items c.in_ok-merged.merged.sheet.items
    (subst (λ (s : SheetParts). Leads (map answer_seen c.merged_sheet.new.pairs.answers) c.args.source.now c.in_ok-merged.merged.taken s.items c.in_ok-merged.merged.sheet.items) c.in_ok-copy.ensures c.in_ok-merged.ensures.leads)

pub returns-clause-done : goal.returns-clause-done
returns-clause-done c = done_more c.merged_sheet.new.pairs c.blocked_steps.new.pairs c.blocked_steps.ensures.stays c.args.source.now c.in_ok-merged.merged.sheet.items c.in_ok-merged.ensures.done
