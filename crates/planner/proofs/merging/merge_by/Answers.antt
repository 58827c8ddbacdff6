use Rattle.std.proofs.Common.{◌≡◌, ◌<◌, false, true, List, refl, sym, ap, ◌∙◌, subst, arith}
use Rattle.css_model.specs.declared.sheet.Item.{Item}
use Rattle.planner.proofs.Ended.{ended_done, ended_spent, ended_there, leads_there, within_on, within_run, within_there}
use Rattle.planner.proofs.merging.merge_by.Goals as goal
use Rattle.planner.specs.Following.{IsNextFound}
use Rattle.indexed_sheet.specs.IndexedParts.{IndexedParts}
use Rattle.plan_laws.proofs.ForCallers.{leads_more, leads_on, takes_shorter}
use Rattle.step_laws.specs.Leading.{Takes, Leads}
use Rattle.step_laws.specs.Sizes.{size}

pub steps-init : goal.steps-init
steps-init g c = record {
  asked = λ a has. has;
  same_budget = refl;
  state = c.in_ok-plan.ensures.state (g.O.Obstacles.answers c.args.obstacles.now);
  leads = subst (Leads (g.O.Obstacles.answers c.args.obstacles.now) c.args.source.now c.in_ok-begun.begun.taken c.args.sheet.items) (sym c.in_ok-plan.ensures.items) (c.in_ok-begun.ensures.leads (g.O.Obstacles.answers c.args.obstacles.now));
  within = within_run c.args.work (g.O.Obstacles.answers c.args.obstacles.now) c.args.source.now c.in_ok-begun.begun.taken c.args.sheet.items
      (λ n is. (let most = c.steps_left.ensures.bound n is in let few = c.in_ok-begun.ensures.few in omega (arith, most, few)));
  room =
      (let same : size c.args.source.now c.in_ok-plan.plan.indexed.items ≡ size c.args.source.now c.in_ok-begun.begun.sheet.items = ap (size c.args.source.now) c.in_ok-plan.ensures.items in
      let shorter = c.in_ok-begun.ensures.shorter in
      omega (arith, same, shorter));
}

pub steps-preserved : goal.steps-preserved
steps-preserved g c =
    let items : c.next_step.new.plan.indexed.items ≡ c.steps.plan.indexed.items = ap (λ (b : IndexedParts). b.items) c.in_ok-step.ensures.indexed in
    let found : IsNextFound (g.O.Obstacles.answers c.next_step.new.obstacles) c.args.source.now c.next_step.new.plan.indexed.items c.in-Take.step =
    subst (λ (xs : List Item). IsNextFound (g.O.Obstacles.answers c.next_step.new.obstacles) c.args.source.now xs c.in-Take.step) (sym items) (rw c.in-Take.is at c.in_ok-step.ensures.found) in
    let took : Takes (g.O.Obstacles.answers c.next_step.new.obstacles) c.args.source.now c.next_step.new.plan.indexed.items c.in_ok-plan-in-Take.plan.indexed.items =
    subst (Takes (g.O.Obstacles.answers c.next_step.new.obstacles) c.args.source.now c.next_step.new.plan.indexed.items) (sym (c.in_ok-plan-in-Take.ensures.items found.has.0 found.has.1)) (found.takes found.has.0 found.has.1) in
    let shorter : size c.args.source.now c.in_ok-plan-in-Take.plan.indexed.items < size c.args.source.now c.next_step.new.plan.indexed.items =
    takes_shorter (g.O.Obstacles.answers c.next_step.new.obstacles) c.args.source.now c.args.source.now refl c.next_step.new.plan.indexed.items c.in_ok-plan-in-Take.plan.indexed.items took in
    let same : size c.args.source.now c.next_step.new.plan.indexed.items ≡ size c.args.source.now c.steps.plan.indexed.items = ap (size c.args.source.now) items in
    record {
      asked = λ a has. c.in_ok-step.ensures.asked a (c.steps.invariant.asked a has);
      same_budget = c.in_ok-step.ensures.same_budget ∙ c.steps.invariant.same_budget;
      state = c.in_ok-plan-in-Take.ensures.state (g.O.Obstacles.answers c.next_step.new.obstacles) (rw c.in-Take.is at c.in_ok-step.ensures.state) found.takes;
      leads = leads_on (g.O.Obstacles.answers c.steps.obstacles) (g.O.Obstacles.answers c.next_step.new.obstacles) c.in_ok-step.ensures.asked c.args.source.now c.args.source.now refl c.steps.taken c.args.sheet.items
          c.next_step.new.plan.indexed.items c.in_ok-plan-in-Take.plan.indexed.items
          (subst (Leads (g.O.Obstacles.answers c.steps.obstacles) c.args.source.now c.steps.taken c.args.sheet.items) (sym items) c.steps.invariant.leads) took;
      within = within_on c.args.work (g.O.Obstacles.answers c.next_step.new.obstacles) c.args.source.now c.steps.taken c.args.sheet.items c.steps.plan.indexed.items (rw c.in-Take.is at c.in_ok-step.ensures.goes_on)
          (leads_more (g.O.Obstacles.answers c.steps.obstacles) (g.O.Obstacles.answers c.next_step.new.obstacles) c.in_ok-step.ensures.asked c.args.source.now c.steps.taken c.args.sheet.items c.steps.plan.indexed.items c.steps.invariant.leads);
      room = omega (arith, shorter, same, c.steps.invariant.room);
    }

pub steps-smaller : goal.steps-smaller
steps-smaller g c =
    let items : c.next_step.new.plan.indexed.items ≡ c.steps.plan.indexed.items = ap (λ (b : IndexedParts). b.items) c.in_ok-step.ensures.indexed in
    let found : IsNextFound (g.O.Obstacles.answers c.next_step.new.obstacles) c.args.source.now c.next_step.new.plan.indexed.items c.in-Take.step =
    subst (λ (xs : List Item). IsNextFound (g.O.Obstacles.answers c.next_step.new.obstacles) c.args.source.now xs c.in-Take.step) (sym items) (rw c.in-Take.is at c.in_ok-step.ensures.found) in
    let took : Takes (g.O.Obstacles.answers c.next_step.new.obstacles) c.args.source.now c.next_step.new.plan.indexed.items c.in_ok-plan-in-Take.plan.indexed.items =
    subst (Takes (g.O.Obstacles.answers c.next_step.new.obstacles) c.args.source.now c.next_step.new.plan.indexed.items) (sym (c.in_ok-plan-in-Take.ensures.items found.has.0 found.has.1)) (found.takes found.has.0 found.has.1) in
    let shorter : size c.args.source.now c.in_ok-plan-in-Take.plan.indexed.items < size c.args.source.now c.next_step.new.plan.indexed.items =
    takes_shorter (g.O.Obstacles.answers c.next_step.new.obstacles) c.args.source.now c.args.source.now refl c.next_step.new.plan.indexed.items c.in_ok-plan-in-Take.plan.indexed.items took in
    let same : size c.args.source.now c.next_step.new.plan.indexed.items ≡ size c.args.source.now c.steps.plan.indexed.items = ap (size c.args.source.now) items in
    omega (arith, shorter, same)

-- what is handed out is the sheet of the indexed sheet
pub returns-in-Done-clause-leads : goal.returns-in-Done-clause-leads
returns-in-Done-clause-leads g c =
    leads_there c.merged_of.result c.steps.taken false c.steps.plan.indexed.items (c.merged_of.ensures.items ∙ ap (λ (b : IndexedParts). b.items) c.in_ok-step.ensures.indexed) c.merged_of.ensures.taken c.merged_of.ensures.spent
    (g.O.Obstacles.answers c.steps.obstacles) (g.O.Obstacles.answers c.next_step.new.obstacles) c.in_ok-step.ensures.asked c.args.source.now c.args.sheet.items c.steps.invariant.leads

pub returns-in-Done-clause-within : goal.returns-in-Done-clause-within
returns-in-Done-clause-within g c =
    within_there c.merged_of.result c.steps.taken false c.steps.plan.indexed.items (c.merged_of.ensures.items ∙ ap (λ (b : IndexedParts). b.items) c.in_ok-step.ensures.indexed) c.merged_of.ensures.taken c.merged_of.ensures.spent
    c.args.work (g.O.Obstacles.answers c.steps.obstacles) (g.O.Obstacles.answers c.next_step.new.obstacles) c.in_ok-step.ensures.asked c.args.source.now c.args.sheet.items c.steps.invariant.within

pub returns-in-Done-clause-ended : goal.returns-in-Done-clause-ended
returns-in-Done-clause-ended g c =
    ended_there c.merged_of.result c.steps.taken false c.steps.plan.indexed.items (c.merged_of.ensures.items ∙ ap (λ (b : IndexedParts). b.items) c.in_ok-step.ensures.indexed) c.merged_of.ensures.taken c.merged_of.ensures.spent
    c.args.work (g.O.Obstacles.answers c.next_step.new.obstacles) c.args.source.now
    (ended_done c.args.work (g.O.Obstacles.answers c.next_step.new.obstacles) c.args.source.now c.steps.taken c.steps.plan.indexed.items (rw c.in-Done.is at c.in_ok-step.ensures.done))

pub returns-in-Spent-clause-leads : goal.returns-in-Spent-clause-leads
returns-in-Spent-clause-leads g c =
    leads_there c.merged_of-in-Spent.result c.steps.taken true c.steps.plan.indexed.items (c.merged_of-in-Spent.ensures.items ∙ ap (λ (b : IndexedParts). b.items) c.in_ok-step.ensures.indexed) c.merged_of-in-Spent.ensures.taken c.merged_of-in-Spent.ensures.spent
    (g.O.Obstacles.answers c.steps.obstacles) (g.O.Obstacles.answers c.next_step.new.obstacles) c.in_ok-step.ensures.asked c.args.source.now c.args.sheet.items c.steps.invariant.leads

pub returns-in-Spent-clause-within : goal.returns-in-Spent-clause-within
returns-in-Spent-clause-within g c =
    within_there c.merged_of-in-Spent.result c.steps.taken true c.steps.plan.indexed.items (c.merged_of-in-Spent.ensures.items ∙ ap (λ (b : IndexedParts). b.items) c.in_ok-step.ensures.indexed) c.merged_of-in-Spent.ensures.taken c.merged_of-in-Spent.ensures.spent
    c.args.work (g.O.Obstacles.answers c.steps.obstacles) (g.O.Obstacles.answers c.next_step.new.obstacles) c.in_ok-step.ensures.asked c.args.source.now c.args.sheet.items c.steps.invariant.within

pub returns-in-Spent-clause-ended : goal.returns-in-Spent-clause-ended
returns-in-Spent-clause-ended g c =
    ended_there c.merged_of-in-Spent.result c.steps.taken true c.steps.plan.indexed.items (c.merged_of-in-Spent.ensures.items ∙ ap (λ (b : IndexedParts). b.items) c.in_ok-step.ensures.indexed) c.merged_of-in-Spent.ensures.taken c.merged_of-in-Spent.ensures.spent
    c.args.work (g.O.Obstacles.answers c.next_step.new.obstacles) c.args.source.now
    (ended_spent c.args.work (g.O.Obstacles.answers c.next_step.new.obstacles) c.args.source.now c.steps.taken c.steps.plan.indexed.items (rw c.in-Spent.is at c.in_ok-step.ensures.spent))
