use Rattle.std.proofs.Common.{◌<◌, length, map, subst, arith}
use Rattle.std.specs.Prelude.{slice_index_or}
use Rattle.std.proofs.lemmas.List.Elements.{Contains-get_or}
use Rattle.merge_plan.proofs.Answering.{stays_among, stays_on}
use Rattle.merge_plan.proofs.Blocking.{step_more}
use Rattle.merge_plan.proofs.blocked.blocked_of.Goals as goal
use Rattle.plan_laws.proofs.ForCallers.{blocked_more}
use Rattle.sheet_order.specs.Laws.{answer_seen}
use Rattle.step_laws.specs.declared.step.Step.TheVariants.{CutDecl}

pub cause_of-requires-clause-is_step : goal.cause_of-requires-clause-is_step
cause_of-requires-clause-is_step c =
    let here : c.loop-step.step-index < length c.args.list.now = omega arith in
    (c.requires.blocked (slice_index_or c.args.list.now c.loop-step.step-index (CutDecl 0 0)) (Contains-get_or c.args.list.now c.loop-step.step-index (CutDecl 0 0) here)).0

pub cause_of-requires-clause-blocked : goal.cause_of-requires-clause-blocked
cause_of-requires-clause-blocked c = λ e step.
    let here : c.loop-step.step-index < length c.args.list.now = omega arith in
    blocked_more (map answer_seen c.args.pairs.now.answers) (map answer_seen c.loop-step.pairs.answers) (stays_among c.args.pairs.now c.loop-step.pairs c.loop-step.invariant.stays) c.args.index.now e
    ((c.requires.blocked (slice_index_or c.args.list.now c.loop-step.step-index (CutDecl 0 0)) (Contains-get_or c.args.list.now c.loop-step.step-index (CutDecl 0 0) here)).1 e step)

pub loop-step-preserved : goal.loop-step-preserved
loop-step-preserved c =
    let here : c.loop-step.step-index < length c.args.list.now = omega arith in
    record {
      stays = stays_on c.args.pairs.now c.loop-step.pairs c.cause_of.new.pairs c.loop-step.invariant.stays c.in_ok-cause.ensures.stays;
      are = step_more c.loop-step.pairs c.cause_of.new.pairs c.in_ok-cause.ensures.stays c.args.index.now c.args.list.now c.loop-step.step-index (CutDecl 0 0) here c.in_ok-cause.cause c.in_ok-cause.ensures.cause
          c.loop-step.found.items c.push_blocked.new.found.items c.loop-step.invariant.are c.in_ok-push_blocked.ensures;
    }
