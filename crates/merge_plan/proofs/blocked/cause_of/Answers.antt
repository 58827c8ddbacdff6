use Rattle.std.proofs.Common.{map, subst}
use Rattle.merge_plan.proofs.Answering.{stays_among}
use Rattle.merge_plan.proofs.Never.{never_free}
use Rattle.merge_plan.proofs.blocked.cause_of.Goals as goal
use Rattle.order_laws.specs.Edits.{edited}
use Rattle.order_laws.specs.Reversed.{reversed}
use Rattle.plan_laws.proofs.ForCallers.{blocked_more}
use Rattle.sheet_order.specs.Allowing.{IsAllowed}
use Rattle.sheet_order.specs.declared.permitting.Allowed.{Allowed}
use Rattle.sheet_order.specs.Laws.{answer_seen}
use Rattle.step_laws.specs.Free.{IsBlocked, IsFree}

-- a step that is blocked is not free
pub unreachable-requires : goal.unreachable-requires
unreachable-requires c =
    let items = c.args.index.now in
    let answers = c.permitted.new.pairs.answers in
    let e = c.requires.is_step.0 in
    let step = c.requires.is_step.1 in
    let blocked : IsBlocked (map answer_seen answers) items e =
    blocked_more (map answer_seen c.args.pairs.now.answers) (map answer_seen answers) (stays_among c.args.pairs.now c.permitted.new.pairs c.permitted.ensures.stays) items e (c.requires.blocked e step) in
    let free : IsFree (map answer_seen answers) items e =
    c.allowed_steps_are_free.ensures answers items c.args.step.now e step (subst (λ (a : Allowed). IsAllowed answers (reversed items (edited e items) e.moved) a) c.in-Free.is (c.in_ok-allowed.ensures.allowed e step)) in
    never_free c.permitted.new.pairs items e c.are_true.ensures blocked free
