use Rattle.std.proofs.Common.{List, map, subst, sym}
use Rattle.std.specs.Prelude.{IfNone, IfOk, IfSome}
use Rattle.css_model.specs.declared.sheet.Item.{Item}
use Rattle.obstacles.specs.Blocking.{IsBlockedBy}
use Rattle.order_laws.specs.Edits.{Edit}
use Rattle.sheet_order.specs.Laws.{answer_seen}
use Rattle.sheet_order.specs.Narrow.{CanBePlanned}
use Rattle.step_laws.specs.Free.{IsFree}
use Rattle.step_laws.specs.Steps.{HasStep, IsStep}
use Rattle.step_obstacles.proofs.step_search.step_obstacle.Goals as goal

pub obstacle_in-requires-clause-is_step : goal.obstacle_in-requires-clause-is_step
obstacle_in-requires-clause-is_step c = subst (λ (items : List Item). HasStep items c.args.step.now) (sym c.items-items.ensures) c.requires.is_step

pub obstacle_in-requires-clause-planned : goal.obstacle_in-requires-clause-planned
obstacle_in-requires-clause-planned c = subst CanBePlanned (sym c.items-items.ensures) c.requires.planned

pub returns-clause-free : goal.returns-clause-free
returns-clause-free c =
    subst (λ (items : List Item). IfOk c.obstacle_in.result (λ found. IfNone found ((e : Edit) → IsStep items c.args.step.now e → IsFree (map answer_seen c.obstacle_in.new.pairs.answers) items e)))
    c.items-items.ensures c.obstacle_in.ensures.free

pub returns-clause-blocked : goal.returns-clause-blocked
returns-clause-blocked c =
    subst (λ (items : List Item). IfOk c.obstacle_in.result (λ found. IfSome found (λ o. IsBlockedBy (map answer_seen c.obstacle_in.new.pairs.answers) items c.args.step.now o)))
    c.items-items.ensures c.obstacle_in.ensures.blocked
