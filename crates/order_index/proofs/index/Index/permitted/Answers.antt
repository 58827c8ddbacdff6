use Rattle.std.proofs.Common.{sym, ap₂, ◌∙◌, subst}
use Rattle.order_index.proofs.Afterwards.{step_at}
use Rattle.order_index.proofs.Listing.{allowed_for}
use Rattle.order_index.proofs.Starting.{moved_at_first}
use Rattle.order_index.proofs.index.Index.permitted.Goals as goal
use Rattle.order_index.specs.Told.{reversed_by}
use Rattle.sheet_order.specs.Narrow.{CanBePlanned}

pub outward-requires-clause-planned : goal.outward-requires-clause-planned
outward-requires-clause-planned c = subst CanBePlanned (sym (c.find_window-change.ensures.items ∙ c.self.view_is)) c.requires.planned

pub outward-requires-clause-moved : goal.outward-requires-clause-moved
outward-requires-clause-moved c =
    moved_at_first c.listed_stands_last.ensures c.read_selectors_keep_the_limits.ensures c.args.self.now c.requires.planned c.args.step.now (step_at c.args.self.now c.args.step.now c.requires.is_step) c.find_window-change.result.window
    c.find_window-change.result.step (c.find_window-change.ensures.items ∙ c.self.view_is) c.find_window-change.ensures.step c.in_ok-moving.moving (c.in_ok-moving.ensures.pairs ∙ c.in_ok-list.ensures)
    (c.in_ok-moving.ensures.known c.find_window-change.result.window) c.in_ok-moving.ensures.mask

pub returns-clause-allowed : goal.returns-clause-allowed
returns-clause-allowed c =
    allowed_for c.outward.result c.outward.new.pairs.answers c.args.self.now c.args.step.now (reversed_by c.find_window-change.result.window.items.now c.find_window-change.result.step)
    (ap₂ reversed_by (c.find_window-change.ensures.items ∙ c.self.view_is) c.find_window-change.ensures.step) c.outward.ensures.told
