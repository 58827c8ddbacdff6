use Rattle.std.proofs.Common.{◌≡◌, List, [], subst}
use Rattle.std.specs.List.{Contains}
use Rattle.list_facts.proofs.Members.{Contains-nil}
use Rattle.rule_tables.specs.Digests.{decl_digest, selector_digest}
use Rattle.step_queue.specs.declared.watch_list.Entry.{Entry}
use Rattle.step_queue.specs.Told.{candidate_told}
use Rattle.step_queue.specs.WatchLists.{entry}
use Rattle.planner_state.specs.Reactivating as spec
use Rattle.planner_state.proofs.Moving.{moved_from, at_one, at_either}
use Rattle.planner_state.proofs.reactivating.reactivate_moved.Goals as goal

pub returns-then-is_empty-clause-active : goal.returns-then-is_empty-clause-active
returns-then-is_empty-clause-active c = λ e is p moved l among.
    let empty : c.args.watched.now ≡ [] = c.is_empty.ensures.0 c.if-is_empty.true in
    absurd (Contains-nil (entry (selector_digest p.selector) (decl_digest p.decl) l) (subst (λ (es : List Entry). Contains es (entry (selector_digest p.selector) (decl_digest p.decl) l)) empty among))

pub returns-then-first-last-clause-active : goal.returns-then-first-last-clause-active
returns-then-first-last-clause-active c = λ e is p moved l among.
    let w = moved_from c.steps_rearrange.ensures c.args.items.now c.args.step.now e is p moved in
    c.in_ok-reactivate_rule.ensures.active w.0 (at_one c.args.items.now w.0 (spec.first_out c.args.step.now) (spec.last_out c.args.step.now) c.moved_out-first.result.0 c.moved_out-first.result.1 c.moved_out-first.ensures.first c.moved_out-first.ensures.last c.if-first-last.true w.1)
    p.selector p.decl w.2 w.3 l among

pub returns-clause-active : goal.returns-clause-active
returns-clause-active c = λ e is p moved l among.
    let w = moved_from c.steps_rearrange.ensures c.args.items.now c.args.step.now e is p moved in
    at_either c.args.items.now w.0 (spec.first_out c.args.step.now) (spec.last_out c.args.step.now) c.moved_out-first.result.0 c.moved_out-first.result.1 c.moved_out-first.ensures.first c.moved_out-first.ensures.last
    (λ at. c.in_ok-reactivate_rule-2.ensures.stay (candidate_told l) (c.in_ok-reactivate_rule.ensures.active w.0 at p.selector p.decl w.2 w.3 l among))
    (λ at. c.in_ok-reactivate_rule-2.ensures.active w.0 at p.selector p.decl w.2 w.3 l among) w.1
