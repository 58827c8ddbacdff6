-- A plan after a step that is taken in place.
use Rattle.std.proofs.Common.{◌≡◌, ℕ, ◌+◌, ◌<◌, ◌≤◌, Bool, true, List, length, sym, subst, arith}
use Rattle.std.specs.List.{Contains}
use Rattle.css_model.specs.Cascade.Order.{Pair}
use Rattle.css_model.specs.Sheets.Limits.{max_bytes, max_items}
use Rattle.pending_laws.specs.declared.way.Way.{Way}
use Rattle.pending_laws.specs.Candidates as pending
use Rattle.pending_laws.specs.Room.{SheetsHaveRoom}
use Rattle.queue_laws.specs.Beside.{HomesGoOn}
use Rattle.queue_laws.specs.IndexedBarriers.{AreBarriers, BarriersGoOver}
use Rattle.queue_laws.specs.Known.{IsTaken, TakenIsKnown}
use Rattle.queue_laws.specs.MarkNames.{IsMarked}
use Rattle.queue_laws.specs.Remembering.{untouched}
use Rattle.step_queue.specs.declared.watch_list.Entry.{Entry}
use Rattle.step_queue.specs.RuleWeights.{AreWeighed}
use Rattle.step_queue.specs.Told.{candidate_told}
use Rattle.step_queue.specs.BarrierParts.{barriers_on}
use Rattle.order_laws.specs.Edits.{is_moved, Edit, edited}
use Rattle.indexed_sheet.specs.Marking.{AreKept}
use Rattle.indexed_sheet.specs.MarkList.{item_ids_of, order_keys_of}
use Rattle.plan_laws.specs.Plannable.{IsPlannable}
use Rattle.rule_tables.specs.Tables.{Cover, TableParts, order_keyed}
use Rattle.step_laws.specs.declared.step.Step.{Step}
use Rattle.step_laws.specs.Free.{Answered}
use Rattle.step_laws.specs.Leading.{Takes}
use Rattle.step_laws.specs.Left.{StepsMakeOf, EachIsMadeOfItself}
use Rattle.step_laws.specs.Sizes.{Saves}
use Rattle.step_laws.specs.Steps.{IsStep}
use Rattle.planner_state.specs.Enqueuing.{AreEnqueued, StayBefore}
use Rattle.planner_state.specs.PlanParts.{PlanParts}
use Rattle.planner_state.specs.State.{IsState}
use Rattle.planner_state.specs.Reactivating.{IsActive}
use Rattle.planner_state.specs.Barriers.{IsFromOtherItem, SomeStay}
use Rattle.planner_state.proofs.Plannable.{plannable_after, saved_by}
use Rattle.planner_state.proofs.Starting.{home_there, candidate_there}

-- what was done to a plan: its priorities were reactivated, its tables were reindexed, its step was taken, and its items were enqueued and weighed
pub record IsDone (source : List ℕ) (p p' : PlanParts) (reactivated : List pending.Candidate) (reindexed : TableParts) (put : Bool) (k : Step) (e : Edit) : Type 0 where
  pub items : p'.indexed.items ≡ edited e p.indexed.items
  pub marked : IsMarked p'.indexed
  pub kept : AreKept p.indexed p'.indexed e
  pub later : p.indexed.next ≤ p'.indexed.next
  pub queued : (l : pending.Candidate) → Contains p.candidates l → Contains reactivated l
  pub active : (q : Pair) → is_moved e.moved q ≡ true → IsActive p.entries reactivated q.selector q.decl
  pub covered : Cover p.tables (order_keyed p.indexed.items (order_keys_of p.indexed.marks)) → Cover p'.tables (order_keyed p'.indexed.items (order_keys_of p'.indexed.marks))
  pub enqueued : AreEnqueued put p.indexed.next p'.indexed.marks p'.indexed.items p'.tables p'.candidates p'.homes
  pub stay : StayBefore p.indexed.next reindexed reactivated p.homes p'.tables p'.candidates p'.homes
  pub entries : p'.entries ≡ p.entries
  pub barriers : (way : Way) → SomeStay (barriers_on way p.barriers) (barriers_on way p'.barriers) (IsFromOtherItem p.indexed.marks k)
  pub weighed : AreWeighed source p.indexed.items (item_ids_of p.indexed.marks) p.weights → AreWeighed source p'.indexed.items (item_ids_of p'.indexed.marks) p'.weights

pub taken_state : TakenIsKnown → BarriersGoOver → SheetsHaveRoom → HomesGoOn → StepsMakeOf → EachIsMadeOfItself → (answers : List Answered) (source : List ℕ) (p p' : PlanParts) (reactivated : List pending.Candidate) (reindexed : TableParts) (put : Bool) (k : Step) (e : Edit) →
    IsStep p.indexed.items k e → length p.indexed.items + 1 < max_items → IsDone source p p' reactivated reindexed put k e → Takes answers source p.indexed.items (edited e p.indexed.items) → IsState answers source p → IsState answers source p'
taken_state taken over room homes make itself answers source p p' reactivated reindexed put k e is few d takes s = record {
  indexed = record {
    plannable = subst (IsPlannable source) (sym d.items) (plannable_after make itself source p.indexed.items s.indexed.plannable answers (edited e p.indexed.items) takes);
    marked = d.marked;
    covered = d.covered s.indexed.covered;
    homes = homes p.indexed p'.indexed e p.homes p'.homes s.indexed.marked d.kept s.indexed.homes d.stay.kept (home_there put p.indexed.next p'.indexed d.marked p'.tables p'.candidates p'.homes d.enqueued);
    weighed = d.weighed s.indexed.weighed;
  };
  watched = untouched e s.watched;
  known = (let saved : (n : ℕ) × Saves source p.indexed.items e n = saved_by answers source p.indexed.items e takes in
      taken answers source p.indexed p'.indexed k e (max_bytes + 1) saved.0 p.candidates p'.candidates s.watched p.entries p'.entries s.indexed.marked is s.indexed.plannable.sound (room p.indexed.items few)
      (let short = s.indexed.plannable.short in omega (arith, short)) saved.1 changed s.known);
  barriers = subst (λ (xs : List Entry). AreBarriers answers p'.indexed xs (max_bytes + 1) p'.candidates p'.barriers) (sym d.entries)
      (over answers p.indexed p'.indexed k e p.entries (max_bytes + 1) p.candidates p'.candidates p.barriers p'.barriers s.indexed.marked is d.kept d.items d.later changed.reactivated changed.queued (λ way. (let l = (d.barriers way).long in omega (arith, l))) (λ way. (d.barriers way).left) s.barriers);
}
  where
    changed : IsTaken p.indexed p'.indexed e (max_bytes + 1) p.candidates p'.candidates p.entries p'.entries
    changed = record {
      items = d.items;
      marked = d.marked;
      kept = d.kept;
      later = d.later;
      queued = λ l among. d.stay.queued l (d.queued l among);
      new = candidate_there put p.indexed.next p'.indexed d.marked p'.tables p'.candidates p'.homes d.enqueued;
      reactivated = λ q c moved among. d.stay.queued (candidate_told c) (d.active q moved c among);
      more = λ x among. subst (λ (xs : List Entry). Contains xs x) (sym d.entries) among;
    }
