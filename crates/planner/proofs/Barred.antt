-- A plan whose barrier is set.
use Rattle.std.proofs.Common.{◌≡◌, ◌⊎◌, ℕ, zero, suc, ◌+◌, ◌<◌, ◌≤◌, List, [], ◌∷◌, ◌++◌, length, replicate, Some, None, refl, sym, ap, ◌∙◌, subst, inl, inr, arith}
use Rattle.std.specs.Prelude.{get_or, slice_get}
use Rattle.std.specs.List.{Contains}
use Rattle.std.proofs.lemmas.Option.{get_or_from_slice_get, slice_get-map, slice_get_within}
use Rattle.cascade_laws.proofs.ForCallers.{some-same}
use Rattle.css_model.specs.Sheets.Limits.{max_bytes}
use Rattle.pending_laws.specs.declared.way.Way.{Way}
use Rattle.pending_laws.specs.declared.way.Way.TheVariants.{Up, Down}
use Rattle.pending_laws.specs.Candidates as pending
use Rattle.queue_laws.specs.IndexedBarriers.{AreBarriers, HasBarrier, IsStanding, BarriersStay}
use Rattle.queue_laws.specs.MarkNames.{IsMarked}
use Rattle.queue_laws.specs.Remembering.{entry_of}
use Rattle.planner.specs.Barring.{HasMovesEntries, IsRaised, IsSet, MakesBarrier, MakesBarrierFor}
use Rattle.step_queue.specs.declared.barriers.Barrier.{Barrier}
use Rattle.step_queue.specs.declared.watch_list.Entry.{Entry}
use Rattle.step_queue.specs.BarrierParts.{barriers_on, BarrierParts}
use Rattle.list_facts.proofs.Members.{Contains-here, Contains-there}
use Rattle.list_facts.proofs.Options.{mapped}
use Rattle.obstacles.specs.Blocking.{IsBlockedBy}
use Rattle.obstacles.specs.declared.obstacle.Obstacle.{Obstacle}
use Rattle.indexed_sheet.specs.IndexedParts.{IndexedParts}
use Rattle.indexed_sheet.specs.declared.marks.Mark.{Mark}
use Rattle.indexed_sheet.specs.MarkList.{item_ids_of}
use Rattle.planner_state.specs.PlanParts.{PlanParts}
use Rattle.planner_state.specs.State.{IsQueuedBy}
use Rattle.step_laws.specs.declared.step.Step.{Step}
use Rattle.step_laws.specs.Free.{Answered}
use Rattle.plan_laws.specs.Barrier.Hindering.{OfPair}

-- the item id of an item is past
created_before : (b : IndexedParts) → IsMarked b → (n item_id : ℕ) → slice_get (item_ids_of b.marks) n ≡ Some item_id → item_id < b.next
created_before b marked n item_id created =
    let w : (m : Mark) × (slice_get b.marks n ≡ Some m) × (m.item_id ≡ item_id) = mapped (λ (m : Mark). m.item_id) (slice_get b.marks n) item_id (sym (slice_get-map (λ (m : Mark). m.item_id) b.marks n) ∙ created) in
    let before : (get_or b.marks n w.0).item_id < b.next = marked.0.past n w.0 (slice_get_within b.marks n w.0 w.1) in
    let is : get_or b.marks n w.0 ≡ w.0 = get_or_from_slice_get b.marks n w.0 w.0 w.1 in
    subst (λ (m : ℕ). m < b.next) w.2 (subst (λ (m : Mark). m.item_id < b.next) is before)

-- barriers are such where one more is set
barriers_set : BarriersStay → (answers : List Answered) (b : IndexedParts) (entries entries' : List Entry) (candidates : List pending.Candidate) (barriers barriers' : BarrierParts) (o : Obstacle) (way : Way) (item_id : ℕ) (stop : Barrier) → IsMarked b →
    ((x : Entry) → Contains entries x → Contains entries' x) → HasMovesEntries b.items entries' o way item_id → IsSet barriers barriers' way item_id stop → MakesBarrier answers b o way item_id stop →
    AreBarriers answers b entries (max_bytes + 1) candidates barriers → AreBarriers answers b entries' (max_bytes + 1) candidates barriers'
barriers_set stay answers b entries entries' candidates barriers barriers' o way item_id stop marked more put is_set makes old = record { past = past; each = each }
  where
    still : AreBarriers answers b entries' (max_bytes + 1) candidates barriers
    still = stay answers answers b entries entries' (max_bytes + 1) candidates candidates barriers (λ a h. h) more (λ v other h. h) old

    stands : HasBarrier answers b entries' (max_bytes + 1) way item_id stop
    stands = record {
      m = makes.m;
      place = makes.place;
      p = makes.p;
      q = makes.q;
      barrier = makes.barrier;
      apart = makes.apart;
      created = makes.created;
      at = makes.at;
      decl = makes.decl;
      under_moved = put (OfPair makes.p makes.q) makes.names makes.p (Contains-here makes.p (makes.q ∷ []));
      under_other = put (OfPair makes.p makes.q) makes.names makes.q (Contains-there makes.p (makes.q ∷ []) makes.q (Contains-here makes.q []));
    }

    past : (v : Way) → length (barriers_on v barriers') ≤ b.next
    past v = which (is_set v)
      where
        which : ((v ≡ way) × IsRaised (barriers_on v barriers) (barriers_on v barriers') item_id stop) ⊎ (barriers_on v barriers' ≡ barriers_on v barriers) → length (barriers_on v barriers') ≤ b.next
        which (inl r) = r.1.long b.next (old.past v) (created_before b marked makes.m item_id makes.created)
        which (inr same) = subst (λ (xs : List Barrier). length xs ≤ b.next) (sym same) (old.past v)

    each : (v : Way) (other : ℕ) (l : Barrier) → slice_get (barriers_on v barriers') other ≡ Some l → 0 < l.order_key → IsStanding answers b entries' (max_bytes + 1) candidates v other l
    each v other l at some = which (is_set v)
      where
        raised : v ≡ way → (slice_get (barriers_on v barriers) other ≡ Some l) ⊎ ((other ≡ item_id) × (l ≡ stop)) → IsStanding answers b entries' (max_bytes + 1) candidates v other l
        raised e (inl was) = still.each v other l was some
        raised e (inr is) =
            inl (subst (λ (u : Way). HasBarrier answers b entries' (max_bytes + 1) u other l) (sym e)
            (subst (λ (n : ℕ). HasBarrier answers b entries' (max_bytes + 1) way n l) (sym is.0) (subst (λ (n : Barrier). HasBarrier answers b entries' (max_bytes + 1) way item_id n) (sym is.1) stands)))

        which : ((v ≡ way) × IsRaised (barriers_on v barriers) (barriers_on v barriers') item_id stop) ⊎ (barriers_on v barriers' ≡ barriers_on v barriers) → IsStanding answers b entries' (max_bytes + 1) candidates v other l
        which (inl r) = raised r.0 (r.1.each other l at some)
        which (inr same) = still.each v other l (subst (λ (xs : List Barrier). slice_get xs other ≡ Some l) same at) some

-- one is set in its way
pub set_up : (old new : BarrierParts) (item_id : ℕ) (stop : Barrier) → IsRaised old.ups new.ups item_id stop → new.downs ≡ old.downs → IsSet old new Up item_id stop
set_up old new item_id stop raised same Up = inl (refl, raised)
set_up old new item_id stop raised same Down = inr same

pub set_down : (old new : BarrierParts) (item_id : ℕ) (stop : Barrier) → IsRaised old.downs new.downs item_id stop → new.ups ≡ old.ups → IsSet old new Down item_id stop
set_down old new item_id stop raised same Up = inr same
set_down old new item_id stop raised same Down = inl (refl, raised)

-- What stood for the steps of a plan still does.
pub set_queued : BarriersStay → (p p' : PlanParts) (k : Step) (o : Obstacle) (way : Way) (item_id : ℕ) (stop : Barrier) → p' ≡ record p { entries = p'.entries; barriers = p'.barriers } →
    ((x : Entry) → Contains p.entries x → Contains p'.entries x) → HasMovesEntries p.indexed.items p'.entries o way item_id → IsSet p.barriers p'.barriers way item_id stop → MakesBarrierFor p.indexed k o way item_id stop →
    (answers : List Answered) (source : List ℕ) (candidate : pending.Candidate) → IsBlockedBy answers p.indexed.items k o → IsQueuedBy answers source p (candidate ∷ p.candidates) → IsQueuedBy answers source p' (candidate ∷ p'.candidates)
set_queued stay p p' k o way item_id stop same more put is_set makes answers source candidate blocked queued = subst (λ (x : PlanParts). IsQueuedBy answers source x (candidate ∷ x.candidates)) (sym same) still
  where
    still : IsQueuedBy answers source (record p { entries = p'.entries; barriers = p'.barriers }) (candidate ∷ p.candidates)
    still = record {
      indexed = record { plannable = queued.indexed.plannable; marked = queued.indexed.marked; covered = queued.indexed.covered; homes = queued.indexed.homes; weighed = queued.indexed.weighed };
      watched = queued.watched;
      known = record {
        pending = queued.known.pending;
        remembered = λ a among k e n is saves some priority pair of. (let w = queued.known.remembered a among k e n is saves some priority pair of in (w.0, w.1, more (entry_of pair w.0) w.2));
      };
      barriers = barriers_set stay answers p.indexed p.entries p'.entries p.candidates p.barriers p'.barriers o way item_id stop queued.indexed.marked more put is_set (makes answers blocked) queued.barriers;
    }

-- ---- Room for a barrier

abbrev pub none : Barrier
none = record { order_key = 0; decl = 0 }

none_there : (k b : ℕ) (l : Barrier) → slice_get (replicate k none) b ≡ Some l → 0 < l.order_key → ⊥
none_there zero b l at some = let e : None ≡ Some l = at in cc
none_there (suc k) zero l at some = let e : 0 ≡ l.order_key = ap (λ (x : Barrier). x.order_key) (some-same at) in omega (arith, e, some)
none_there (suc k) (suc b) l at some = none_there k b l at some

-- of what is filled up with no barriers, all else was there
pub filled : (old : List Barrier) (k b : ℕ) (l : Barrier) → slice_get (old ++ replicate k none) b ≡ Some l → 0 < l.order_key → slice_get old b ≡ Some l
filled [] k b l at some = absurd (none_there k b l at some)
filled (x ∷ old) k zero l at some = at
filled (x ∷ old) k (suc b) l at some = filled old k b l at some
