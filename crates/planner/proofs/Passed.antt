-- A plan where a candidate is passed that was taken out, or is queued again.
use Rattle.std.proofs.Common.{◌≡◌, ◌⊎◌, ℕ, ◌+◌, ◌<◌, ◌≤◌, List, [], ◌∷◌, ◌++◌, refl, sym, ap, ◌∙◌, subst, inl, inr, arith}
use Rattle.std.specs.Prelude.{slice_index}
use Rattle.std.proofs.lemmas.List.Elements.{Contains-append_left, Contains-append_right}
use Rattle.css_model.specs.Sheets.Limits.{max_bytes}
use Rattle.std.specs.List.{Contains}
use Rattle.css_model.specs.Cascade.Order.{Pair}
use Rattle.pending_laws.specs.Candidates as pending
use Rattle.pending_laws.specs.Ways.{mover}
use Rattle.pending_laws.specs.Candidates.{IsQueued, IsWatched}
use Rattle.queue_laws.proofs.ForCallers.{ascending_differ, in_scope}
use Rattle.queue_laws.specs.IndexedBarriers.{moves_candidate, AreBarriers, HasMovesCandidate, IsBarred, MayBeWatched, BarredMayBeWatched, BarriersStay}
use Rattle.queue_laws.specs.Known.{IsFollowed, IsKnown, IsQueuedOrWatched, NoneIsKnown, BlockedIsKnown, AnswersMayCome, WatchedIsKnown, MoreIsKnown}
use Rattle.queue_laws.specs.MarkNames.{pending_of}
use Rattle.queue_laws.specs.Remembering.{pairs_of, HasEntryOf}
use Rattle.planner.specs.Following.{AreBarredOff}
use Rattle.step_queue.specs.declared.watch_list.Entry.{Entry}
use Rattle.step_queue.specs.declared.candidate.Candidate.{Candidate}
use Rattle.step_queue.specs.Told.{candidate_told}
use Rattle.list_facts.proofs.Members.{Contains-cons_cases}
use Rattle.obstacles.specs.Blocking.{IsBlockedBy, Names}
use Rattle.obstacles.specs.declared.obstacle.Obstacle.{Obstacle}
use Rattle.order_laws.specs.Edits.{Edit}
use Rattle.indexed_sheet.specs.IndexedParts.{IndexedParts}
use Rattle.indexed_sheet.specs.MarkList.{item_ids_of, order_keys_of}
use Rattle.pending_laws.specs.Priorities.{named, first_priority, FirstPriorityIsFirst, NamesTellSteps}
use Rattle.planner_state.specs.PlanParts.{PlanParts}
use Rattle.planner_state.specs.State.{IsIndexed, IsQueuedBy, IsState}
use Rattle.step_laws.specs.declared.step.Step.{Step}
use Rattle.step_laws.specs.Free.{Answered, AreAmong}
use Rattle.step_laws.specs.Sizes.{size, Saves}
use Rattle.step_laws.specs.Steps.{IsStep}
use Rattle.plan_laws.specs.Cover.{IsSooner}
use Rattle.next_step.specs.Named.{IsStepOf, NamesNone}
use Rattle.plan_laws.specs.Barrier.Hindering.{Watched, Hindrance}

-- ---- A plan of the same indexed sheet

-- what goes with the indexed sheet stays while candidates and entries change
pub same_indexed : (source : List ℕ) (p : PlanParts) (candidates : List pending.Candidate) (entries : List Entry) → IsIndexed source p → IsIndexed source (record p { candidates = candidates; entries = entries })
same_indexed source p candidates entries b = record { plannable = b.plannable; marked = b.marked; covered = b.covered; homes = b.homes; weighed = b.weighed }

-- more may be queued
more_known : (answers : List Answered) (source : List ℕ) (b : IndexedParts) (candidates candidates' : List pending.Candidate) (watched : List Watched) (entries : List Entry) → ((l : pending.Candidate) → Contains candidates l → Contains candidates' l) →
    IsKnown answers source b candidates watched entries → IsKnown answers source b candidates' watched entries
more_known answers source b candidates candidates' watched entries more known = record {
  pending = record {
    item_ids = known.pending.item_ids;
    order_keys = known.pending.order_keys;
    pending = λ k e n is saves some. which n k (known.pending.pending k e n is saves some);
    hinders = known.pending.hinders;
    past = known.pending.past;
  };
  remembered = known.remembered;
}
  where
    which : (n : ℕ) (k : Step) → IsQueued (pending_of b candidates watched) n k ⊎ ((by : Hindrance) × Contains watched (record { priority = named (item_ids_of b.marks) n k; by = by })) →
        IsQueued (pending_of b candidates' watched) n k ⊎ ((by : Hindrance) × Contains watched (record { priority = named (item_ids_of b.marks) n k; by = by }))
    which n k (inl (l, among, candidates_it)) = inl (l, more l among, candidates_it)
    which n k (inr h) = inr h

-- ---- Answers

-- a plan stays so while answers come in
pub more_answers : AnswersMayCome → BarriersStay → (answers answers' : List Answered) (source : List ℕ) (p : PlanParts) (candidates : List pending.Candidate) → AreAmong answers answers' → IsQueuedBy answers source p candidates → IsQueuedBy answers' source p candidates
more_answers law stay answers answers' source p candidates among queued = record {
  indexed = queued.indexed;
  watched = queued.watched;
  known = law answers answers' source p.indexed candidates queued.watched p.entries among queued.known;
  barriers = stay answers answers' p.indexed p.entries p.entries (max_bytes + 1) p.candidates p.candidates p.barriers among (λ x h. h) (λ way item_id h. h) queued.barriers;
}

-- ---- Joins past barriers

-- All that is past barriers is on the watch list, or queued.
pub record IsBarredOff (answers : List Answered) (source : List ℕ) (p : PlanParts) (candidates : List pending.Candidate) : Type 0 where
  pub watched : List Watched
  pub known : IsKnown answers source p.indexed candidates watched p.entries
  pub off : (candidates' : List pending.Candidate) (own : List Watched) → ((l : pending.Candidate) → Contains p.candidates l → Contains candidates' l) → AreBarredOff source p candidates' (own ++ watched)

module _ (first : FirstPriorityIsFirst) (answers : List Answered) (source : List ℕ) (p : PlanParts) (short : size source p.indexed.items ≤ max_bytes + 1)
    (w : MayBeWatched answers source p.indexed p.entries (max_bytes + 1) p.candidates (IsBarred p.indexed p.barriers)) (watched : List Watched) where
  pub all_off : (candidates' : List pending.Candidate) (own : List Watched) → ((l : pending.Candidate) → Contains p.candidates l → Contains candidates' l) → AreBarredOff source p candidates' (own ++ (w.more ++ watched))
  all_off candidates' own stay k e n is saves some past = which (first source p.indexed.items (max_bytes + 1) short k e n saves (order_keys_of p.indexed.marks)) (w.all k e n is saves some past)
    where
      which : (IsSooner (named (order_keys_of p.indexed.marks) n k) (first_priority (max_bytes + 1)) → ⊥) →
          ((by : Hindrance) × Contains w.more (record { priority = named (item_ids_of p.indexed.marks) n k; by = by })) ⊎ HasMovesCandidate p.indexed (max_bytes + 1) p.candidates k →
          IsQueuedOrWatched p.indexed candidates' (own ++ (w.more ++ watched)) n k
      which late (inl (by, among)) =
          inr (
            by,
            Contains-append_right own (w.more ++ watched) (record { priority = named (item_ids_of p.indexed.marks) n k; by = by })
                (Contains-append_left w.more watched (record { priority = named (item_ids_of p.indexed.marks) n k; by = by }) among),
          )
      which late (inr (way, move, among)) =
          let item_id : ℕ = slice_index (item_ids_of p.indexed.marks) (mover way k) in
          let l : pending.Candidate = moves_candidate way (max_bytes + 1) item_id in inl (l, stay l among, inr (in_scope (item_ids_of p.indexed.marks) way item_id k move refl, late))

long_enough : (source : List ℕ) (p : PlanParts) → IsIndexed source p → size source p.indexed.items ≤ max_bytes + 1
long_enough source p indexed = let short = indexed.plannable.short in omega (arith, short)

pub barred_off : WatchedIsKnown → BarredMayBeWatched → FirstPriorityIsFirst → (answers : List Answered) (source : List ℕ) (p : PlanParts) (candidates : List pending.Candidate) → IsQueuedBy answers source p candidates → IsBarredOff answers source p candidates
barred_off watched_is may first answers source p candidates queued = record {
  watched = w.more ++ queued.watched;
  known = watched_is answers source p.indexed candidates w.more queued.watched p.entries (w.blocked candidates queued.watched) (w.remembered candidates queued.watched) queued.known;
  off = all_off first answers source p (long_enough source p queued.indexed) w queued.watched;
}
  where
    w : MayBeWatched answers source p.indexed p.entries (max_bytes + 1) p.candidates (IsBarred p.indexed p.barriers)
    w = may answers source p.indexed p.entries (max_bytes + 1) p.candidates p.barriers queued.indexed.marked (long_enough source p queued.indexed) queued.barriers

-- ---- One candidate

module _ (barriers_stay : BarriersStay) (source : List ℕ) (p : PlanParts) (candidate : Candidate) (answers : List Answered) (queued : IsQueuedBy answers source p (candidate_told candidate ∷ p.candidates)) (candidates' : List pending.Candidate)
    (more : (l : pending.Candidate) → Contains p.candidates l → Contains candidates' l) where
  -- barriers stay where more is on the watch list
  barriers_with : (entries' : List Entry) → ((x : Entry) → Contains p.entries x → Contains entries' x) → AreBarriers answers p.indexed entries' (max_bytes + 1) candidates' p.barriers
  barriers_with entries' further = barriers_stay answers answers p.indexed p.entries entries' (max_bytes + 1) p.candidates candidates' p.barriers (λ x h. h) further (λ way item_id h. more (moves_candidate way (max_bytes + 1) item_id) h) queued.barriers

  -- a candidate is queued again
  pub again_state : Contains candidates' (candidate_told candidate) → IsState answers source (record p { candidates = candidates' })
  again_state added = record {
    indexed = same_indexed source p candidates' p.entries queued.indexed;
    watched = queued.watched;
    known = more_known answers source p.indexed (candidate_told candidate ∷ p.candidates) candidates' queued.watched p.entries (λ l among. which l (Contains-cons_cases (candidate_told candidate) p.candidates l among)) queued.known;
    barriers = barriers_with p.entries (λ x h. h);
  }
    where
      which : (l : pending.Candidate) → (candidate_told candidate ≡ l) ⊎ Contains p.candidates l → Contains candidates' l
      which l (inl e) = subst (Contains candidates') e added
      which l (inr g) = more l g

  module _ (watched_is : WatchedIsKnown) (may : BarredMayBeWatched) (first : FirstPriorityIsFirst)
      (followed : (watched : List Watched) → AreBarredOff source p candidates' watched → IsFollowed source p.indexed (candidate_told candidate ∷ p.candidates) candidates' watched (candidate_told candidate)) where
    off : IsBarredOff answers source p (candidate_told candidate ∷ p.candidates)
    off = barred_off watched_is may first answers source p (candidate_told candidate ∷ p.candidates) queued

    -- no step has its priority
    pub none_state : NoneIsKnown → NamesNone source p.indexed candidate → IsState answers source (record p { candidates = candidates' })
    none_state law none = record {
      indexed = same_indexed source p candidates' p.entries queued.indexed;
      watched = off.watched;
      known = law answers source p.indexed (candidate_told candidate ∷ p.candidates) candidates' off.watched p.entries (candidate_told candidate) (followed off.watched (off.off candidates' [] more)) (λ k e n is saves some priority. none k e n is saves some (sym priority)) off.known;
      barriers = barriers_with p.entries (λ x h. h);
    }

    -- the step that has it goes past a barrier
    pub barred_state : MoreIsKnown → NamesTellSteps → ((l : pending.Candidate) → Contains p.candidates l → IsSooner l.priority (candidate_told candidate).priority → ⊥) → (k : Step) → IsStepOf source p.indexed candidate k → IsBarred p.indexed p.barriers k →
        IsState answers source (record p { candidates = candidates' })
    barred_state law tell none_before k names past = record {
      indexed = same_indexed source p candidates' p.entries queued.indexed;
      watched = w.more ++ queued.watched;
      known = law answers source p.indexed (candidate_told candidate ∷ p.candidates) candidates' w.more queued.watched p.entries p.entries (candidate_told candidate)
          (followed (w.more ++ queued.watched) (all_off first answers source p (long_enough source p queued.indexed) w queued.watched candidates' [] more)) own
          (w.blocked (candidate_told candidate ∷ p.candidates) queued.watched) (w.remembered (candidate_told candidate ∷ p.candidates) queued.watched) (λ x h. h) queued.known;
      barriers = barriers_with p.entries (λ x h. h);
    }
      where
        w : MayBeWatched answers source p.indexed p.entries (max_bytes + 1) p.candidates (IsBarred p.indexed p.barriers)
        w = may answers source p.indexed p.entries (max_bytes + 1) p.candidates p.barriers queued.indexed.marked (long_enough source p queued.indexed) queued.barriers

        one : (j : Step) (e : Edit) (n : ℕ) → IsStep p.indexed.items j e → (candidate_told candidate).priority ≡ named (order_keys_of p.indexed.marks) n j → k ≡ j
        one j e n is priority = (tell p.indexed.items (order_keys_of p.indexed.marks) queued.known.pending.order_keys.beside (ascending_differ (order_keys_of p.indexed.marks) queued.known.pending.order_keys.ascend) k j names.has.0 e names.has.1 is candidate.saving.0 n (names.priority ∙ priority)).1

        which : (j : Step) (e : Edit) (n : ℕ) → Saves source p.indexed.items e n → (candidate_told candidate).priority ≡ named (order_keys_of p.indexed.marks) n j →
            ((by : Hindrance) × Contains w.more (record { priority = named (item_ids_of p.indexed.marks) n j; by = by })) ⊎ HasMovesCandidate p.indexed (max_bytes + 1) p.candidates j →
            (by : Hindrance) × Contains (w.more ++ queued.watched) (record { priority = named (item_ids_of p.indexed.marks) n j; by = by })
        which j e n saves priority (inl (by, among)) = (by, Contains-append_left w.more queued.watched (record { priority = named (item_ids_of p.indexed.marks) n j; by = by }) among)
        which j e n saves priority (inr (way, move, among)) =
            let short = queued.indexed.plannable.short in
            let less : n < max_bytes + 1 = omega (arith, short, saves) in
            absurd (none_before (moves_candidate way (max_bytes + 1) (slice_index (item_ids_of p.indexed.marks) (mover way j))) among (subst (IsSooner (first_priority (max_bytes + 1))) (sym priority) (inl less)))

        own : (j : Step) (e : Edit) (n : ℕ) → IsStep p.indexed.items j e → Saves source p.indexed.items e n → 0 < n → (candidate_told candidate).priority ≡ named (order_keys_of p.indexed.marks) n j →
            (by : Hindrance) × IsWatched (pending_of p.indexed candidates' (w.more ++ queued.watched)) n j by
        own j e n is saves some priority = which j e n saves priority (w.all j e n is saves some (subst (IsBarred p.indexed p.barriers) (one j e n is priority) past))

    -- the step that has it is blocked
    pub blocked_state : BlockedIsKnown → (k : Step) (o : Obstacle) (entries' : List Entry) → IsStepOf source p.indexed candidate k → IsBlockedBy answers p.indexed.items k o →
        ((x : Entry) → Contains p.entries x → Contains entries' x) →
        ((by : Hindrance) → Names p.indexed.items o by → (q : Pair) → Contains (pairs_of by) q → HasEntryOf entries' q (candidate_told candidate).priority) → IsState answers source (record p { candidates = candidates'; entries = entries' })
    blocked_state law k o entries' names blocked further put =
        let own : Watched = record { priority = named (item_ids_of p.indexed.marks) candidate.saving.0 k; by = blocked.by } in
        record {
          indexed = same_indexed source p candidates' entries' queued.indexed;
          watched = own ∷ off.watched;
          known = law answers source p.indexed (candidate_told candidate ∷ p.candidates) candidates' off.watched p.entries entries' (candidate_told candidate) k names.has.0 candidate.saving.0 blocked.by
              (followed (own ∷ off.watched) (off.off candidates' (own ∷ []) more)) names.has.1
              (names.saves names.has.0 names.has.1) names.some (sym names.priority) (blocked.hinders names.has.0 names.has.1) further (put blocked.by blocked.names) off.known;
          barriers = barriers_with entries' further;
        }

-- The plan behind a candidate that is on the watch list and followed: first its entries change, then the candidates.
pub watch_state : BarriersStay → WatchedIsKnown → BarredMayBeWatched → FirstPriorityIsFirst → BlockedIsKnown → (source : List ℕ) (p q r : PlanParts) (candidate : Candidate) (k : Step) (o : Obstacle) → q ≡ record p { entries = q.entries } → r ≡ record q { candidates = r.candidates } →
    IsStepOf source p.indexed candidate k → ((x : Entry) → Contains p.entries x → Contains q.entries x) →
    ((by : Hindrance) → Names p.indexed.items o by → (pair : Pair) → Contains (pairs_of by) pair → HasEntryOf q.entries pair (candidate_told candidate).priority) →
    ((l : pending.Candidate) → Contains q.candidates l → Contains r.candidates l) →
    ((watched : List Watched) → AreBarredOff source q r.candidates watched → IsFollowed source q.indexed (candidate_told candidate ∷ q.candidates) r.candidates watched (candidate_told candidate)) →
    (answers : List Answered) → IsBlockedBy answers p.indexed.items k o → IsQueuedBy answers source p (candidate_told candidate ∷ p.candidates) → IsState answers source r
watch_state stay watched_is may first law source p q r candidate k o one two names more put queued_on followed answers blocked queued =
    let behind : (watched : List Watched) → AreBarredOff source p r.candidates watched → IsFollowed source p.indexed (candidate_told candidate ∷ p.candidates) r.candidates watched (candidate_told candidate) =
    (λ watched. subst (λ (x : PlanParts). AreBarredOff source x r.candidates watched → IsFollowed source x.indexed (candidate_told candidate ∷ x.candidates) r.candidates watched (candidate_told candidate)) one (followed watched)) in
    let still : (l : pending.Candidate) → Contains p.candidates l → Contains r.candidates l = subst (λ (x : PlanParts). (l : pending.Candidate) → Contains x.candidates l → Contains r.candidates l) one queued_on in
    let is : r ≡ record p { candidates = r.candidates; entries = q.entries } = two ∙ ap (λ (x : PlanParts). record x { candidates = r.candidates }) one in
    subst (IsState answers source) (sym is) (blocked_state stay source p candidate answers queued r.candidates still watched_is may first behind law k o q.entries names blocked more put)
