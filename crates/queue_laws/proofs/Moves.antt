-- What a plan knows after each of its moves.
use Rattle.std.proofs.Common.{◌≡◌, ◌⊎◌, ℕ, ◌<◌, ◌≤◌, List, [], ◌∷◌, ◌++◌, Some, refl, sym, subst, inl, inr}
use Rattle.std.specs.Prelude.{slice_get}
use Rattle.std.specs.List.{Contains}
use Rattle.std.proofs.lemmas.List.Elements.{Contains-append_cases, Contains-append_right}
use Rattle.css_model.specs.Cascade.Order.{Pair}
use Rattle.css_model.specs.declared.sheet.Item.{Item}
use Rattle.css_model.specs.Sheets.Sound.{IsSound}
use Rattle.pending_laws.specs.Behind.{GoesOn}
use Rattle.pending_laws.specs.Candidates.{Candidate, PendingState, StartIsPending, PendingGoesOver, PendingMayChange, IsPending, IsQueued, IsWatched, ChangesHere}
use Rattle.pending_laws.specs.Scopes.{Owned}
use Rattle.pending_laws.specs.Priorities.{named, first_priority}
use Rattle.queue_laws.specs.Known.{IsKnown, IsFollowed, IsTaken}
use Rattle.queue_laws.specs.MarkNames.{MarksAreNames, KeptAreRenamed, pending_of, IsMarked}
use Rattle.queue_laws.specs.Reindexed.{AreRenamed, IsReindexed, TakenGoesOver}
use Rattle.queue_laws.specs.Passed.{IsQueuedOn, IsBlockedHere, PassedIsChange, NoneIsPassed, BlockedIsPassed, MoreIsPassed}
use Rattle.queue_laws.specs.Remembering.{AreRemembered, AreNowRemembered, HasEntryOf, MoreAreRemembered, OneMoreIsRemembered, RememberedGoesOver, RememberedIsReactivated, UntouchedIsKept, pairs_of, untouched}
use Rattle.step_queue.specs.declared.watch_list.Entry.{Entry}
use Rattle.list_facts.proofs.Members.{Contains-nil}
use Rattle.order_laws.specs.Edits.{Edit, edited}
use Rattle.indexed_sheet.specs.IndexedParts.{IndexedParts}
use Rattle.indexed_sheet.specs.MarkList.{item_ids_of, order_keys_of}
use Rattle.plan_laws.specs.Cover.{Priority}
use Rattle.step_laws.specs.declared.step.Step.{Step}
use Rattle.step_laws.specs.Free.{Answered, AreAmong}
use Rattle.step_laws.specs.Sizes.{size, Saves}
use Rattle.step_laws.specs.Steps.{IsStep, first_item, last_item}
use Rattle.plan_laws.specs.Barrier.Hindering.{Hindrance, Hinders, HasRoom, IsUntouched, Watched}
use Rattle.plan_laws.specs.Barrier.Renumbering.{new_number, renumbered}

pub start : MarksAreNames → StartIsPending → (answers : List Answered) (source : List ℕ) (b : IndexedParts) (candidates : List Candidate) (bound : ℕ) → IsMarked b → size source b.items ≤ bound →
    ((n item_id : ℕ) → slice_get (item_ids_of b.marks) n ≡ Some item_id → Contains candidates (record { priority = first_priority bound; owner = item_id; scope = Owned })) → IsKnown answers source b candidates [] []
start names start_pending answers source b candidates bound marked long queued = record {
  pending = start_pending answers source b.items (pending_of b candidates []) bound (names b marked).0 (names b marked).1 long refl queued;
  remembered = λ a among k e n is saves some same p pair. absurd (Contains-nil a among);
}

pub more_answers : PendingMayChange → (answers answers' : List Answered) (source : List ℕ) (b : IndexedParts) (candidates : List Candidate) (watched : List Watched) (entries : List Entry) → AreAmong answers answers' →
    IsKnown answers source b candidates watched entries → IsKnown answers' source b candidates watched entries
more_answers may_change answers answers' source b candidates watched entries among known = record {
  pending = may_change answers answers' source b.items (pending_of b candidates watched) (pending_of b candidates watched) among
      (record { same_order_keys = refl; same_item_ids = refl; same_next = refl; pending = λ k e n is saves some x. x; watched = λ a x. inl x }) known.pending;
  remembered = known.remembered;
}

-- ---- A priority is passed

queued_on : (source : List ℕ) (b : IndexedParts) (candidates candidates' : List Candidate) (watched watched' : List Watched) (l : Candidate) → IsFollowed source b candidates candidates' watched' l → IsQueuedOn source b.items (pending_of b candidates watched) (pending_of b candidates' watched') l
queued_on source b candidates candidates' watched watched' l f = record { same_order_keys = refl; same_item_ids = refl; same_next = refl; candidates = f.others; later = f.later }

pub none_known : NoneIsPassed → PassedIsChange → PendingMayChange → (answers : List Answered) (source : List ℕ) (b : IndexedParts) (candidates candidates' : List Candidate) (watched : List Watched) (entries : List Entry) (l : Candidate) → IsFollowed source b candidates candidates' watched l →
    ((k : Step) (e : Edit) (n : ℕ) → IsStep b.items k e → Saves source b.items e n → 0 < n → l.priority ≡ named (order_keys_of b.marks) n k → ⊥) →
    IsKnown answers source b candidates watched entries → IsKnown answers source b candidates' watched entries
none_known none_passed change may_change answers source b candidates candidates' watched entries l f none known = record {
  pending = may_change answers answers source b.items (pending_of b candidates watched) (pending_of b candidates' watched) (λ x among. among)
      (change answers source b.items (pending_of b candidates watched) (pending_of b candidates' watched) l
      (none_passed answers source b.items (pending_of b candidates watched) (pending_of b candidates' watched) l (queued_on source b candidates candidates' watched watched l f) none refl)) known.pending;
  remembered = known.remembered;
}

module _ (blocked_passed : BlockedIsPassed) (change : PassedIsChange) (may_change : PendingMayChange) (one_more : OneMoreIsRemembered) (answers : List Answered) (source : List ℕ) (b : IndexedParts)
    (candidates candidates' : List Candidate) (watched : List Watched) (entries entries' : List Entry) (l : Candidate) (k : Step) (e : Edit) (n : ℕ) (by : Hindrance)
    (f : IsFollowed source b candidates candidates' (record { priority = named (item_ids_of b.marks) n k; by = by } ∷ watched) l) (is : IsStep b.items k e)
    (saves : Saves source b.items e n) (some : 0 < n) (priority : l.priority ≡ named (order_keys_of b.marks) n k) (hinders : Hinders answers b.items e by) (more : (x : Entry) → Contains entries x → Contains entries' x)
    (here : (p : Pair) → Contains (pairs_of by) p → HasEntryOf entries' p l.priority) (known : IsKnown answers source b candidates watched entries) where
  abbrev watched' : List Watched
  watched' = record { priority = named (item_ids_of b.marks) n k; by = by } ∷ watched

  abbrev before : PendingState
  before = pending_of b candidates watched

  abbrev after : PendingState
  after = pending_of b candidates' watched'

  changed : ChangesHere answers source b.items before after
  changed = change answers source b.items before after l (blocked_passed answers answers source b.items before after l known.pending (queued_on source b candidates candidates' watched watched' l f) k e n by is saves some priority hinders refl)

  pub blocked_known : IsKnown answers source b candidates' watched' entries'
  blocked_known = record {
    pending = may_change answers answers source b.items before after (λ x among. among) changed known.pending;
    remembered = one_more answers source b.items before after entries entries' known.pending refl refl k e n by is saves some refl more (λ p pair. subst (λ (t : Priority). HasEntryOf entries' p t) priority (here p pair)) known.remembered;
  }

pub more_known : MoreIsPassed → PassedIsChange → PendingMayChange → MoreAreRemembered → (answers : List Answered) (source : List ℕ) (b : IndexedParts) (candidates candidates' : List Candidate) (more watched : List Watched)
    (entries entries' : List Entry) (l : Candidate) → IsFollowed source b candidates candidates' (more ++ watched) l →
    ((k : Step) (e : Edit) (n : ℕ) → IsStep b.items k e → Saves source b.items e n → 0 < n → l.priority ≡ named (order_keys_of b.marks) n k →
    (by : Hindrance) × IsWatched (pending_of b candidates' (more ++ watched)) n k by) →
    ((a : Watched) → Contains more a → IsBlockedHere answers source b.items (pending_of b candidates watched) a) → AreNowRemembered source b.items (pending_of b candidates watched) more entries' →
    ((x : Entry) → Contains entries x → Contains entries' x) →
    IsKnown answers source b candidates watched entries → IsKnown answers source b candidates' (more ++ watched) entries'
more_known passed change may_change remember answers source b candidates candidates' more watched entries entries' l f own blocked now further known =
    let before : PendingState = pending_of b candidates watched in
    let after : PendingState = pending_of b candidates' (more ++ watched) in
    record {
      pending = may_change answers answers source b.items before after (λ x among. among)
          (change answers source b.items before after l (passed answers source b.items before after l more (queued_on source b candidates candidates' watched (more ++ watched) l f) own refl blocked)) known.pending;
      remembered = remember source b.items before after more entries entries' refl refl refl further now known.remembered;
    }

pub watched_known : PendingMayChange → MoreAreRemembered → (answers : List Answered) (source : List ℕ) (b : IndexedParts) (candidates : List Candidate) (more watched : List Watched) (entries : List Entry) →
    ((a : Watched) → Contains more a → IsBlockedHere answers source b.items (pending_of b candidates watched) a) → AreNowRemembered source b.items (pending_of b candidates watched) more entries →
    IsKnown answers source b candidates watched entries → IsKnown answers source b candidates (more ++ watched) entries
watched_known may_change remember answers source b candidates more watched entries blocked now known = record {
  pending = may_change answers answers source b.items (pending_of b candidates watched) (pending_of b candidates (more ++ watched)) (λ x among. among)
      (record { same_order_keys = refl; same_item_ids = refl; same_next = refl; pending = still; watched = new }) known.pending;
  remembered = remember source b.items (pending_of b candidates watched) (pending_of b candidates (more ++ watched)) more entries entries refl refl refl (λ x among. among) now known.remembered;
}
  where
    still : (k : Step) (e : Edit) (n : ℕ) → IsStep b.items k e → Saves source b.items e n → 0 < n →
        IsQueued (pending_of b candidates watched) n k ⊎ ((by : Hindrance) × IsWatched (pending_of b candidates watched) n k by) → IsQueued (pending_of b candidates (more ++ watched)) n k ⊎ ((by : Hindrance) × IsWatched (pending_of b candidates (more ++ watched)) n k by)
    still k e n is saves some (inl queued) = inl queued
    still k e n is saves some (inr (by, among)) = inr (by, Contains-append_right more watched (record { priority = named (item_ids_of b.marks) n k; by = by }) among)

    new : (a : Watched) → Contains (more ++ watched) a → Contains watched a
        ⊎ ((first_item a.priority.step < b.next) × (last_item a.priority.step < b.next)
        × ((k : Step) (e : Edit) (n : ℕ) → IsStep b.items k e → Saves source b.items e n → 0 < n → a.priority ≡ named (item_ids_of b.marks) n k → Hinders answers b.items e a.by))
    new a among = elim (Contains-append_cases more watched a among) [
      | inl h ↦ inr (blocked a h)
      | inr h ↦ inl h
    ]

-- ---- A step is taken

module _ (kept_renamed : KeptAreRenamed) (kept : UntouchedIsKept) (reactivated : RememberedIsReactivated) (remembered_on : RememberedGoesOver) (taken_over : TakenGoesOver) (goes_over : PendingGoesOver)
    (answers : List Answered) (source : List ℕ) (b b' : IndexedParts) (j : Step) (d : Edit) (bound saved : ℕ) (candidates candidates' : List Candidate) (watched : List Watched) (entries entries' : List Entry)
    (marked : IsMarked b) (step : IsStep b.items j d) (sound : IsSound source b.items) (room : HasRoom b.items) (long : size source b.items ≤ bound) (saves : Saves source b.items d saved)
    (taken : IsTaken b b' d bound candidates candidates' entries entries') (known : IsKnown answers source b candidates watched entries) where
  abbrev old : PendingState
  old = pending_of b candidates watched

  abbrev new : PendingState
  new = pending_of b' candidates' (untouched d watched)

  names : AreRenamed b.items d old new
  names = kept_renamed b b' d marked taken.marked taken.kept taken.items taken.later candidates candidates' watched (untouched d watched)

  reindexed : IsReindexed source b.items d bound old new
  reindexed = record {
    names = names;
    candidates = taken.queued;
    new = taken.new;
    reactivated = λ a among. which a (reactivated answers source b.items d old new entries known.pending names known.remembered taken.reactivated a among);
    untouched = λ a among. (kept d watched a).0 among;
  }
    where
      which : (a : Watched) → Contains (untouched d watched) a
          ⊎ ((k : Step) (e : Edit) (n : ℕ) → GoesOn b.items d k e → Saves source b.items e n → 0 < n → a.priority ≡ named old.item_ids n k → IsQueued new n (renumbered (new_number d b.items) k)) →
          (IsUntouched d a.by × Contains (untouched d watched) a)
          ⊎ ((k : Step) (e : Edit) (n : ℕ) → GoesOn b.items d k e → Saves source b.items e n → 0 < n → a.priority ≡ named old.item_ids n k → IsQueued new n (renumbered (new_number d b.items) k))
      which a (inl stays) = inl (((kept d watched a).0 stays).1, stays)
      which a (inr reactivates) = inr reactivates

  abbrev OnItems : List Item → Type 0
  OnItems items = IsPending answers source items new × AreRemembered source items new entries'

  both : OnItems (edited d b.items)
  both = (
    goes_over answers source b.items j d old new step sound room (taken_over source b.items d bound saved old new long saves reindexed) known.pending,
    remembered_on answers source b.items j d old new entries entries' step sound room known.pending names (λ a among. ((kept d watched a).0 among).0) taken.more known.remembered,
  )

  pub taken_known : IsKnown answers source b' candidates' (untouched d watched) entries'
  taken_known = let w : OnItems b'.items = subst OnItems (sym taken.items) both in record { pending = w.0; remembered = w.1 }
