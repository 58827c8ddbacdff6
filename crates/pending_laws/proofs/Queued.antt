-- What a plan holds in code, behind a step and while it works.
use Rattle.std.proofs.Common.{◌≡◌, ◌⊎◌, ℕ, ◌<◌, ◌≤◌, Bool, true, false, List, [], ◌∷◌, Some, length, refl, sym, ap, ◌∙◌, subst, inl, inr, arith}
use Rattle.std.specs.Prelude.{nat_lt, slice_get, slice_index}
use Rattle.std.specs.List.{Contains}
use Rattle.std.proofs.lemmas.Bool.{ltb-true, ltb-false}
use Rattle.std.proofs.lemmas.Option.{slice_get-get_or}
use Rattle.css_model.specs.declared.sheet.Item.{Item}
use Rattle.css_model.specs.Sheets.Sound.{IsSound}
use Rattle.list_facts.proofs.Members.{Contains-here, Contains-nil, Contains-cons_cases}
use Rattle.order_laws.specs.Edits.{Edit, edited}
use Rattle.plan_laws.specs.Cover.{Priority, IsSooner, IsCovered, FirstIsNext, NoneWaitsIsDone}
use Rattle.step_laws.specs.declared.step.Step.{Step}
use Rattle.step_laws.specs.declared.step.Step.TheVariants.{CutDecl, CutSel, JoinSelUp, JoinSelDown, JoinDeclUp, JoinDeclDown, Share}
use Rattle.step_laws.specs.Free.{Answered, AreAmong, IsFree, IsBlocked}
use Rattle.step_laws.specs.Leading.{Takes, IsDone}
use Rattle.step_laws.specs.Sizes.{size, Saves}
use Rattle.step_laws.specs.Steps.{IsStep, first_item, last_item}
use Rattle.plan_laws.specs.Barrier.Hindering.{Hindrance, Hinders, HinderedIsBlocked, HasRoom, IsUntouched, Watched, priority_of}
use Rattle.plan_laws.specs.Barrier.Renumbering.{Leaves, new_number, renumbered, IsOfOthers}
use Rattle.plan_laws.specs.Barrier.SideBySide.{HasCome}
use Rattle.pending_laws.specs.Before.{HasBeen, StepsHaveBeen}
use Rattle.pending_laws.specs.Behind.{GoesOn, HinderedGoesOn}
use Rattle.pending_laws.specs.ItemIds.{AreItemIds, AreCreatedBehind, owner}
use Rattle.pending_laws.specs.Candidates.{Candidate, PendingState, IsCandidateOf, IsQueued, IsWatched, IsPending, GoesOver, ChangesHere, OrderKeysStay}
use Rattle.pending_laws.specs.Scopes.{Scope, Alone, Owned, Ups, Downs, IsUp, IsDownward, IsInScope}
use Rattle.pending_laws.specs.Priorities.{named, AreOrderKeys, first_priority, FirstPriorityIsFirst}
use Rattle.pending_laws.proofs.Been.{renumbers}
use Rattle.pending_laws.proofs.Created.{within, owner_stays, old_has_come, old_owners_have_come, later_is_one}
use Rattle.pending_laws.proofs.PendingSteps.{more_hinder}
use Rattle.pending_laws.proofs.Names.{same_name, again, new_first, new_last, not_itself, not_sooner, sooner_order_keyed}

-- ---- At the start

pub start_pending : FirstPriorityIsFirst → (answers : List Answered) (source : List ℕ) (items : List Item) (h : PendingState) (bound : ℕ) → AreItemIds items h.item_ids h.next → AreOrderKeys items h.order_keys → size source items ≤ bound →
    h.watched ≡ [] → ((n b : ℕ) → slice_get h.item_ids n ≡ Some b → Contains h.candidates (record { priority = first_priority bound; owner = b; scope = Owned })) → IsPending answers source items h
start_pending first answers source items h bound item_ids order_keys long none candidates = record {
  item_ids = item_ids;
  order_keys = order_keys;
  pending = λ k e n is saves some. inl (
    record { priority = first_priority bound; owner = slice_index h.item_ids (owner h.item_ids k); scope = Owned },
    candidates (owner h.item_ids k) (slice_index h.item_ids (owner h.item_ids k)) (at k e is),
    inr (refl, first source items bound long k e n saves h.order_keys),
  );
  hinders = λ k e n by is saves some watched. absurd (nothing (record { priority = named h.item_ids n k; by = by }) watched);
  past = λ a watched. absurd (nothing a watched);
}
  where
    at : (k : Step) (e : Edit) → IsStep items k e → slice_get h.item_ids (owner h.item_ids k) ≡ Some (slice_index h.item_ids (owner h.item_ids k))
    at k e is =
        let w : (first_item k < length items) × (last_item k < length items) = within items k e is in
        let less : owner h.item_ids k < length items = later_is_one h.item_ids (first_item k) (last_item k) (λ n. n < length items) w.0 w.1 in
        slice_get-get_or h.item_ids (owner h.item_ids k) 0 (let b = item_ids.beside in omega (arith, b, less))

    nothing : (a : Watched) → Contains h.watched a → ⊥
    nothing a watched = Contains-nil a (subst (λ (xs : List Watched). Contains xs a) none watched)

-- ---- What stands for a step does so after an edit

up_again : (f : ℕ → ℕ) (k : Step) → IsUp k → IsUp (renumbered f k)
up_again f (JoinSelUp x y) up = tt
up_again f (JoinDeclUp x y) up = tt
up_again f (CutDecl n i) up = absurd up
up_again f (CutSel n i) up = absurd up
up_again f (JoinSelDown x y) up = absurd up
up_again f (JoinDeclDown x y) up = absurd up
up_again f (Share x y) up = absurd up

down_again : (f : ℕ → ℕ) (k : Step) → IsDownward k → IsDownward (renumbered f k)
down_again f (JoinSelDown x y) down = tt
down_again f (JoinDeclDown x y) down = tt
down_again f (CutDecl n i) down = absurd down
down_again f (CutSel n i) down = absurd down
down_again f (JoinSelUp x y) down = absurd down
down_again f (JoinDeclUp x y) down = absurd down
down_again f (Share x y) down = tt

module _ (items : List Item) (d : Edit) (h h' : PendingState) (item_ids : AreItemIds items h.item_ids h.next) (order_keys : AreOrderKeys items h.order_keys) (created : AreCreatedBehind items d h.item_ids h'.item_ids h.next)
    (stay : OrderKeysStay items d h.order_keys h'.order_keys) (k : Step) (e : Edit) (is : IsStep items k e) (others : IsOfOthers d k) where
  -- the step has the same names
  pub same_order_keyed : (n : ℕ) → named h'.order_keys n (renumbered (new_number d items) k) ≡ named h.order_keys n k
  same_order_keyed n =
      let w : (first_item k < length items) × (last_item k < length items) = within items k e is in
      ap (priority_of n) (again (new_number d items) (λ m. slice_index h'.order_keys m) (λ m. slice_index h.order_keys m) k
      (same_name items d h.order_keys h'.order_keys order_keys.beside stay (first_item k) others.0 w.0) (same_name items d h.order_keys h'.order_keys order_keys.beside stay (last_item k) others.1 w.1))

  pub same_created : (n : ℕ) → named h'.item_ids n (renumbered (new_number d items) k) ≡ named h.item_ids n k
  same_created n =
      let w : (first_item k < length items) × (last_item k < length items) = within items k e is in
      ap (priority_of n) (again (new_number d items) (λ m. slice_index h'.item_ids m) (λ m. slice_index h.item_ids m) k
      (same_name items d h.item_ids h'.item_ids item_ids.beside created.kept (first_item k) others.0 w.0) (same_name items d h.item_ids h'.item_ids item_ids.beside created.kept (last_item k) others.1 w.1))

  -- the owner is left
  owner_left : Leaves d (owner h.item_ids k) × (owner h.item_ids k < length items)
  owner_left =
      let w : (first_item k < length items) × (last_item k < length items) = within items k e is in
      later_is_one h.item_ids (first_item k) (last_item k) (λ n. Leaves d n × (n < length items)) (others.0, w.0) (others.1, w.1)

  same_owner : slice_index h'.item_ids (owner h'.item_ids (renumbered (new_number d items) k)) ≡ slice_index h.item_ids (owner h.item_ids k)
  same_owner =
      ap (λ m. slice_index h'.item_ids m) (owner_stays items d h.item_ids h'.item_ids h.next item_ids created k e is others)
      ∙ same_name items d h.item_ids h'.item_ids item_ids.beside created.kept (owner h.item_ids k) owner_left.0 owner_left.1

  same_first : slice_index h'.item_ids (first_item (renumbered (new_number d items) k)) ≡ slice_index h.item_ids (first_item k)
  same_first =
      ap (λ m. slice_index h'.item_ids m) (new_first (new_number d items) k)
      ∙ same_name items d h.item_ids h'.item_ids item_ids.beside created.kept (first_item k) others.0 (within items k e is).0

  same_last : slice_index h'.item_ids (last_item (renumbered (new_number d items) k)) ≡ slice_index h.item_ids (last_item k)
  same_last =
      ap (λ m. slice_index h'.item_ids m) (new_last (new_number d items) k)
      ∙ same_name items d h.item_ids h'.item_ids item_ids.beside created.kept (last_item k) others.1 (within items k e is).1

  -- it is in the same scopes
  in_scope_on : (s : Scope) (item_id : ℕ) → IsInScope h.item_ids s item_id k → IsInScope h'.item_ids s item_id (renumbered (new_number d items) k)
  in_scope_on Alone item_id none = absurd none
  in_scope_on Owned item_id own = own ∙ sym same_owner
  in_scope_on Ups item_id moves = (up_again (new_number d items) k moves.0, moves.1 ∙ sym same_last)
  in_scope_on Downs item_id moves = (down_again (new_number d items) k moves.0, moves.1 ∙ sym same_first)

  pub leads_on : (l : Candidate) (n : ℕ) → IsCandidateOf h l n k → IsCandidateOf h' l n (renumbered (new_number d items) k)
  leads_on l n (inl same) = inl (same ∙ sym (same_order_keyed n))
  leads_on l n (inr (within, no_sooner)) = inr (in_scope_on l.scope l.owner within, λ sooner. no_sooner (subst (λ (u : Priority). IsSooner u l.priority) (same_order_keyed n) sooner))

-- ---- Behind a step

module _ (have_been : StepsHaveBeen) (hindered_on : HinderedGoesOn) (answers : List Answered) (source : List ℕ) (items : List Item) (j : Step) (d : Edit) (h h' : PendingState)
    (step : IsStep items j d) (sound : IsSound source items) (room : HasRoom items) (over : GoesOver source items d h h') (old : IsPending answers source items h) where
  created_on : (k : Step) (e : Edit) (n : ℕ) → IsStep items k e → IsOfOthers d k → named h'.item_ids n (renumbered (new_number d items) k) ≡ named h.item_ids n k
  created_on k e n is others = same_created items d h h' old.item_ids old.order_keys over.created over.order_keys_stay k e is others n

  -- what stood for a step that goes on still does
  queued_on : (k : Step) (e : Edit) (n : ℕ) → GoesOn items d k e → IsQueued h n k → IsQueued h' n (renumbered (new_number d items) k)
  queued_on k e n on (l, among, candidates) = (l, over.candidates l among, leads_on items d h h' old.item_ids old.order_keys over.created over.order_keys_stay k e on.before on.others l n candidates)

  goes_on : (k' : Step) (e' : Edit) → IsStep (edited d items) k' e' → (b : HasBeen source items d k' e') → GoesOn items d b.step b.edit
  goes_on k' e' is b = record { before = b.is_step; others = b.others; behind = renumbers items d k' b.step e' b.edit b.step_is b.edit_is is }

  abbrev Pending : ℕ → Step → Type 0
  Pending n k = IsQueued h' n k ⊎ ((by : Hindrance) × IsWatched h' n k by)

  on_pending : (k : Step) (e : Edit) (n : ℕ) → GoesOn items d k e → Saves source items e n → 0 < n → Pending n (renumbered (new_number d items) k)
  on_pending k e n on saves some = which (old.pending k e n on.before saves some)
    where
      which : IsQueued h n k ⊎ ((by : Hindrance) × IsWatched h n k by) → Pending n (renumbered (new_number d items) k)
      which (inl queued) = inl (queued_on k e n on queued)
      which (inr (by, watched)) = still (over.watched k e n by on saves some watched)
        where
          still : Contains h'.watched (record { priority = named h.item_ids n k; by = by }) ⊎ IsQueued h' n (renumbered (new_number d items) k) → Pending n (renumbered (new_number d items) k)
          still (inl stays) = inr (by, subst (λ (t : Priority). Contains h'.watched (record { priority = t; by = by })) (sym (created_on k e n on.before on.others)) stays)
          still (inr queued) = inl queued

  all_pending : (k' : Step) (e' : Edit) (n : ℕ) → IsStep (edited d items) k' e' → Saves source (edited d items) e' n → 0 < n → Pending n k'
  all_pending k' e' n is saves some = which (nat_lt (slice_index h'.item_ids (owner h'.item_ids k')) h.next) refl
    where
      which : (b : Bool) → nat_lt (slice_index h'.item_ids (owner h'.item_ids k')) h.next ≡ b → Pending n k'
      which true less =
          let come : HasCome d items (first_item k') × HasCome d items (last_item k') = old_owners_have_come items d h.item_ids h'.item_ids h.next over.created k' e' is (ltb-true (slice_index h'.item_ids (owner h'.item_ids k')) h.next less) in
          let b : HasBeen source items d k' e' = have_been source items j d k' e' step sound room is come.0 come.1 in
          subst (Pending n) (sym b.step_is) (on_pending b.step b.edit n (goes_on k' e' is b) ((b.saves n).1 saves) some)
      which false more = inl (over.made k' e' n is saves some (ltb-false (slice_index h'.item_ids (owner h'.item_ids k')) h.next more))

  all_hindered : (k' : Step) (e' : Edit) (n : ℕ) (by : Hindrance) → IsStep (edited d items) k' e' → Saves source (edited d items) e' n → 0 < n → IsWatched h' n k' by → Hinders answers (edited d items) e' by
  all_hindered k' e' n by is saves some watched =
      let w : (first_item k' < length (edited d items)) × (last_item k' < length (edited d items)) = within (edited d items) k' e' is in
      let u : Contains h.watched (record { priority = named h'.item_ids n k'; by = by }) × IsUntouched d by = over.untouched (record { priority = named h'.item_ids n k'; by = by }) watched in
      let p : (first_item (renumbered (λ m. slice_index h'.item_ids m) k') < h.next) × (last_item (renumbered (λ m. slice_index h'.item_ids m) k') < h.next) = old.past (record { priority = named h'.item_ids n k'; by = by }) u.0 in
      let first : HasCome d items (first_item k') = old_has_come items d h.item_ids h'.item_ids h.next over.created (first_item k') w.0 (subst (λ m. m < h.next) (new_first (λ m. slice_index h'.item_ids m) k') p.0) in
      let last : HasCome d items (last_item k') = old_has_come items d h.item_ids h'.item_ids h.next over.created (last_item k') w.1 (subst (λ m. m < h.next) (new_last (λ m. slice_index h'.item_ids m) k') p.1) in
      let b : HasBeen source items d k' e' = have_been source items j d k' e' step sound room is first last in
      let same : named h'.item_ids n k' ≡ named h.item_ids n b.step = ap (named h'.item_ids n) b.step_is ∙ created_on b.step b.edit n b.is_step b.others in
      let before : Hinders answers items b.edit by = old.hinders b.step b.edit n by b.is_step ((b.saves n).1 saves) some (subst (λ (t : Priority). Contains h.watched (record { priority = t; by = by })) same u.0) in
      subst (λ (x : Edit). Hinders answers (edited d items) x by) (sym b.edit_is) (hindered_on answers items j d b.step b.edit room step (goes_on k' e' is b) by u.1 before)

  pub goes_over : IsPending answers source (edited d items) h'
  goes_over = record {
    item_ids = over.item_ids;
    order_keys = over.order_keys;
    pending = all_pending;
    hinders = all_hindered;
    past = λ a among. let p : (first_item a.priority.step < h.next) × (last_item a.priority.step < h.next) = old.past a (over.untouched a among).0 in let l = over.later in (omega (arith, p.0, l), omega (arith, p.1, l));
  }

-- ---- While the plan works

pub may_change : (answers answers' : List Answered) (source : List ℕ) (items : List Item) (h h' : PendingState) → AreAmong answers answers' → ChangesHere answers' source items h h' → IsPending answers source items h → IsPending answers' source items h'
may_change answers answers' source items h h' among changes old = record {
  item_ids = subst (λ (bs : List ℕ). AreItemIds items bs h'.next) (sym changes.same_item_ids) (subst (λ (m : ℕ). AreItemIds items h.item_ids m) (sym changes.same_next) old.item_ids);
  order_keys = subst (AreOrderKeys items) (sym changes.same_order_keys) old.order_keys;
  pending = λ k e n is saves some. changes.pending k e n is saves some (old.pending k e n is saves some);
  hinders = hinders;
  past = past;
}
  where
    past : (a : Watched) → Contains h'.watched a → (first_item a.priority.step < h'.next) × (last_item a.priority.step < h'.next)
    past a in_watched = subst (λ (m : ℕ). (first_item a.priority.step < m) × (last_item a.priority.step < m)) (sym changes.same_next) (which (changes.watched a in_watched))
      where
        which : Contains h.watched a
            ⊎ ((first_item a.priority.step < h.next) × (last_item a.priority.step < h.next)
            × ((k : Step) (e : Edit) (n : ℕ) → IsStep items k e → Saves source items e n → 0 < n → a.priority ≡ named h.item_ids n k → Hinders answers' items e a.by)) → (first_item a.priority.step < h.next) × (last_item a.priority.step < h.next)
        which (inl g) = old.past a g
        which (inr g) = (g.0, g.1)

    hinders : (k : Step) (e : Edit) (n : ℕ) (by : Hindrance) → IsStep items k e → Saves source items e n → 0 < n → IsWatched h' n k by → Hinders answers' items e by
    hinders k e n by is saves some in_watched = which (changes.watched (record { priority = named h'.item_ids n k; by = by }) in_watched)
      where
        same : named h'.item_ids n k ≡ named h.item_ids n k
        same = ap (λ (bs : List ℕ). named bs n k) changes.same_item_ids

        which : Contains h.watched (record { priority = named h'.item_ids n k; by = by })
            ⊎ ((first_item (renumbered (λ m. slice_index h'.item_ids m) k) < h.next) × (last_item (renumbered (λ m. slice_index h'.item_ids m) k) < h.next)
            × ((k' : Step) (e : Edit) (m : ℕ) → IsStep items k' e → Saves source items e m → 0 < m → named h'.item_ids n k ≡ named h.item_ids m k' → Hinders answers' items e by)) → Hinders answers' items e by
        which (inl g) = more_hinder answers answers' items e among by (old.hinders k e n by is saves some (subst (λ (t : Priority). Contains h.watched (record { priority = t; by = by })) same g))
        which (inr g) = g.2 k e n is saves some same

-- ---- The step to take

pub first_taken : HinderedIsBlocked → FirstIsNext → (answers : List Answered) (source : List ℕ) (items : List Item) (h : PendingState) → IsPending answers source items h →
    (k : Step) (e : Edit) (n : ℕ) → IsStep items k e → IsFree answers items e → 0 < n → Saves source items e n →
    ((l : Candidate) → Contains h.candidates l → IsSooner l.priority (named h.order_keys n k) → ⊥) → Takes answers source items (edited e items)
first_taken block next answers source items h pending k e n is free some saves first = (k, e, next answers source items (priority_of n k ∷ []) covered k e n is free some saves only, refl)
  where
    only : (t : Priority) → Contains (priority_of n k ∷ []) t → IsSooner t (priority_of n k) → ⊥
    only t among = which (Contains-cons_cases (priority_of n k) [] t among)
      where
        which : (priority_of n k ≡ t) ⊎ Contains [] t → IsSooner t (priority_of n k) → ⊥
        which (inl same) sooner = not_itself (priority_of n k) (subst (λ (u : Priority). IsSooner u (priority_of n k)) (sym same) sooner)
        which (inr none) sooner = Contains-nil t none

    covered : IsCovered answers source items (priority_of n k ∷ [])
    covered i g m step_i saves_i some_i = which (pending.pending i g m step_i saves_i some_i)
      where
        which : IsQueued h m i ⊎ ((by : Hindrance) × IsWatched h m i by) → IsBlocked answers items g ⊎ ((t : Priority) × Contains (priority_of n k ∷ []) t × (IsSooner (priority_of m i) t → ⊥))
        which (inl (l, among, candidates)) = inr (priority_of n k, Contains-here (priority_of n k) [], λ sooner. no_sooner candidates (sooner_order_keyed items h.order_keys pending.order_keys m n i k (within items k e is) sooner))
          where
            no_sooner : IsCandidateOf h l m i → IsSooner (named h.order_keys m i) (named h.order_keys n k) → ⊥
            no_sooner (inl same) sooner = first l among (subst (λ (t : Priority). IsSooner t (named h.order_keys n k)) (sym same) sooner)
            no_sooner (inr (in_it, not_before)) sooner = not_sooner (named h.order_keys m i) l.priority (named h.order_keys n k) not_before (first l among) sooner
        which (inr (by, watched)) = inl (block answers items g by (pending.hinders i g m by step_i saves_i some_i watched))

pub none_left : HinderedIsBlocked → NoneWaitsIsDone → (answers : List Answered) (source : List ℕ) (items : List Item) (h : PendingState) → IsPending answers source items h → h.candidates ≡ [] → IsDone answers source items
none_left block none_waits answers source items h pending none = none_waits answers source items covered
  where
    covered : IsCovered answers source items []
    covered i g m step_i saves_i some_i = which (pending.pending i g m step_i saves_i some_i)
      where
        which : IsQueued h m i ⊎ ((by : Hindrance) × IsWatched h m i by) → IsBlocked answers items g ⊎ ((t : Priority) × Contains [] t × (IsSooner (priority_of m i) t → ⊥))
        which (inl (l, among, candidates)) = absurd (Contains-nil l (subst (λ (ls : List Candidate). Contains ls l) none among))
        which (inr (by, watched)) = inl (block answers items g by (pending.hinders i g m by step_i saves_i some_i watched))
