-- What comes in the place of a candidate that is queued no more.
use Rattle.std.proofs.Common.{◌≡◌, ◌⊎◌, ℕ, ◌+◌, ◌<◌, ◌≤◌, arith, Bool, true, false, List, [], ◌∷◌, Option, Some, None, refl, sym, ap, ◌∙◌, subst, inl, inr}
use Rattle.std.specs.Prelude.{IfSome, slice_get, slice_index}
use Rattle.std.specs.List.{Contains}
use Rattle.std.specs.Option.{option_map}
use Rattle.std.proofs.lemmas.Bool.{cases_lt, false≢true}
use Rattle.std.proofs.lemmas.Option.{slice_get-map}
use Rattle.cascade_laws.proofs.ForCallers.{some-same}
use Rattle.pending_laws.specs.declared.way.Way.{Way}
use Rattle.pending_laws.specs.declared.way.Way.TheVariants.{Up, Down}
use Rattle.pending_laws.specs.Candidates as pending
use Rattle.pending_laws.specs.Candidates.{IsQueued}
use Rattle.pending_laws.specs.Scopes.{IsInScope}
use Rattle.pending_laws.specs.Priorities.{named}
use Rattle.pending_laws.specs.Ways.{mover, partner, IsPast, MovesPairs}
use Rattle.queue_laws.specs.IndexedBarriers.{moves_number, IsBarred, IsBarredOn}
use Rattle.queue_laws.specs.Known.{IsFollowed}
use Rattle.queue_laws.specs.MarkNames.{pending_of}
use Rattle.planner.specs.Following.{AreBarredOff, Follows}
use Rattle.step_queue.specs.declared.barriers.Barrier.{Barrier}
use Rattle.step_queue.specs.declared.candidate.Candidate.{Candidate}
use Rattle.step_queue.specs.declared.candidate.Scope.{Scope}
use Rattle.step_queue.specs.declared.candidate.Scope.TheVariants.{Alone, Owned, Ups, Downs}
use Rattle.step_queue.specs.Told.{alone, scope_told, candidate_told}
use Rattle.step_queue.specs.BarrierParts.{barriers_on, BarrierParts}
use Rattle.step_queue.specs.Weights.{is_alone}
use Rattle.list_facts.proofs.Members.{Contains-cons_cases, Contains-nil}
use Rattle.list_facts.proofs.Options.{mapped}
use Rattle.indexed_sheet.specs.IndexedParts.{IndexedParts}
use Rattle.indexed_sheet.specs.declared.marks.Mark.{Mark}
use Rattle.indexed_sheet.specs.MarkList.{item_ids_of, order_keys_of}
use Rattle.plan_laws.specs.Cover.{IsSooner}
use Rattle.planner_state.specs.PlanParts.{PlanParts}
use Rattle.planner_state.specs.State.{IsIndexed}
use Rattle.step_laws.specs.declared.step.Step.{Step}
use Rattle.step_laws.specs.declared.step.Step.TheVariants.{CutDecl, CutSel, JoinSelUp, JoinSelDown, JoinDeclUp, JoinDeclDown, Share}
use Rattle.plan_laws.specs.Barrier.Hindering.{Watched}
use Rattle.next_step.specs.Looking.{FoundParts, Reaches}
use Rattle.next_step.specs.Named.{IsLaterPriority, IsQueuedBeside}

-- ---- The order key of an owner

-- the order key under the item id of an owner is that of the item that was created so
pub order_key_of_owner : (p : PlanParts) (source : List ℕ) (item_id at : ℕ) → IsIndexed source p → ((order_key : ℕ) → slice_get p.homes item_id ≡ Some order_key → at ≡ order_key) →
    (n : ℕ) → slice_get (item_ids_of p.indexed.marks) n ≡ Some item_id → slice_get (order_keys_of p.indexed.marks) n ≡ Some at
order_key_of_owner p source item_id at indexed home n created =
    let w : (m : Mark) × (slice_get p.indexed.marks n ≡ Some m) × (m.item_id ≡ item_id) = mapped (λ (m : Mark). m.item_id) (slice_get p.indexed.marks n) item_id (sym (slice_get-map (λ (m : Mark). m.item_id) p.indexed.marks n) ∙ created) in
    let under : slice_get p.homes item_id ≡ Some w.0.order_key = subst (λ (b : ℕ). slice_get p.homes b ≡ Some w.0.order_key) w.2 (indexed.homes n w.0 w.1) in
    slice_get-map (λ (m : Mark). m.order_key) p.indexed.marks n ∙ ap (option_map (λ (m : Mark). m.order_key)) w.1 ∙ ap (λ (l : ℕ). Some l) (sym (home w.0.order_key under))

-- ---- Candidates that are put in one after the other

module _ {X : Type 0} where
  -- of all members each is done or still to come, and so it is once the next one is done, too
  pub one_more : (Done Done' : X → Type 0) (all rest behind : List X) (first : X) → rest ≡ first ∷ behind → ((x : X) → Done x → Done' x) → Done' first →
      ((x : X) → Contains all x → Done x ⊎ Contains rest x) → (x : X) → Contains all x → Done' x ⊎ Contains behind x
  one_more Done Done' all rest behind first is stay done old x among = which (old x among)
    where
      behind_it : (first ≡ x) ⊎ Contains behind x → Done' x ⊎ Contains behind x
      behind_it (inl e) = inl (subst Done' e done)
      behind_it (inr h) = inr h

      which : Done x ⊎ Contains rest x → Done' x ⊎ Contains behind x
      which (inl d) = inl (stay x d)
      which (inr h) = behind_it (Contains-cons_cases first behind x (subst (λ (xs : List X). Contains xs x) is h))

  -- and where none is to come, all are done
  pub all_done : (Done : X → Type 0) (all rest : List X) → rest ≡ [] → ((x : X) → Contains all x → Done x ⊎ Contains rest x) → (x : X) → Contains all x → Done x
  all_done Done all rest none old x among = which (old x among)
    where
      which : Done x ⊎ Contains rest x → Done x
      which (inl d) = d
      which (inr h) = absurd (Contains-nil x (subst (λ (xs : List X). Contains xs x) none h))

-- ---- What follows

-- the first of the others stands for others, and comes later
pub others_candidate : (source : List ℕ) (p : PlanParts) (candidate : Candidate) (found : FoundParts) → is_alone (candidate_told candidate).scope ≡ false → Follows source p candidate found → IfSome found.others (λ n. is_alone (candidate_told n).scope ≡ false)
others_candidate source p candidate found many f = at found.others (λ l is. subst (λ (s : Scope). is_alone (scope_told s) ≡ false) (sym (f.later l (inr is)).scope_is) many)
  where
    at : (o : Option Candidate) → ((l : Candidate) → o ≡ Some l → is_alone (candidate_told l).scope ≡ false) → IfSome o (λ n. is_alone (candidate_told n).scope ≡ false)
    at None h = tt
    at (Some l) h = h l refl

pub others_later : (source : List ℕ) (p : PlanParts) (candidate : Candidate) (found : FoundParts) → Follows source p candidate found → IfSome found.others (λ n. IsSooner (candidate_told candidate).priority (candidate_told n).priority)
others_later source p candidate found f = at found.others (λ l is. (f.later l (inr is)).later)
  where
    at : (o : Option Candidate) → ((l : Candidate) → o ≡ Some l → IsSooner (candidate_told candidate).priority (candidate_told l).priority) → IfSome o (λ n. IsSooner (candidate_told candidate).priority (candidate_told n).priority)
    at None h = tt
    at (Some l) h = h l refl

others_stay : (candidate : pending.Candidate) (candidates candidates' : List pending.Candidate) → ((l : pending.Candidate) → Contains candidates l → Contains candidates' l) → (other : pending.Candidate) → Contains (candidate ∷ candidates) other → (candidate ≡ other) ⊎ Contains candidates' other
others_stay candidate candidates candidates' stay other among = which (Contains-cons_cases candidate candidates other among)
  where
    which : (candidate ≡ other) ⊎ Contains candidates other → (candidate ≡ other) ⊎ Contains candidates' other
    which (inl e) = inl e
    which (inr g) = inr (stay other g)

-- a candidate of one step alone is followed by nothing
none_in_it : (scope : Scope) (item_ids : List ℕ) (item_id : ℕ) (k : Step) → is_alone (scope_told scope) ≡ true → IsInScope item_ids (scope_told scope) item_id k → ⊥
none_in_it Alone item_ids item_id k single in_it = in_it
none_in_it Owned item_ids item_id k single in_it = false≢true single
none_in_it Ups item_ids item_id k single in_it = false≢true single
none_in_it Downs item_ids item_id k single in_it = false≢true single

pub alone_followed : (source : List ℕ) (p : PlanParts) (candidate : Candidate) (candidates : List pending.Candidate) (watched : List Watched) → is_alone (candidate_told candidate).scope ≡ true → IsFollowed source p.indexed (candidate_told candidate ∷ candidates) candidates watched (candidate_told candidate)
alone_followed source p candidate candidates watched single = record {
  others = others_stay (candidate_told candidate) candidates candidates (λ l h. h);
  later = λ k e n is saves some in_it sooner. absurd (none_in_it candidate.scope (item_ids_of p.indexed.marks) candidate.owner k single in_it);
}

-- a step goes past a barrier, or it does not
move_or_not : (way : Way) (k : Step) → MovesPairs way k ⊎ (MovesPairs way k → ⊥)
move_or_not Up (JoinSelUp x y) = inl tt
move_or_not Up (JoinDeclUp x y) = inl tt
move_or_not Up (CutDecl n i) = inr (λ move. move)
move_or_not Up (CutSel n i) = inr (λ move. move)
move_or_not Up (JoinSelDown x y) = inr (λ move. move)
move_or_not Up (JoinDeclDown x y) = inr (λ move. move)
move_or_not Up (Share x y) = inr (λ move. move)
move_or_not Down (JoinSelDown x y) = inl tt
move_or_not Down (JoinDeclDown x y) = inl tt
move_or_not Down (CutDecl n i) = inr (λ move. move)
move_or_not Down (CutSel n i) = inr (λ move. move)
move_or_not Down (JoinSelUp x y) = inr (λ move. move)
move_or_not Down (JoinDeclUp x y) = inr (λ move. move)
move_or_not Down (Share x y) = inl tt

less_or_not : (m n : ℕ) → (m < n) ⊎ (m < n → ⊥)
less_or_not m n = elim (cases_lt m n) [
  | inl l ↦ inl l
  | inr l ↦ inr (λ less. omega (arith, l, less))
]

true_or_not : (x : Bool) → (x ≡ true) ⊎ (x ≡ true → ⊥)
true_or_not true = inl refl
true_or_not false = inr (λ e. false≢true e)

past_or_not : (way : Way) (place n : ℕ) → IsPast way place n ⊎ (IsPast way place n → ⊥)
past_or_not Up place n = less_or_not n place
past_or_not Down place n = less_or_not place n

module _ (b : IndexedParts) (barriers : BarrierParts) where
  on_or_not : (way : Way) (k : Step) → IsBarredOn b barriers way k ⊎ (IsBarredOn b barriers way k → ⊥)
  on_or_not way k = which (move_or_not way k) (slice_get (barriers_on way barriers) (slice_index (item_ids_of b.marks) (mover way k))) refl
    where
      which : MovesPairs way k ⊎ (MovesPairs way k → ⊥) → (found : Option Barrier) → slice_get (barriers_on way barriers) (slice_index (item_ids_of b.marks) (mover way k)) ≡ found → IsBarredOn b barriers way k ⊎ (IsBarredOn b barriers way k → ⊥)
      which (inr other) found at = inr (λ barred. other barred.0)
      which (inl move) None at = inr (λ barred. let e : None ≡ Some barred.1.0 = sym at ∙ barred.1.1 in cc)
      which (inl move) (Some stop) at = elim (less_or_not 0 stop.order_key) [
        | inl some ↦ elim (past_or_not way stop.order_key (slice_index (order_keys_of b.marks) (partner way k))) [
          | inl past ↦ elim (true_or_not (moves_number b.items k stop.decl)) [
            | inl moves ↦ inl (move, (stop, at, some, past), moves)
            | inr not ↦ inr (λ barred. not (subst (λ (l : Barrier). moves_number b.items k l.decl ≡ true) (some-same (sym barred.1.1 ∙ at)) barred.2))
          ]
          | inr not ↦ inr (λ barred. not (subst (λ (l : Barrier). IsPast way l.order_key (slice_index (order_keys_of b.marks) (partner way k))) (some-same (sym barred.1.1 ∙ at)) barred.1.3))
        ]
        | inr none ↦ inr (λ barred. none (subst (λ (l : Barrier). 0 < l.order_key) (some-same (sym barred.1.1 ∙ at)) barred.1.2))
      ]

  barred_or_not : (k : Step) → IsBarred b barriers k ⊎ (IsBarred b barriers k → ⊥)
  barred_or_not k = which (on_or_not Up k) (on_or_not Down k)
    where
      neither : (IsBarredOn b barriers Up k → ⊥) → (IsBarredOn b barriers Down k → ⊥) → IsBarred b barriers k → ⊥
      neither up down (Up, past) = up past
      neither up down (Down, past) = down past

      which : IsBarredOn b barriers Up k ⊎ (IsBarredOn b barriers Up k → ⊥) → IsBarredOn b barriers Down k ⊎ (IsBarredOn b barriers Down k → ⊥) → IsBarred b barriers k ⊎ (IsBarred b barriers k → ⊥)
      which (inl up) other = inl (Up, up)
      which (inr up) (inl down) = inl (Down, down)
      which (inr up) (inr down) = inr (neither up down)

-- where what follows is queued, the candidate is followed
pub is_followed : (source : List ℕ) (p : PlanParts) (candidate : Candidate) (found : FoundParts) (candidates candidates' : List pending.Candidate) (watched : List Watched) → Follows source p candidate found →
    ((l : pending.Candidate) → Contains candidates l → Contains candidates' l) → ((l : Candidate) → Contains found.candidates l → Contains candidates' (alone l)) → IfSome found.others (λ n. Contains candidates' (candidate_told n)) →
    AreBarredOff source p candidates' watched → IsFollowed source p.indexed (candidate_told candidate ∷ candidates) candidates' watched (candidate_told candidate)
is_followed source p candidate found candidates candidates' watched f stay single there barred = record {
  others = others_stay (candidate_told candidate) candidates candidates' stay;
  later = λ k e n is saves some in_it sooner. elim (barred_or_not p.indexed p.barriers k) [
    | inl past ↦ barred k e n is saves some past
    | inr clear ↦ inl (queued k n in_it (f.covers k e n is saves some (in_it, clear) sooner))
  ];
}
  where
    queued : (k : Step) (n : ℕ) → IsQueuedBeside p.indexed candidate k → Reaches found (named (order_keys_of p.indexed.marks) n k) → IsQueued (pending_of p.indexed candidates' watched) n k
    queued k n in_it (inl (l, among, priority)) = (alone l, single l among, inl priority)
    queued k n in_it (inr (l, is, not)) =
        let priority : IsLaterPriority source p.indexed candidate l = f.later l (inr is) in
        let beside : IsQueuedBeside p.indexed l k = subst (λ (s : Scope). IsInScope (item_ids_of p.indexed.marks) (scope_told s) l.owner k) (sym priority.scope_is)
        (subst (λ (b : ℕ). IsInScope (item_ids_of p.indexed.marks) (scope_told candidate.scope) b k) (sym priority.owner_is) in_it) in
        (candidate_told l, subst (λ (o : Option Candidate). IfSome o (λ m. Contains candidates' (candidate_told m))) is there, inr (beside, not))

-- what follows a candidate weighs less than with it
pub lighter : (new between old few most weight : ℕ) → new + most < between + weight → between ≤ old + few → few ≤ most → new < old + weight
lighter new between old few most weight less more fits = omega (arith, less, more, fits)
