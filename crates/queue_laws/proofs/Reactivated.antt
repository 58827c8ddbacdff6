-- What is on the watch list is remembered, and is reactivated where a pair is moved.
use Rattle.std.proofs.Common.{◌≡◌, ◌↔◌, ◌⊎◌, ℕ, ◌<◌, ◌≤◌, ◌==◌, Bool, true, false, List, [], ◌∷◌, ◌++◌, length, refl, sym, ap, ◌∙◌, subst, inl, inr, arith}
use Rattle.std.specs.Prelude.{slice_index}
use Rattle.std.specs.List.{Contains, filter, list_any}
use Rattle.std.proofs.lemmas.Bool.{false≢true, false_from_ne_true, not-true, not-false, not_from_false, and_from}
use Rattle.std.proofs.lemmas.Bool.Decides.{Decides-eqb}
use Rattle.std.proofs.lemmas.Option.{slice_get-get_or}
use Rattle.std.proofs.lemmas.List.Elements.{Contains-append_cases}
use Rattle.css_model.specs.Cascade.Order.{Pair}
use Rattle.css_model.specs.declared.sheet.Item.{Item}
use Rattle.css_model.specs.Sheets.Sound.{IsSound}
use Rattle.pending_laws.specs.Before.{HasBeen, StepsHaveBeen}
use Rattle.pending_laws.specs.Behind.{GoesOn}
use Rattle.pending_laws.specs.Candidates.{PendingState, IsQueued, IsPending, CandidatesGoOn}
use Rattle.pending_laws.specs.Scopes.{IsInScope}
use Rattle.pending_laws.specs.Priorities.{NamesTellSteps, named}
use Rattle.queue_laws.specs.Reindexed.{AreRenamed}
use Rattle.queue_laws.specs.Remembering.{entry_of, pairs_of, HasEntryOf, IsRemembered, AreRemembered, AreNowRemembered, is_untouched, untouched, AreReactivated}
use Rattle.queue_laws.proofs.StepNames.{within, new_first, new_last, named_on}
use Rattle.step_queue.specs.WatchLists.{entry, is_under, candidates_under, place_of}
use Rattle.step_queue.specs.declared.watch_list.Entry.{Entry}
use Rattle.step_queue.specs.declared.candidate.Candidate.{Candidate}
use Rattle.step_queue.specs.Told.{candidate_told}
use Rattle.list_facts.proofs.Members.{Contains-here, Contains-there, Contains-nil, Contains-cons_cases, Contains-filter, Contains-filtered}
use Rattle.order_laws.specs.Edits.{is_moved, Edit, edited}
use Rattle.order_laws.proofs.ForCallers.{any_from, any_of, map_has}
use Rattle.plan_laws.specs.Cover.{Priority, IsSooner}
use Rattle.step_laws.specs.declared.step.Step.{Step}
use Rattle.step_laws.specs.Free.{Answered}
use Rattle.step_laws.specs.Sizes.{Saves}
use Rattle.step_laws.specs.Steps.{IsStep, first_item, last_item}
use Rattle.plan_laws.specs.Barrier.Hindering.{Hindrance, OfPair, OfKept, HasRoom, IsUntouched, Watched}
use Rattle.plan_laws.specs.Barrier.Renumbering.{new_number, renumbered, IsOfOthers}
use Rattle.plan_laws.specs.Barrier.SideBySide.{HasCome}

-- ---- Entries under digests

pub found : (entries : List Entry) (selector decl : ℕ) (c : Candidate) → Contains entries (entry selector decl c) → Contains (candidates_under selector decl entries) c
found entries selector decl c among =
    map_has (λ (e : Entry). e.candidate) (filter (is_under selector decl) entries) (entry selector decl c)
    (Contains-filtered (is_under selector decl) entries (entry selector decl c) among
    (and_from (selector == selector) (place_of decl == place_of decl) ((Decides-eqb selector selector).1 refl) ((Decides-eqb (place_of decl) (place_of decl)).1 refl)))

-- ---- One more

has_more : (h : PendingState) (entries entries' : List Entry) → ((x : Entry) → Contains entries x → Contains entries' x) → (p : Pair) (n : ℕ) (k : Step) → IsRemembered h entries p n k → IsRemembered h entries' p n k
has_more h entries entries' more p n k (c, candidates, among) = (c, candidates, more (entry_of p c) among)

-- what is remembered hangs on the names alone
abbrev RememberedBy : List ℕ → List ℕ → List Entry → Pair → ℕ → Step → Type 0
RememberedBy order_keys item_ids entries p n k =
    (c : Candidate) × (((candidate_told c).priority ≡ named order_keys n k) ⊎ (IsInScope item_ids (candidate_told c).scope (candidate_told c).owner k × (IsSooner (named order_keys n k) (candidate_told c).priority → ⊥))) × Contains entries (entry_of p c)

same_names : (h h' : PendingState) (entries : List Entry) (p : Pair) (n : ℕ) (k : Step) → h'.order_keys ≡ h.order_keys → h'.item_ids ≡ h.item_ids → IsRemembered h entries p n k → IsRemembered h' entries p n k
same_names h h' entries p n k order_keys item_ids known =
    subst (λ (names : List ℕ). RememberedBy h'.order_keys names entries p n k) (sym item_ids) (subst (λ (names : List ℕ). RememberedBy names h.item_ids entries p n k) (sym order_keys) known)

-- a step that is on the watch list
abbrev watched_of : List ℕ → ℕ → Step → Hindrance → Watched
watched_of item_ids n k by = record { priority = named item_ids n k; by = by }

pub one_more : NamesTellSteps → (answers : List Answered) (source : List ℕ) (items : List Item) (h h' : PendingState) (entries entries' : List Entry) → IsPending answers source items h →
    h'.order_keys ≡ h.order_keys → h'.item_ids ≡ h.item_ids → (k : Step) (e : Edit) (n : ℕ) (by : Hindrance) → IsStep items k e → Saves source items e n → 0 < n →
    h'.watched ≡ record { priority = named h.item_ids n k; by = by } ∷ h.watched →
    ((x : Entry) → Contains entries x → Contains entries' x) → ((p : Pair) → Contains (pairs_of by) p → HasEntryOf entries' p (named h.order_keys n k)) →
    AreRemembered source items h entries → AreRemembered source items h' entries'
one_more tell answers source items h h' entries entries' pending same_order_keys same_item_ids k e n by is saves some one more here old a among k' e' m is' saves' some' same p pair =
    same_names h h' entries' p m k' same_order_keys same_item_ids (which (Contains-cons_cases (watched_of h.item_ids n k by) h.watched a (subst (λ (asides : List Watched). Contains asides a) one among)))
  where
    priority : a.priority ≡ named h.item_ids m k'
    priority = same ∙ ap (λ item_ids. named item_ids m k') same_item_ids

    by_priority : HasEntryOf entries' p (named h.order_keys m k') → IsRemembered h entries' p m k'
    by_priority (c, priorities, here) = (c, inl priorities, here)

    which : (watched_of h.item_ids n k by ≡ a) ⊎ Contains h.watched a → IsRemembered h entries' p m k'
    which (inl this) =
        let w : (n ≡ m) × (k ≡ k') × (e ≡ e') = tell items h.item_ids pending.item_ids.beside pending.item_ids.differ k k' e e' is is' n m (ap (λ (x : Watched). x.priority) this ∙ priority) in
        let t : named h.order_keys n k ≡ named h.order_keys m k' = ap (λ i. named h.order_keys i k) w.0 ∙ ap (λ x. named h.order_keys m x) w.1 in
        by_priority (subst (λ (u : Priority). HasEntryOf entries' p u) t (here p (subst (λ (x : Hindrance). Contains (pairs_of x) p) (sym (ap (λ (x : Watched). x.by) this)) pair)))
    which (inr before) = has_more h entries entries' more p m k' (old a before k' e' m is' saves' some' priority p pair)

-- ---- Many more

pub more_remembered : (source : List ℕ) (items : List Item) (h h' : PendingState) (more : List Watched) (entries entries' : List Entry) → h'.order_keys ≡ h.order_keys → h'.item_ids ≡ h.item_ids →
    h'.watched ≡ more ++ h.watched → ((x : Entry) → Contains entries x → Contains entries' x) → AreNowRemembered source items h more entries' →
    AreRemembered source items h entries → AreRemembered source items h' entries'
more_remembered source items h h' more entries entries' same_order_keys same_item_ids is further now old a among k e n step saves some same p pair =
    same_names h h' entries' p n k same_order_keys same_item_ids (which (Contains-append_cases more h.watched a (subst (λ (asides : List Watched). Contains asides a) is among)))
  where
    priority : a.priority ≡ named h.item_ids n k
    priority = same ∙ ap (λ item_ids. named item_ids n k) same_item_ids

    which : Contains more a ⊎ Contains h.watched a → IsRemembered h entries' p n k
    which (inl new) = now a new k e n step saves some priority p pair
    which (inr before) = has_more h entries entries' further p n k (old a before k e n step saves some priority p pair)

-- ---- What an edit does not touch

none_moved : (d : Edit) (ps : List Pair) → list_any (λ p. is_moved d.moved p) ps ≡ false → (p : Pair) → Contains ps p → is_moved d.moved p ≡ false
none_moved d ps none p among = false_from_ne_true (is_moved d.moved p) (λ moved. false≢true (sym none ∙ any_of (λ q. is_moved d.moved q) ps p among moved))

to_untouched : (d : Edit) (by : Hindrance) → is_untouched d by ≡ true → IsUntouched d by
to_untouched d (OfPair p q) is =
    let none : list_any (λ x. is_moved d.moved x) (p ∷ q ∷ []) ≡ false = not-true (list_any (λ x. is_moved d.moved x) (p ∷ q ∷ [])) is in
    (none_moved d (p ∷ q ∷ []) none p (Contains-here p (q ∷ [])), none_moved d (p ∷ q ∷ []) none q (Contains-there p (q ∷ []) q (Contains-here q [])))
to_untouched d (OfKept p number) is = none_moved d (p ∷ []) (not-true (list_any (λ x. is_moved d.moved x) (p ∷ [])) is) p (Contains-here p [])

from_untouched : (d : Edit) (by : Hindrance) → IsUntouched d by → is_untouched d by ≡ true
from_untouched d (OfPair p q) (first, second) = not_from_false (list_any (λ x. is_moved d.moved x) (p ∷ q ∷ [])) (false_from_ne_true (list_any (λ x. is_moved d.moved x) (p ∷ q ∷ [])) touched)
  where
    touched : list_any (λ x. is_moved d.moved x) (p ∷ q ∷ []) ≡ true → ⊥
    touched h = at (any_from (λ x. is_moved d.moved x) (p ∷ q ∷ []) h)
      where
        at : (x : Pair) × Contains (p ∷ q ∷ []) x × (is_moved d.moved x ≡ true) → ⊥
        at (x, among, moved) = which (Contains-cons_cases p (q ∷ []) x among)
          where
            which : (p ≡ x) ⊎ Contains (q ∷ []) x → ⊥
            which (inl same) = false≢true (sym first ∙ ap (is_moved d.moved) same ∙ moved)
            which (inr more) = last (Contains-cons_cases q [] x more)
              where
                last : (q ≡ x) ⊎ Contains [] x → ⊥
                last (inl same) = false≢true (sym second ∙ ap (is_moved d.moved) same ∙ moved)
                last (inr none) = Contains-nil x none
from_untouched d (OfKept p number) first = not_from_false (list_any (λ x. is_moved d.moved x) (p ∷ [])) (false_from_ne_true (list_any (λ x. is_moved d.moved x) (p ∷ [])) touched)
  where
    touched : list_any (λ x. is_moved d.moved x) (p ∷ []) ≡ true → ⊥
    touched h = at (any_from (λ x. is_moved d.moved x) (p ∷ []) h)
      where
        at : (x : Pair) × Contains (p ∷ []) x × (is_moved d.moved x ≡ true) → ⊥
        at (x, among, moved) = which (Contains-cons_cases p [] x among)
          where
            which : (p ≡ x) ⊎ Contains [] x → ⊥
            which (inl same) = false≢true (sym first ∙ ap (is_moved d.moved) same ∙ moved)
            which (inr none) = Contains-nil x none

pub kept : (d : Edit) (watched : List Watched) (a : Watched) → Contains (untouched d watched) a ↔ (Contains watched a × IsUntouched d a.by)
kept d watched a = (
  λ h. let w : Contains watched a × (is_untouched d a.by ≡ true) = Contains-filter (λ (x : Watched). is_untouched d x.by) watched a h in (w.0, to_untouched d a.by w.1),
  λ h. Contains-filtered (λ (x : Watched). is_untouched d x.by) watched a h.0 (from_untouched d a.by h.1),
)

-- ---- What an edit touches is reactivated

module _ (go_on : CandidatesGoOn) (answers : List Answered) (source : List ℕ) (items : List Item) (d : Edit) (h h' : PendingState) (entries : List Entry) (pending : IsPending answers source items h) (names : AreRenamed items d h h') (old : AreRemembered source items h entries) where
  created_on : (k : Step) (e : Edit) → IsStep items k e → IsOfOthers d k → (n : ℕ) → named h'.item_ids n (renumbered (new_number d items) k) ≡ named h.item_ids n k
  created_on k e is others n = named_on items d h.item_ids h'.item_ids pending.item_ids.beside names.created.kept k e is others n

  abbrev Reactivates : Watched → Type 0
  Reactivates a = (k : Step) (e : Edit) (n : ℕ) → GoesOn items d k e → Saves source items e n → 0 < n → a.priority ≡ named h.item_ids n k → IsQueued h' n (renumbered (new_number d items) k)

  pub reactivated : AreReactivated d entries h'.candidates → (a : Watched) → Contains h.watched a → Contains (untouched d h.watched) a ⊎ Reactivates a
  reactivated reactivates a among = which (is_untouched d a.by) refl
    where
      which : (b : Bool) → is_untouched d a.by ≡ b → Contains (untouched d h.watched) a ⊎ Reactivates a
      which true is = inl (Contains-filtered (λ (x : Watched). is_untouched d x.by) h.watched a among is)
      which false is = inr (λ k e n on saves some same. at k e n on saves some same (any_from (λ p. is_moved d.moved p) (pairs_of a.by) (not-false (list_any (λ p. is_moved d.moved p) (pairs_of a.by)) is)))
        where
          at : (k : Step) (e : Edit) (n : ℕ) → GoesOn items d k e → Saves source items e n → 0 < n → a.priority ≡ named h.item_ids n k → (p : Pair) × Contains (pairs_of a.by) p × (is_moved d.moved p ≡ true) →
              IsQueued h' n (renumbered (new_number d items) k)
          at k e n on saves some same (p, pair, moved) = under (old a among k e n on.before saves some same p pair)
            where
              under : IsRemembered h entries p n k → IsQueued h' n (renumbered (new_number d items) k)
              under (c, candidates, here) = (
                candidate_told c,
                reactivates p c moved here,
                go_on items d h h' pending.item_ids pending.order_keys names.created names.order_keys_stay k e on.before on.others (candidate_told c) n candidates,
              )

  -- an item that was created before has come
  has_come : (m : ℕ) → m < length (edited d items) → slice_index h'.item_ids m < h.next → HasCome d items m
  has_come m less past = which (names.created.created m (slice_index h'.item_ids m) (slice_get-get_or h'.item_ids m 0 (let b = names.created.beside in omega (arith, b, less))))
    where
      which : (h.next ≤ slice_index h'.item_ids m) ⊎ HasCome d items m → HasCome d items m
      which (inl young) = absurd (omega (arith, young, past))
      which (inr come) = come

  pub remembered_on : StepsHaveBeen → (j : Step) (entries' : List Entry) → IsStep items j d → IsSound source items → HasRoom items →
      ((a : Watched) → Contains h'.watched a → Contains h.watched a) → ((x : Entry) → Contains entries x → Contains entries' x) → AreRemembered source (edited d items) h' entries'
  remembered_on have_been j entries' step sound room stay more a among k' e' n is saves some same p pair =
      subst (IsRemembered h' entries' p n) (sym b.step_is) (goes_on (has_more h entries entries' more p n b.step (old a (stay a among) b.step b.edit n b.is_step ((b.saves n).1 saves) some priority p pair)))
    where
      inside : (first_item k' < length (edited d items)) × (last_item k' < length (edited d items))
      inside = within (edited d items) k' e' is

      past : (first_item (renumbered (λ m. slice_index h'.item_ids m) k') < h.next) × (last_item (renumbered (λ m. slice_index h'.item_ids m) k') < h.next)
      past = subst (λ (t : Priority). (first_item t.step < h.next) × (last_item t.step < h.next)) same (pending.past a (stay a among))

      b : HasBeen source items d k' e'
      b =
          have_been source items j d k' e' step sound room is
          (has_come (first_item k') inside.0 (subst (λ m. m < h.next) (new_first (λ m. slice_index h'.item_ids m) k') past.0))
          (has_come (last_item k') inside.1 (subst (λ m. m < h.next) (new_last (λ m. slice_index h'.item_ids m) k') past.1))

      priority : a.priority ≡ named h.item_ids n b.step
      priority = same ∙ ap (λ k. named h'.item_ids n k) b.step_is ∙ created_on b.step b.edit b.is_step b.others n

      goes_on : IsRemembered h entries' p n b.step → IsRemembered h' entries' p n (renumbered (new_number d items) b.step)
      goes_on (c, candidates, here) = (c, go_on items d h h' pending.item_ids pending.order_keys names.created names.order_keys_stay b.step b.edit b.is_step b.others (candidate_told c) n candidates, here)
