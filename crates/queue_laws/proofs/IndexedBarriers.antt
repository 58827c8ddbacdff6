-- Barriers of an indexed sheet.
use Rattle.std.proofs.Common.{◌≡◌, ◌≢◌, ◌⊎◌, ℕ, zero, suc, ◌<◌, ◌≤◌, ◌+◌, Bool, true, false, List, [], ◌∷◌, ◌++◌, Option, Some, None, length, refl, sym, ap, ◌∙◌, subst, inl, inr, arith}
use Rattle.std.specs.Prelude.{slice_get, slice_index}
use Rattle.std.specs.List.{Contains}
use Rattle.cascade_laws.proofs.ForCallers.{some-same}
use Rattle.std.proofs.lemmas.Bool.{cases_lt}
use Rattle.std.proofs.lemmas.Option.{get_or_from_slice_get, slice_get-get_or, slice_get_within}
use Rattle.std.proofs.lemmas.List.Elements.{Contains-append_cases, Contains-append_left, Contains-append_right}
use Rattle.css_model.specs.Cascade.Order.{Pair}
use Rattle.css_model.specs.declared.sheet.Decl.{Decl}
use Rattle.css_model.specs.declared.sheet.Item.{Item}
use Rattle.pending_laws.specs.ItemIds.{AreItemIds}
use Rattle.pending_laws.specs.declared.way.Way.{Way}
use Rattle.pending_laws.specs.declared.way.Way.TheVariants.{Up, Down}
use Rattle.pending_laws.specs.Candidates as pending
use Rattle.pending_laws.specs.Candidates.{IsCandidateOf}
use Rattle.pending_laws.specs.Priorities.{named, AreOrderKeys, FirstPriorityIsFirst}
use Rattle.pending_laws.specs.Barred.{IsBarredBy, BarredItemsGoOn}
use Rattle.pending_laws.specs.BarredPriorities.{barred_priorities, MovesAreBarred, BarredPrioritiesAreBlocked, BarredPrioritiesAreMoves}
use Rattle.pending_laws.specs.Ways.{mover, moves_decl, partner, IsPast, MovesPairs}
use Rattle.queue_laws.specs.IndexedBarriers.{decl_of_number, is_with, moves_candidate, moves_number, AreBarriers, HasMovesEntry, HasMovesCandidate, HasBarrier, IsGone, IsStanding, IsBarred, IsBarredOn, MayBeWatched}
use Rattle.queue_laws.specs.MarkNames.{pending_of, IsMarked, MarksAreNames}
use Rattle.queue_laws.specs.Passed.{IsBlockedHere}
use Rattle.queue_laws.specs.Remembering.{entry_of, pairs_of, AreNowRemembered, AreReactivated, IsRemembered}
use Rattle.queue_laws.proofs.ForCallers.{in_scope}
use Rattle.queue_laws.proofs.Kept.{from_map, map_kept, to_map}
use Rattle.queue_laws.proofs.StepNames.{within}
use Rattle.step_queue.specs.declared.barriers.Barrier.{Barrier}
use Rattle.step_queue.specs.declared.watch_list.Entry.{Entry}
use Rattle.step_queue.specs.BarrierParts.{barriers_on, BarrierParts}
use Rattle.list_facts.proofs.Members.{Contains-cons_cases, Contains-nil}
use Rattle.order_laws.specs.Edits.{is_moved, Edit, edited}
use Rattle.indexed_sheet.specs.IndexedParts.{IndexedParts}
use Rattle.indexed_sheet.specs.declared.marks.Mark.{Mark}
use Rattle.indexed_sheet.specs.MarkList.{item_ids_of, order_keys_of}
use Rattle.indexed_sheet.specs.Marking.{AreKept, IsLeft}
use Rattle.step_laws.specs.declared.step.Step.{Step}
use Rattle.step_laws.specs.declared.step.Step.TheVariants.{CutDecl, CutSel, JoinSelUp, JoinSelDown, JoinDeclUp, JoinDeclDown, Share}
use Rattle.step_laws.specs.Free.{Answered, AreAmong}
use Rattle.step_laws.specs.Sizes.{size, Saves}
use Rattle.step_laws.specs.Steps.{IsStep, first_item, last_item}
use Rattle.plan_laws.specs.Barrier.Hindering.{Hindrance, OfPair, Watched}
use Rattle.plan_laws.specs.Barrier.Renumbering.{ItemsStay, Leaves, new_number}

-- ---- Behind a step

-- an edit leaves the items that are none of its step
leaves_others : (items : List Item) (k : Step) (e : Edit) (m : ℕ) → IsStep items k e → first_item k ≢ m → last_item k ≢ m → Leaves e m
leaves_others items (CutDecl n i) e m c first last = subst (λ (d : Edit). Leaves d m) (sym c.is) (first, tt)
leaves_others items (CutSel n i) e m c first last = subst (λ (d : Edit). Leaves d m) (sym c.is) (first, tt)
leaves_others items (JoinSelUp x y) e m j first last = subst (λ (d : Edit). Leaves d m) (sym j.is) (first, (last, tt))
leaves_others items (JoinSelDown x y) e m j first last = subst (λ (d : Edit). Leaves d m) (sym j.is) (first, (last, tt))
leaves_others items (JoinDeclUp x y) e m j first last = subst (λ (d : Edit). Leaves d m) (sym j.is) (first, (last, tt))
leaves_others items (JoinDeclDown x y) e m j first last = subst (λ (d : Edit). Leaves d m) (sym j.is) (first, (last, tt))
leaves_others items (Share x y) e m j first last = subst (λ (d : Edit). Leaves d m) (sym j.is) (first, (last, tt))

-- a number stands in a list, or it does not
stands_or_not : (xs : List ℕ) (x : ℕ) → ((n : ℕ) × (slice_get xs n ≡ Some x)) ⊎ ((n : ℕ) → slice_get xs n ≡ Some x → ⊥)
stands_or_not [] x = inr (λ n at. let e : None ≡ Some x = at in cc)
stands_or_not (y ∷ xs) x = first (cases_lt x y) (stands_or_not xs x)
  where
    behind : x ≢ y → ((n : ℕ) × (slice_get xs n ≡ Some x)) ⊎ ((n : ℕ) → slice_get xs n ≡ Some x → ⊥) → ((n : ℕ) × (slice_get (y ∷ xs) n ≡ Some x)) ⊎ ((n : ℕ) → slice_get (y ∷ xs) n ≡ Some x → ⊥)
    behind other (inl (n, at)) = inl (suc n, at)
    behind other (inr none) = inr nowhere
      where
        nowhere : (n : ℕ) → slice_get (y ∷ xs) n ≡ Some x → ⊥
        nowhere zero at = other (let e : Some y ≡ Some x = at in let f : x ≡ y = cc in f)
        nowhere (suc n) at = none n at

    first : (x < y) ⊎ (y ≤ x) → ((n : ℕ) × (slice_get xs n ≡ Some x)) ⊎ ((n : ℕ) → slice_get xs n ≡ Some x → ⊥) → ((n : ℕ) × (slice_get (y ∷ xs) n ≡ Some x)) ⊎ ((n : ℕ) → slice_get (y ∷ xs) n ≡ Some x → ⊥)
    first (inl less) rest = behind (λ e. omega (arith, e, less)) rest
    first (inr more) rest = elim (cases_lt y x) [
      | inl l ↦ behind (λ e. omega (arith, e, l)) rest
      | inr l ↦ inl (0, (let e : y ≡ x = omega (arith, l, more) in ap (λ (z : ℕ). Some z) e))
    ]

module _ (go_on : BarredItemsGoOn) (items_stay : ItemsStay) (names : MarksAreNames) (answers : List Answered) (b b' : IndexedParts) (j : Step) (d : Edit) (entries : List Entry) (bound : ℕ)
    (candidates candidates' : List pending.Candidate) (barriers barriers' : BarrierParts) (marked : IsMarked b) (is : IsStep b.items j d) (kept : AreKept b b' d) (items : b'.items ≡ edited d b.items) (later : b.next ≤ b'.next)
    (reactivated : AreReactivated d entries candidates') (queued : (l : pending.Candidate) → Contains candidates l → Contains candidates' l) (fewer : (way : Way) → length (barriers_on way barriers') ≤ length (barriers_on way barriers))
    (left : (way : Way) (item_id : ℕ) (stop : Barrier) → slice_get (barriers_on way barriers') item_id ≡ Some stop → 0 < stop.order_key → (slice_get (barriers_on way barriers) item_id ≡ Some stop)
    × ((n : ℕ) → slice_get (order_keys_of b.marks) n ≡ Some stop.order_key → (first_item j ≢ n) × (last_item j ≢ n)))
    (are : AreBarriers answers b entries bound candidates barriers) where
  abbrev Stands : Way → ℕ → Barrier → Type 0
  Stands = IsStanding answers b' entries bound candidates'

  -- an item with an old item id was there, and was left
  old_item : (m item_id : ℕ) → slice_get (item_ids_of b'.marks) m ≡ Some item_id → item_id < b.next → (n : ℕ) × Leaves d n × (slice_get (item_ids_of b.marks) n ≡ Some item_id)
  old_item m item_id at past = which (from_map (λ (x : Mark). x.item_id) b'.marks m item_id at)
    where
      which : (x : Mark) × (slice_get b'.marks m ≡ Some x) × (x.item_id ≡ item_id) → (n : ℕ) × Leaves d n × (slice_get (item_ids_of b.marks) n ≡ Some item_id)
      which (x, x_at, same) = by_mark (kept.created m x x_at)
        where
          by_mark : (b.next ≤ x.item_id) ⊎ IsLeft b d m x → (n : ℕ) × Leaves d n × (slice_get (item_ids_of b.marks) n ≡ Some item_id)
          by_mark (inl young) = absurd (omega (arith, young, same, past))
          by_mark (inr l) = (l.number, l.leaves, to_map (λ (y : Mark). y.item_id) b.marks l.number x l.mark_at ∙ ap (λ (z : ℕ). Some z) same)

  -- a declaration of an item that is left is there
  module _ (m i : ℕ) (decl : Decl) (leaves : Leaves d m) where
    stays_there : (item : Option Item) → slice_get b.items m ≡ item → decl_of_number item i ≡ Some decl → decl_of_number (slice_get b'.items (new_number d b.items m)) i ≡ Some decl
    stays_there None at is = absurd (let e : None ≡ Some decl = is in cc)
    stays_there (Some item) at is =
        ap (λ (xs : List Item). decl_of_number (slice_get xs (new_number d b.items m)) i) items
        ∙ ap (λ (o : Option Item). decl_of_number o i) (items_stay d b.items m item leaves at) ∙ is

  module _ (way : Way) (item_id : ℕ) (stop : Barrier) (old : item_id < b.next) (outside : (n : ℕ) → slice_get (order_keys_of b.marks) n ≡ Some stop.order_key → (first_item j ≢ n) × (last_item j ≢ n)) (w : HasBarrier answers b entries bound way item_id stop) where
    item_ids_differ : (m n : ℕ) → slice_get (item_ids_of b.marks) m ≡ Some item_id → slice_get (item_ids_of b.marks) n ≡ Some item_id → m ≡ n
    item_ids_differ m n at at' =
        let created : AreItemIds b.items (item_ids_of b.marks) b.next = (names b marked).0 in
        let m_is : slice_index (item_ids_of b.marks) m ≡ item_id = get_or_from_slice_get (item_ids_of b.marks) m item_id 0 at in
        let n_is : slice_index (item_ids_of b.marks) n ≡ item_id = get_or_from_slice_get (item_ids_of b.marks) n item_id 0 at' in
        let not_before : m < n → ⊥ = (λ less. created.differ m n 0 less (slice_get_within (item_ids_of b.marks) n item_id at') (m_is ∙ sym n_is)) in
        let not_behind : n < m → ⊥ = (λ less. created.differ n m 0 less (slice_get_within (item_ids_of b.marks) m item_id at) (n_is ∙ sym m_is)) in
        omega (arith, not_before, not_behind)

    stands : Leaves d w.m → is_moved d.moved w.p ≡ false → is_moved d.moved w.q ≡ false → HasBarrier answers b' entries bound way item_id stop
    stands leaves p_still q_still =
        let place_leaves : Leaves d w.place = (let o = outside w.place w.at in leaves_others b.items j d w.place is o.0 o.1) in
        record {
          m = new_number d b.items w.m;
          place = new_number d b.items w.place;
          p = w.p;
          q = w.q;
          barrier = subst (λ (xs : List Item). IsBarredBy way xs (new_number d b.items w.m) (new_number d b.items w.place) w.p w.q) (sym items)
              (go_on way b.items j d is w.m w.place w.p w.q leaves place_leaves p_still q_still w.barrier);
          apart = w.apart;
          created = map_kept (λ (m : Mark). m.item_id) b.marks b'.marks (new_number d b.items) w.m item_id (λ m at. kept.kept w.m m leaves at) w.created;
          at = map_kept (λ (m : Mark). m.order_key) b.marks b'.marks (new_number d b.items) w.place stop.order_key (λ m at. kept.kept w.place m place_leaves at) w.at;
          decl = stays_there w.m stop.decl w.p.decl leaves (slice_get b.items w.m) refl w.decl;
          under_moved = w.under_moved;
          under_other = w.under_other;
        }

    reactivates : (p : Pair) → is_moved d.moved p ≡ true → HasMovesEntry entries p way bound item_id → Contains candidates' (moves_candidate way bound item_id)
    reactivates p moved (c, told, among) = subst (Contains candidates') told (reactivated p c moved among)

    goes_over : Stands way item_id stop
    goes_over = by_item (stands_or_not (item_ids_of b'.marks) item_id)
      where
        by_q : Leaves d w.m → is_moved d.moved w.p ≡ false → (moved : Bool) → is_moved d.moved w.q ≡ moved → Stands way item_id stop
        by_q leaves p_still true moved = inr (inl (reactivates w.q moved w.under_other))
        by_q leaves p_still false q_still = inl (stands leaves p_still q_still)

        by_p : Leaves d w.m → (moved : Bool) → is_moved d.moved w.p ≡ moved → Stands way item_id stop
        by_p leaves true moved = inr (inl (reactivates w.p moved w.under_moved))
        by_p leaves false p_still = by_q leaves p_still (is_moved d.moved w.q) refl

        by_item : ((m : ℕ) × (slice_get (item_ids_of b'.marks) m ≡ Some item_id)) ⊎ ((m : ℕ) → slice_get (item_ids_of b'.marks) m ≡ Some item_id → ⊥) → Stands way item_id stop
        by_item (inr gone) = inr (inr gone)
        by_item (inl (m, at)) =
            let o : (n : ℕ) × Leaves d n × (slice_get (item_ids_of b.marks) n ≡ Some item_id) = old_item m item_id at old in
            by_p (subst (Leaves d) (item_ids_differ o.0 w.m o.2 w.created) o.1) (is_moved d.moved w.p) refl

  pub barriers_over : AreBarriers answers b' entries bound candidates' barriers'
  barriers_over = record { past = λ way. (let p = are.past way in let f = fewer way in omega (arith, p, f, later)); each = each }
    where
      each : (way : Way) (item_id : ℕ) (stop : Barrier) → slice_get (barriers_on way barriers') item_id ≡ Some stop → 0 < stop.order_key → Stands way item_id stop
      each way item_id stop at some = which (are.each way item_id stop l.0 some)
        where
          l : (slice_get (barriers_on way barriers) item_id ≡ Some stop) × ((n : ℕ) → slice_get (order_keys_of b.marks) n ≡ Some stop.order_key → (first_item j ≢ n) × (last_item j ≢ n))
          l = left way item_id stop at some

          old : item_id < b.next
          old = let p = are.past way in let i : item_id < length (barriers_on way barriers) = slice_get_within (barriers_on way barriers) item_id stop l.0 in omega (arith, p, i)

          which : IsStanding answers b entries bound candidates way item_id stop → Stands way item_id stop
          which (inl w) = goes_over way item_id stop old l.1 w
          which (inr (inl h)) = inr (inl (queued (moves_candidate way bound item_id) h))
          which (inr (inr gone)) = inr (inr (λ m at'. let o : (n : ℕ) × Leaves d n × (slice_get (item_ids_of b.marks) n ≡ Some item_id) = old_item m item_id at' old in gone o.0 o.2))

-- ---- While nothing is taken

pub barriers_stay : (answers answers' : List Answered) (b : IndexedParts) (entries entries' : List Entry) (bound : ℕ) (candidates candidates' : List pending.Candidate) (barriers : BarrierParts) → AreAmong answers answers' →
    ((x : Entry) → Contains entries x → Contains entries' x) → ((way : Way) (item_id : ℕ) → Contains candidates (moves_candidate way bound item_id) → Contains candidates' (moves_candidate way bound item_id)) →
    AreBarriers answers b entries bound candidates barriers → AreBarriers answers' b entries' bound candidates' barriers
barriers_stay answers answers' b entries entries' bound candidates candidates' barriers answered more queued are = record { past = are.past; each = each }
  where
    under : (p : Pair) (way : Way) (item_id : ℕ) → HasMovesEntry entries p way bound item_id → HasMovesEntry entries' p way bound item_id
    under p way item_id (c, told, among) = (c, told, more (entry_of p c) among)

    still : (way : Way) (item_id : ℕ) (stop : Barrier) → HasBarrier answers b entries bound way item_id stop → HasBarrier answers' b entries' bound way item_id stop
    still way item_id stop w = record {
      m = w.m;
      place = w.place;
      p = w.p;
      q = w.q;
      barrier = w.barrier;
      apart = answered (record { first = w.p.selector; second = w.q.selector; is_apart = false }) w.apart;
      created = w.created;
      at = w.at;
      decl = w.decl;
      under_moved = under w.p way item_id w.under_moved;
      under_other = under w.q way item_id w.under_other;
    }

    each : (way : Way) (item_id : ℕ) (stop : Barrier) → slice_get (barriers_on way barriers) item_id ≡ Some stop → 0 < stop.order_key → IsStanding answers' b entries' bound candidates' way item_id stop
    each way item_id stop at some = which (are.each way item_id stop at some)
      where
        which : IsStanding answers b entries bound candidates way item_id stop → IsStanding answers' b entries' bound candidates' way item_id stop
        which (inl w) = inl (still way item_id stop w)
        which (inr (inl h)) = inr (inl (queued way item_id h))
        which (inr (inr gone)) = inr (inr gone)

-- ---- What may be on the watch list

module _ (answers : List Answered) (source : List ℕ) (b : IndexedParts) (entries : List Entry) (bound : ℕ) (candidates : List pending.Candidate) where
  no_priorities : (Has : Step → Type 0) → ((k : Step) → Has k → ⊥) → MayBeWatched answers source b entries bound candidates Has
  no_priorities Has none = record {
    more = [];
    blocked = λ others watched a among. absurd (Contains-nil a among);
    remembered = λ others watched a among k e n is saves some same p pair. absurd (Contains-nil a among);
    all = λ k e n is saves some has. absurd (none k has);
  }

  same_priorities : (Has Has' : Step → Type 0) → ((k : Step) → Has' k → Has k) → MayBeWatched answers source b entries bound candidates Has → MayBeWatched answers source b entries bound candidates Has'
  same_priorities Has Has' less m = record {
    more = m.more;
    blocked = m.blocked;
    remembered = m.remembered;
    all = λ k e n is saves some has. m.all k e n is saves some (less k has);
  }

  abbrev IsWatchedOrQueued : List Watched → ℕ → Step → Type 0
  IsWatchedOrQueued more n k = ((by : Hindrance) × Contains more (record { priority = named (item_ids_of b.marks) n k; by = by })) ⊎ HasMovesCandidate b bound candidates k

  both_priorities : (Has Has' : Step → Type 0) → MayBeWatched answers source b entries bound candidates Has → MayBeWatched answers source b entries bound candidates Has' → MayBeWatched answers source b entries bound candidates (λ k. Has k ⊎ Has' k)
  both_priorities Has Has' m m' = record {
    more = m.more ++ m'.more;
    blocked = λ others watched a among. which_blocked others watched a (Contains-append_cases m.more m'.more a among);
    remembered = λ others watched a among. which_remembered others watched a (Contains-append_cases m.more m'.more a among);
    all = λ k e n is saves some has. which k e n is saves some has;
  }
    where
      which_blocked : (others : List pending.Candidate) (watched : List Watched) (a : Watched) → Contains m.more a ⊎ Contains m'.more a → IsBlockedHere answers source b.items (pending_of b others watched) a
      which_blocked others watched a (inl h) = m.blocked others watched a h
      which_blocked others watched a (inr h) = m'.blocked others watched a h

      which_remembered : (others : List pending.Candidate) (watched : List Watched) (a : Watched) → Contains m.more a ⊎ Contains m'.more a → (k : Step) (e : Edit) (n : ℕ) → IsStep b.items k e → Saves source b.items e n → 0 < n →
          a.priority ≡ named (item_ids_of b.marks) n k → (p : Pair) → Contains (pairs_of a.by) p → IsRemembered (pending_of b others watched) entries p n k
      which_remembered others watched a (inl h) = m.remembered others watched a h
      which_remembered others watched a (inr h) = m'.remembered others watched a h

      which : (k : Step) (e : Edit) (n : ℕ) → IsStep b.items k e → Saves source b.items e n → 0 < n → Has k ⊎ Has' k → IsWatchedOrQueued (m.more ++ m'.more) n k
      which k e n is saves some (inl h) = elim (m.all k e n is saves some h) [
        | inl w ↦ inl (w.0, Contains-append_left m.more m'.more (record { priority = named (item_ids_of b.marks) n k; by = w.0 }) w.1)
        | inr l ↦ inr l
      ]
      which k e n is saves some (inr h) = elim (m'.all k e n is saves some h) [
        | inl w ↦ inl (w.0, Contains-append_right m.more m'.more (record { priority = named (item_ids_of b.marks) n k; by = w.0 }) w.1)
        | inr l ↦ inr l
      ]

-- ---- What barriers hinder

-- the items of a join are those that it tells
both_within : (way : Way) (k : Step) (count : ℕ) → (first_item k < count) × (last_item k < count) → (mover way k < count) × (partner way k < count)
both_within Up k count inside = (inside.1, inside.0)
both_within Down k count inside = inside

module _ (first : FirstPriorityIsFirst) (blocked : BarredPrioritiesAreBlocked) (are_moves : BarredPrioritiesAreMoves) (barred : MovesAreBarred) (names : MarksAreNames) (answers : List Answered) (source : List ℕ) (b : IndexedParts) (entries : List Entry)
    (bound : ℕ) (candidates : List pending.Candidate) (marked : IsMarked b) (long : size source b.items ≤ bound) where
  abbrev item_ids : List ℕ
  item_ids = item_ids_of b.marks

  abbrev order_keys : List ℕ
  order_keys = order_keys_of b.marks

  created : AreItemIds b.items item_ids b.next
  created = (names b marked).0

  ascend : AreOrderKeys b.items order_keys
  ascend = (names b marked).1

  -- a step in a way of the item of an item id past a barrier
  abbrev IsOfItem : Way → ℕ → Barrier → Step → Type 0
  IsOfItem way item_id stop k = MovesPairs way k × (slice_index item_ids (mover way k) ≡ item_id) × IsPast way stop.order_key (slice_index order_keys (partner way k)) × (moves_number b.items k stop.decl ≡ true)

  -- order keys tell which numbers are past one
  past_number : (way : Way) (place order_key n : ℕ) → slice_get order_keys place ≡ Some order_key → n < length b.items → IsPast way order_key (slice_index order_keys n) → IsPast way place n
  past_number way place order_key n at here past = by_way way past
    where
      at_is : slice_index order_keys place ≡ order_key
      at_is = get_or_from_slice_get order_keys place order_key 0 at

      inside : n < length order_keys
      inside = let e = ascend.beside in omega (arith, e, here)

      place_inside : place < length order_keys
      place_inside = slice_get_within order_keys place order_key at

      same : place ≡ n → slice_index order_keys place ≡ slice_index order_keys n
      same e = ap (slice_index order_keys) e

      before : place < n → slice_index order_keys place < slice_index order_keys n
      before l = ascend.ascend place n 0 l inside

      behind : n < place → slice_index order_keys n < slice_index order_keys place
      behind l = ascend.ascend n place 0 l place_inside

      by_way : (v : Way) → IsPast v order_key (slice_index order_keys n) → IsPast v place n
      by_way Up less =
          let l : slice_index order_keys n < order_key = less in
          let not_before : place < n → ⊥ = (λ m. let f = before m in omega (arith, f, at_is, l)) in
          let not_same : place ≡ n → ⊥ = (λ e. let f = same e in omega (arith, f, at_is, l)) in
          let r : n < place = omega (arith, not_before, not_same) in r
      by_way Down less =
          let l : order_key < slice_index order_keys n = less in
          let not_behind : n < place → ⊥ = (λ m. let f = behind m in omega (arith, f, at_is, l)) in
          let not_same : place ≡ n → ⊥ = (λ e. let f = same e in omega (arith, f, at_is, l)) in
          let r : place < n = omega (arith, not_behind, not_same) in r

  module _ (way : Way) (item_id : ℕ) (stop : Barrier) (w : HasBarrier answers b entries bound way item_id stop) where
    abbrev priorities : List Watched
    priorities = barred_priorities b.items item_ids (OfPair w.p w.q) w.p.decl way w.m w.place bound

    mover_created : slice_index item_ids w.m ≡ item_id
    mover_created = get_or_from_slice_get item_ids w.m item_id 0 w.created

    are_blocked : (others : List pending.Candidate) (watched : List Watched) (a : Watched) → Contains priorities a → IsBlockedHere answers source b.items (pending_of b others watched) a
    are_blocked others watched a among = blocked answers source b.items item_ids b.next way w.m w.place w.p w.q bound created w.barrier w.apart a among

    under : (p : Pair) → Contains (pairs_of (OfPair w.p w.q)) p → HasMovesEntry entries p way bound item_id
    under p among = which (Contains-cons_cases w.p (w.q ∷ []) p among)
      where
        other : (w.q ≡ p) ⊎ Contains [] p → HasMovesEntry entries p way bound item_id
        other (inl e) = subst (λ (x : Pair). HasMovesEntry entries x way bound item_id) e w.under_other
        other (inr none) = absurd (Contains-nil p none)

        which : (w.p ≡ p) ⊎ Contains (w.q ∷ []) p → HasMovesEntry entries p way bound item_id
        which (inl e) = subst (λ (x : Pair). HasMovesEntry entries x way bound item_id) e w.under_moved
        which (inr h) = other (Contains-cons_cases w.q [] p h)

    are_remembered : (others : List pending.Candidate) (watched : List Watched) → AreNowRemembered source b.items (pending_of b others watched) priorities entries
    are_remembered others watched a among k e n is saves some same p pair =
        let u = are_moves b.items item_ids (OfPair w.p w.q) w.p.decl way w.m w.place bound a among in
        let move : MovesPairs way k × (slice_index item_ids w.m ≡ slice_index item_ids (mover way k)) = u.1 k n same in
        let c : HasMovesEntry entries p way bound item_id = under p (subst (λ (by : Hindrance). Contains (pairs_of by) p) (sym u.0) pair) in (
          c.0,
          subst (λ (l : pending.Candidate). IsCandidateOf (pending_of b others watched) l n k) (sym c.1)
              (inr (in_scope item_ids way item_id k move.0 (sym mover_created ∙ move.1), first source b.items bound long k e n saves order_keys)),
          c.2,
        )

    one_item : (m n : ℕ) → m < length item_ids → n < length item_ids → slice_index item_ids m ≡ slice_index item_ids n → m ≡ n
    one_item m n here there same =
        let not_before : m < n → ⊥ = (λ less. created.differ m n 0 less there same) in
        let not_behind : n < m → ⊥ = (λ less. created.differ n m 0 less here (sym same)) in
        omega (arith, not_before, not_behind)

    is_mover : (n : ℕ) → n < length b.items → slice_index item_ids n ≡ item_id → n ≡ w.m
    is_mover n here same = one_item n w.m (let e = created.beside in omega (arith, e, here)) (slice_get_within item_ids w.m item_id w.created) (same ∙ sym mover_created)

    -- of a share both rules have the declaration of the barrier
    moves_same : (v : Way) (k : Step) → MovesPairs v k → mover v k ≡ w.m → moves_number b.items k stop.decl ≡ true → moves_decl b.items k w.p.decl ≡ true
    moves_same Down (Share x y) down is has =
        ap (is_with (slice_get b.items y)) (sym w.decl ∙ ap (λ (n : ℕ). decl_of_number (slice_get b.items n) stop.decl) (sym is)) ∙ has
    moves_same Down (JoinSelDown x y) down is has = refl
    moves_same Down (JoinDeclDown x y) down is has = refl
    moves_same Down (JoinSelUp x y) down is has = refl
    moves_same Down (JoinDeclUp x y) down is has = refl
    moves_same Down (CutDecl n i) down is has = refl
    moves_same Down (CutSel n i) down is has = refl
    moves_same Up (Share x y) up is has = absurd up
    moves_same Up (JoinSelDown x y) up is has = refl
    moves_same Up (JoinDeclDown x y) up is has = refl
    moves_same Up (JoinSelUp x y) up is has = refl
    moves_same Up (JoinDeclUp x y) up is has = refl
    moves_same Up (CutDecl n i) up is has = refl
    moves_same Up (CutSel n i) up is has = refl

    all_there : (k : Step) (e : Edit) (n : ℕ) → IsStep b.items k e → Saves source b.items e n → 0 < n → IsOfItem way item_id stop k → (by : Hindrance) × Contains priorities (record { priority = named item_ids n k; by = by })
    all_there k e n is saves some (move, moves, past, decl) =
        let here : (mover way k < length b.items) × (partner way k < length b.items) = both_within way k (length b.items) (within b.items k e is) in
        let saved : size source b.items ≡ size source (edited e b.items) + n = saves in (
          OfPair w.p w.q,
          barred b.items item_ids (OfPair w.p w.q) w.p.decl way w.m w.place bound k n move (moves_same way k move (is_mover (mover way k) here.0 moves) decl) (is_mover (mover way k) here.0 moves) here.1
              (past_number way w.place stop.order_key (partner way k) w.at here.1 past) (omega (arith, saved, long)),
        )

    past_barrier : MayBeWatched answers source b entries bound candidates (IsOfItem way item_id stop)
    past_barrier = record { more = priorities; blocked = are_blocked; remembered = are_remembered; all = λ k e n is saves some past. inl (all_there k e n is saves some past) }

  module _ (barriers : BarrierParts) (are : AreBarriers answers b entries bound candidates barriers) where
    module _ (way : Way) where
      -- a step past the barrier of an item whose item id is below a number
      abbrev IsBelow : ℕ → Step → Type 0
      IsBelow count k = (slice_index item_ids (mover way k) < count) × IsBarredOn b barriers way k

      -- and of the item of one item id
      abbrev IsOfThis : ℕ → Step → Type 0
      IsOfThis item_id k = (slice_index item_ids (mover way k) ≡ item_id) × IsBarredOn b barriers way k

      -- where they are queued
      queued_priorities : (item_id : ℕ) → Contains candidates (moves_candidate way bound item_id) → MayBeWatched answers source b entries bound candidates (IsOfThis item_id)
      queued_priorities item_id queued = record {
        more = [];
        blocked = λ others watched a among. absurd (Contains-nil a among);
        remembered = λ others watched a among k e n is saves some same p pair. absurd (Contains-nil a among);
        all = λ k e n is saves some has. inr (way, has.1.0, subst (λ (x : ℕ). Contains candidates (moves_candidate way bound x)) (sym has.0) queued);
      }

      -- where the item is gone
      gone_priorities : (item_id : ℕ) → IsGone b item_id → MayBeWatched answers source b entries bound candidates (IsOfThis item_id)
      gone_priorities item_id gone = record {
        more = [];
        blocked = λ others watched a among. absurd (Contains-nil a among);
        remembered = λ others watched a among k e n is saves some same p pair. absurd (Contains-nil a among);
        all = λ k e n is saves some has.
            absurd (let here : (mover way k < length b.items) × (partner way k < length b.items) = both_within way k (length b.items) (within b.items k e is) in
            gone (mover way k) (slice_get-get_or item_ids (mover way k) 0 (let e = created.beside in omega (arith, e, here.0)) ∙ ap (λ (x : ℕ). Some x) has.0));
      }

      stop_is : (item_id : ℕ) (found : Option Barrier) (k : Step) → slice_get (barriers_on way barriers) item_id ≡ found → (past : IsOfThis item_id k) → Some past.1.1.0 ≡ found
      stop_is item_id found k at past = sym past.1.1.1 ∙ ap (slice_get (barriers_on way barriers)) past.0 ∙ at

      past_this : (item_id : ℕ) (found : Option Barrier) → slice_get (barriers_on way barriers) item_id ≡ found → MayBeWatched answers source b entries bound candidates (IsOfThis item_id)
      past_this item_id None at = no_priorities answers source b entries bound candidates (IsOfThis item_id) (λ k past. let e : Some past.1.1.0 ≡ None = stop_is item_id None k at past in cc)
      past_this item_id (Some stop) at = some_or_none (cases_lt 0 stop.order_key)
        where
          here : (k : Step) → (past : IsOfThis item_id k) → past.1.1.0 ≡ stop
          here k past = some-same (stop_is item_id (Some stop) k at past)

          of_item : (k : Step) → IsOfThis item_id k → IsOfItem way item_id stop k
          of_item k past = (
            past.1.0,
            past.0,
            subst (λ (x : Barrier). IsPast way x.order_key (slice_index order_keys (partner way k))) (here k past) past.1.1.3,
            subst (λ (x : Barrier). moves_number b.items k x.decl ≡ true) (here k past) past.1.2,
          )

          which : IsStanding answers b entries bound candidates way item_id stop → MayBeWatched answers source b entries bound candidates (IsOfThis item_id)
          which (inl w) = same_priorities answers source b entries bound candidates (IsOfItem way item_id stop) (IsOfThis item_id) of_item (past_barrier way item_id stop w)
          which (inr (inl queued)) = queued_priorities item_id queued
          which (inr (inr gone)) = gone_priorities item_id gone

          some_or_none : (0 < stop.order_key) ⊎ (stop.order_key ≤ 0) → MayBeWatched answers source b entries bound candidates (IsOfThis item_id)
          some_or_none (inl some) = which (are.each way item_id stop at some)
          some_or_none (inr none) = no_priorities answers source b entries bound candidates (IsOfThis item_id)
              (λ k past. let l : 0 < stop.order_key = subst (λ (x : Barrier). 0 < x.order_key) (here k past) past.1.1.2 in omega (arith, none, l))

      past_first : (count : ℕ) → MayBeWatched answers source b entries bound candidates (IsBelow count)
      past_first zero = no_priorities answers source b entries bound candidates (IsBelow zero) (λ k h. let l : slice_index item_ids (mover way k) < 0 = h.0 in omega (arith, l))
      past_first (suc count) =
          same_priorities answers source b entries bound candidates (λ k. IsOfThis count k ⊎ IsBelow count k) (IsBelow (suc count)) which
          (both_priorities answers source b entries bound candidates (IsOfThis count) (IsBelow count) (past_this count (slice_get (barriers_on way barriers) count) refl) (past_first count))
        where
          which : (k : Step) → IsBelow (suc count) k → IsOfThis count k ⊎ IsBelow count k
          which k (less, past) = elim (cases_lt (slice_index item_ids (mover way k)) count) [
            | inl l ↦ inr (l, past)
            | inr l ↦ inl ((let e : slice_index item_ids (mover way k) ≡ count = omega (arith, less, l) in e), past)
          ]

      barred_on : MayBeWatched answers source b entries bound candidates (IsBarredOn b barriers way)
      barred_on = same_priorities answers source b entries bound candidates (IsBelow (length (barriers_on way barriers))) (IsBarredOn b barriers way)
          (λ k past. (slice_get_within (barriers_on way barriers) (slice_index item_ids (mover way k)) past.1.0 past.1.1, past)) (past_first (length (barriers_on way barriers)))

    pub barred_watched : MayBeWatched answers source b entries bound candidates (IsBarred b barriers)
    barred_watched = same_priorities answers source b entries bound candidates (λ k. IsBarredOn b barriers Up k ⊎ IsBarredOn b barriers Down k) (IsBarred b barriers) which
        (both_priorities answers source b entries bound candidates (IsBarredOn b barriers Up) (IsBarredOn b barriers Down) (barred_on Up) (barred_on Down))
      where
        which : (k : Step) → IsBarred b barriers k → IsBarredOn b barriers Up k ⊎ IsBarredOn b barriers Down k
        which k (Up, past) = inl past
        which k (Down, past) = inr past
