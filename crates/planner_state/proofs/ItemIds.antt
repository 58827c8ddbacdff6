-- Items that are created, found one item id after the other.
use Rattle.std.proofs.Common.{◌≡◌, ◌≢◌, ◌⊎◌, ℕ, ◌+◌, ◌<◌, ◌≤◌, Bool, List, [], ◌∷◌, ◌++◌, Some, length, sym, subst, inl, inr, arith}
use Rattle.std.specs.Prelude.{slice_get}
use Rattle.std.specs.List.{All, AllPairs, Contains}
use Rattle.std.proofs.lemmas.Bool.{cases_lt}
use Rattle.std.proofs.lemmas.List.Elements.{Contains-append_cases, Contains-append_left, Contains-append_right}
use Rattle.std.proofs.lemmas.Option.{get_or_from_slice_get, slice_get_within}
use Rattle.list_facts.proofs.Members.{Contains-cons_cases, Contains-here, Contains-nil}
use Rattle.css_model.specs.declared.sheet.Item.{Item}
use Rattle.pending_laws.specs.Candidates as pending
use Rattle.indexed_sheet.specs.IndexedParts.{IndexedParts}
use Rattle.indexed_sheet.specs.declared.marks.Mark.{Mark}
use Rattle.indexed_sheet.specs.MarkList.{AreMarks}
use Rattle.planner_state.specs.Created.{AreCreated, IsCreatedAt}
use Rattle.planner_state.specs.Enqueuing.{AreEnqueued, IsEnqueuedAt}
use Rattle.rule_tables.specs.Tables.{TableParts}
use Rattle.planner_state.proofs.Enqueued.{one_differs}

-- those of these item ids, from `next` on, have these numbers
pub record CreatedSoFar (marks : List Mark) (next item_id : ℕ) (numbers : List ℕ) : Type 0 where
  pub there : (n : ℕ) → Contains numbers n → n < length marks
  pub only : (n : ℕ) (m : Mark) → slice_get marks n ≡ Some m → next ≤ m.item_id → m.item_id < item_id → Contains numbers n

pub none_created : (marks : List Mark) (next : ℕ) (numbers : List ℕ) → numbers ≡ [] → CreatedSoFar marks next next numbers
none_created marks next numbers none = record {
  there = λ n among. absurd (Contains-nil n (subst (λ (ns : List ℕ). Contains ns n) none among));
  only = λ n m at later before. absurd (omega (arith, later, before));
}

-- an item is told by its item id
same_number : (marks : List Mark) → AllPairs (λ m n. m.item_id ≢ n.item_id) marks → (n k : ℕ) (m o : Mark) → slice_get marks n ≡ Some m → slice_get marks k ≡ Some o → m.item_id ≡ o.item_id → n ≡ k
same_number marks differ n k m o at at' same = which (cases_lt n k) (cases_lt k n)
  where
    which : (n < k) ⊎ (k ≤ n) → (k < n) ⊎ (n ≤ k) → n ≡ k
    which (inl less) other = absurd (one_differs marks differ n k m o less at at' same)
    which (inr most) (inl less) = absurd (one_differs marks differ k n o m less at' at (sym same))
    which (inr most) (inr least) = omega (arith, most, least)

pub one_created : (marks : List Mark) (next item_id number : ℕ) (numbers more : List ℕ) → AllPairs (λ m n. m.item_id ≢ n.item_id) marks → IsCreatedAt marks number item_id → more ≡ numbers ++ number ∷ [] →
    CreatedSoFar marks next item_id numbers → CreatedSoFar marks next (item_id + 1) more
one_created marks next item_id number numbers more differ (o, o_at, is) more_is old = record { there = there; only = only }
  where
    there : (n : ℕ) → Contains more n → n < length marks
    there n among = which (Contains-append_cases numbers (number ∷ []) n (subst (λ (ns : List ℕ). Contains ns n) more_is among))
      where
        here : (number ≡ n) ⊎ Contains [] n → n < length marks
        here (inl same) = subst (λ (k : ℕ). k < length marks) same (slice_get_within marks number o o_at)
        here (inr none) = absurd (Contains-nil n none)

        which : Contains numbers n ⊎ Contains (number ∷ []) n → n < length marks
        which (inl before) = old.there n before
        which (inr last) = here (Contains-cons_cases number [] n last)

    only : (n : ℕ) (m : Mark) → slice_get marks n ≡ Some m → next ≤ m.item_id → m.item_id < item_id + 1 → Contains more n
    only n m at later before = subst (λ (ns : List ℕ). Contains ns n) (sym more_is) (which (cases_lt m.item_id item_id))
      where
        which : (m.item_id < item_id) ⊎ (item_id ≤ m.item_id) → Contains (numbers ++ number ∷ []) n
        which (inl less) = Contains-append_left numbers (number ∷ []) n (old.only n m at later less)
        which (inr least) =
            let same : n ≡ number = same_number marks differ n number m o at o_at (omega (arith, is, least, before)) in
            Contains-append_right numbers (number ∷ []) n (subst (λ (k : ℕ). Contains (number ∷ []) k) (sym same) (Contains-here number []))

-- item ids are past
past_at : (marks : List Mark) (next n : ℕ) (m : Mark) → All (λ x. x.item_id < next) marks → slice_get marks n ≡ Some m → m.item_id < next
past_at marks next n m past at = subst (λ (x : Mark). x.item_id < next) (get_or_from_slice_get marks n m m at) (past n m (slice_get_within marks n m at))

pub all_created : (indexed : IndexedParts) (marks : List Mark) (next item_id : ℕ) (numbers : List ℕ) → marks ≡ indexed.marks → AreMarks indexed.marks indexed.next → indexed.next ≤ item_id → CreatedSoFar marks next item_id numbers → AreCreated indexed next numbers
all_created indexed marks next item_id numbers same are past so_far = record {
  there = λ n among. subst (λ (ms : List Mark). n < length ms) same (so_far.there n among);
  only = λ n m at later. so_far.only n m (subst (λ (ms : List Mark). slice_get ms n ≡ Some m) (sym same) at) later (before n m at);
}
  where
    before : (n : ℕ) (m : Mark) → slice_get indexed.marks n ≡ Some m → m.item_id < item_id
    before n m at = let h : m.item_id < indexed.next = past_at indexed.marks indexed.next n m are.past at in omega (arith, h, past)

-- where those of these numbers are enqueued, all are
pub enqueued_all : (put : Bool) (next : ℕ) (indexed : IndexedParts) (marks : List Mark) (items : List Item) (numbers told : List ℕ) (t : TableParts) (l : List pending.Candidate) (h : List ℕ) →
    marks ≡ indexed.marks → items ≡ indexed.items → told ≡ numbers → AreCreated indexed next numbers → ((n : ℕ) → Contains told n → IsEnqueuedAt put next marks items t l h n) → AreEnqueued put next indexed.marks indexed.items t l h
enqueued_all put next indexed marks items numbers told t l h marks_are items_are told_are created enqueued n m x at item_at later =
    enqueued n (subst (λ (ns : List ℕ). Contains ns n) (sym told_are) (created.only n m at later)) m x
    (subst (λ (ms : List Mark). slice_get ms n ≡ Some m) (sym marks_are) at) (subst (λ (xs : List Item). slice_get xs n ≡ Some x) (sym items_are) item_at) later
