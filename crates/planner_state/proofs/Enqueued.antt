-- Items that are enqueued one after the other.
use Rattle.std.proofs.Common.{◌≡◌, ◌≢◌, ◌⊎◌, ℕ, ◌+◌, ◌<◌, ◌≤◌, Bool, List, Some, length, get_or, sym, ◌∙◌, subst, inl, inr, arith}
use Rattle.std.specs.Prelude.{slice_get}
use Rattle.std.specs.List.{AllPairs}
use Rattle.std.proofs.lemmas.Bool.{cases_lt}
use Rattle.std.proofs.lemmas.Option.{get_or_from_slice_get, same_Some, slice_get_within}
use Rattle.css_model.specs.declared.sheet.Item.{Item}
use Rattle.pending_laws.specs.Candidates as pending
use Rattle.indexed_sheet.specs.declared.marks.Mark.{Mark}
use Rattle.rule_tables.specs.Tables.{TableParts}
use Rattle.planner_state.specs.Enqueuing.{AreEnqueued, IsEnqueued, IsEnqueuedAt, StayBut, StayBefore}

-- so are those of the first items
pub record SoFar (put : Bool) (next count : ℕ) (marks : List Mark) (items : List Item) (tables : TableParts) (candidates : List pending.Candidate) (homes : List ℕ) : Type 0 where
  pub each : (n : ℕ) → n < count → IsEnqueuedAt put next marks items tables candidates homes n

pub none_yet : (put : Bool) (next : ℕ) (marks : List Mark) (items : List Item) (tables : TableParts) (candidates : List pending.Candidate) (homes : List ℕ) → SoFar put next 0 marks items tables candidates homes
none_yet put next marks items tables candidates homes = record { each = λ n less m x at item_at later. absurd (omega (arith, less)) }

pub stay_all : (next : ℕ) (tables : TableParts) (candidates : List pending.Candidate) (homes : List ℕ) → StayBefore next tables candidates homes tables candidates homes
stay_all next tables candidates homes = record { covered = λ rules c. c; queued = λ l c. c; kept = λ b l less at. at }

pub stay_on : (next : ℕ) (t t' t'' : TableParts) (l l' l'' : List pending.Candidate) (h h' h'' : List ℕ) → StayBefore next t l h t' l' h' → StayBefore next t' l' h' t'' l'' h'' → StayBefore next t l h t'' l'' h''
stay_on next t t' t'' l l' l'' h h' h'' a b = record {
  covered = λ rules c. b.covered rules (a.covered rules c);
  queued = λ x c. b.queued x (a.queued x c);
  kept = λ n x less at. b.kept n x less (a.kept n x less at);
}

-- item ids differ, so that what is enqueued stays so while the next one is
pub one_differs : (marks : List Mark) → AllPairs (λ m n. m.item_id ≢ n.item_id) marks → (n k : ℕ) (m m' : Mark) → n < k → slice_get marks n ≡ Some m → slice_get marks k ≡ Some m' → m.item_id ≢ m'.item_id
one_differs marks differ n k m m' less at at' =
    subst (λ (x : Mark). x.item_id ≢ m'.item_id) (get_or_from_slice_get marks n m m at)
    (subst (λ (x : Mark). (get_or marks n m).item_id ≢ x.item_id) (get_or_from_slice_get marks k m' m at') (differ n k m less (slice_get_within marks k m' at')))

still : (put : Bool) (t t' : TableParts) (l l' : List pending.Candidate) (h h' : List ℕ) (item_id : ℕ) (m : Mark) (x : Item) → m.item_id ≢ item_id → StayBut item_id t l h t' l' h' → IsEnqueued put t l h m x → IsEnqueued put t' l' h' m x
still put t t' l l' h h' item_id m x differs s g = record {
  candidate = s.queued _ g.candidate;
  home = s.kept m.item_id m.order_key differs g.home;
  covered = λ asked r is. s.covered _ (g.covered asked r is);
}

module _ (put : Bool) (next number : ℕ) (marks : List Mark) (items : List Item) (t t' : TableParts) (l l' : List pending.Candidate) (h h' : List ℕ) (m : Mark) (x : Item)
    (differ : AllPairs (λ m n. m.item_id ≢ n.item_id) marks) (at : slice_get marks number ≡ Some m) (item_at : slice_get items number ≡ Some x)
    (now : next ≤ m.item_id → IsEnqueued put t' l' h' m x) (stay : StayBut m.item_id t l h t' l' h') where
  -- the one of this number is enqueued now
  pub enqueued_now : IsEnqueuedAt put next marks items t' l' h' number
  enqueued_now o y o_at y_at later =
      let same : o ≡ m = same_Some o m (sym o_at ∙ at) in
      let same_item : y ≡ x = same_Some y x (sym y_at ∙ item_at) in
      subst (λ (z : Mark). IsEnqueued put t' l' h' z y) (sym same) (subst (λ (z : Item). IsEnqueued put t' l' h' m z) (sym same_item) (now (subst (λ (z : Mark). next ≤ z.item_id) same later)))

  -- and those stay so that were
  pub enqueued_still : (n : ℕ) → IsEnqueuedAt put next marks items t l h n → IsEnqueuedAt put next marks items t' l' h' n
  enqueued_still n old = which (cases_lt n number) (cases_lt number n)
    where
      which : (n < number) ⊎ (number ≤ n) → (number < n) ⊎ (n ≤ number) → IsEnqueuedAt put next marks items t' l' h' n
      which (inl before) other = λ o y o_at y_at later. still put t t' l l' h h' m.item_id o y (one_differs marks differ n number o m before o_at at) stay (old o y o_at y_at later)
      which (inr most) (inl behind) = λ o y o_at y_at later. still put t t' l l' h h' m.item_id o y (λ e. one_differs marks differ number n m o behind at o_at (sym e)) stay (old o y o_at y_at later)
      which (inr most) (inr least) = let here : number ≡ n = omega (arith, most, least) in subst (IsEnqueuedAt put next marks items t' l' h') here enqueued_now

  pub one_more : SoFar put next number marks items t l h → SoFar put next (number + 1) marks items t' l' h'
  one_more old = record { each = each }
    where
      each : (n : ℕ) → n < number + 1 → IsEnqueuedAt put next marks items t' l' h' n
      each n less = which (cases_lt n number)
        where
          which : (n < number) ⊎ (number ≤ n) → IsEnqueuedAt put next marks items t' l' h' n
          which (inl before) = enqueued_still n (old.each n before)
          which (inr behind) = let here : number ≡ n = omega (arith, less, behind) in subst (IsEnqueuedAt put next marks items t' l' h') here enqueued_now

pub all_enqueued : (put : Bool) (next count : ℕ) (marks : List Mark) (items : List Item) (t : TableParts) (l : List pending.Candidate) (h : List ℕ) → length marks ≤ count → SoFar put next count marks items t l h → AreEnqueued put next marks items t l h
all_enqueued put next count marks items t l h whole done n m x at item_at later = done.each n (let w = slice_get_within marks n m at in omega (arith, w, whole)) m x at item_at later
