-- What is told of one after the other.
use Rattle.std.proofs.Common.{◌≡◌, ◌⊎◌, ℕ, zero, suc, ◌+◌, ◌<◌, ◌≤◌, false, List, [], ◌∷◌, length, get_or, take, Some, None, refl, sym, ap, ◌∙◌, subst, inl, inr, arith}
use Rattle.std.specs.Prelude.{Option, slice_get}
use Rattle.std.specs.List.{Contains}
use Rattle.cascade_laws.proofs.ForCallers.{some-same}
use Rattle.list_facts.proofs.Members.{Contains-here, Contains-there, Contains-nil, Contains-cons_cases}
use Rattle.obstacles.specs.declared.obstacle.Obstacle.{Obstacle}
use Rattle.overlap.specs.PairsParts.{Answered}
use Rattle.step_obstacles.specs.Among.{Among}
use Rattle.step_obstacles.specs.Asking.{AskedParts, Stays}
use Rattle.step_obstacles.specs.Blocked.{AllPass, IsFound, IsTold, IsToldOf}
use Rattle.plan_laws.specs.Barrier.Hindering.{Hindrance, OfPair, OfKept}
use Rattle.window_order.specs.declared.window.Window.{Window}

-- ---- Lists

pub at_least : {X : Type 0} (xs : List X) (i : ℕ) → i < length xs → (x : X) × (slice_get xs i ≡ Some x) × Contains xs x
at_least {X} [] i less = absurd (omega arith)
at_least {X} (y ∷ xs) zero less = (y, refl, Contains-here y xs)
at_least {X} (y ∷ xs) (suc i) less = let w = at_least xs i (omega arith) in (w.0, w.1, Contains-there y xs w.0 w.2)

pub member_at : {X : Type 0} (xs : List X) (i : ℕ) (x : X) → slice_get xs i ≡ Some x → Contains xs x
member_at {X} [] i x at = absurd (let e : None ≡ Some x = at in cc)
member_at {X} (y ∷ xs) zero x at = subst (λ (z : X). Contains (y ∷ xs) z) (some-same at) (Contains-here y xs)
member_at {X} (y ∷ xs) (suc i) x at = Contains-there y xs x (member_at xs i x at)

pub get_at : {X : Type 0} (xs : List X) (i : ℕ) (d : X) → i < length xs → slice_get xs i ≡ Some (get_or xs i d)
get_at {X} [] i d less = absurd (omega arith)
get_at {X} (y ∷ xs) zero d less = refl
get_at {X} (y ∷ xs) (suc i) d less = get_at xs i d (omega arith)

-- one of the first ones is an earlier one, or the last of them
taken_next : {X : Type 0} (xs : List X) (i : ℕ) (x : X) → Contains (take (suc i) xs) x → Contains (take i xs) x ⊎ (slice_get xs i ≡ Some x)
taken_next {X} [] i x h = absurd (Contains-nil x h)
taken_next {X} (y ∷ xs) zero x h = which (Contains-cons_cases y (take 0 xs) x h)
  where
    none : (ys : List X) → take 0 ys ≡ []
    none [] = refl
    none (z ∷ ys) = refl

    which : (y ≡ x) ⊎ Contains (take 0 xs) x → Contains (take 0 (y ∷ xs)) x ⊎ (Some y ≡ Some x)
    which (inl e) = inr (ap (λ (z : X). Some z) e)
    which (inr g) = absurd (Contains-nil x (subst (λ ys. Contains ys x) (none xs) g))
taken_next {X} (y ∷ xs) (suc i) x h = which (taken_next xs i x) (Contains-cons_cases y (take (suc i) xs) x h)
  where
    later : Contains (take i xs) x ⊎ (slice_get xs i ≡ Some x) → Contains (y ∷ take i xs) x ⊎ (slice_get xs i ≡ Some x)
    later (inl g) = inl (Contains-there y (take i xs) x g)
    later (inr e) = inr e

    which : (Contains (take (suc i) xs) x → Contains (take i xs) x ⊎ (slice_get xs i ≡ Some x)) → (y ≡ x) ⊎ Contains (take (suc i) xs) x → Contains (y ∷ take i xs) x ⊎ (slice_get xs i ≡ Some x)
    which ih (inl e) = inl (subst (λ (z : X). Contains (y ∷ take i xs) z) e (Contains-here y (take i xs)))
    which ih (inr g) = later (ih g)

pub taken_more : {X : Type 0} (xs : List X) (i : ℕ) (x : X) → Contains (take (i + 1) xs) x → Contains (take i xs) x ⊎ (slice_get xs i ≡ Some x)
taken_more {X} xs i x h = taken_next xs i x (let e : i + 1 ≡ suc i = omega arith in subst (λ (n : ℕ). Contains (take n xs) x) e h)

pub taken_all : {X : Type 0} (xs : List X) (i : ℕ) → length xs ≤ i → take i xs ≡ xs
taken_all {X} [] zero less = refl
taken_all {X} [] (suc i) less = refl
taken_all {X} (y ∷ xs) zero less = absurd (omega arith)
taken_all {X} (y ∷ xs) (suc i) less = ap (λ ys. y ∷ ys) (taken_all xs i (omega arith))

-- ---- What is told stays

pub told_stays : (old new : AskedParts) (w : Window) (by : Hindrance) → Stays old new → IsTold old.answers w by false → IsTold new.answers w by false
told_stays old new w (OfPair p q) stays told crosses = let h = told crosses in (h.0, stays.held p.selector q.selector h.0 h.1, h.2)
told_stays old new w (OfKept p number) stays told crosses = told crosses

-- ---- One more

module _ {X : Type 0} (w : Window) (xs : List X) (Of : X → Hindrance → Type 0) where
  pub none_yet : (answers : List Answered) → AllPass answers w (Among (take 0 xs) Of)
  none_yet answers by (x, inside, of) = absurd (Contains-nil x (subst (λ ys. Contains ys x) (none xs) inside))
    where
      none : (ys : List X) → take 0 ys ≡ []
      none [] = refl
      none (y ∷ ys) = refl

  pub one_more : (old new : AskedParts) (i : ℕ) → Stays old new → AllPass old.answers w (Among (take i xs) Of) →
      ((x : X) → slice_get xs i ≡ Some x → AllPass new.answers w (Of x)) → AllPass new.answers w (Among (take (i + 1) xs) Of)
  one_more old new i stays pass next by (x, inside, of) = which (taken_more xs i x inside)
    where
      which : Contains (take i xs) x ⊎ (slice_get xs i ≡ Some x) → IsTold new.answers w by false
      which (inl h) = told_stays old new w by stays (pass by (x, h, of))
      which (inr at) = next x at by of

  pub all_done : (answers : List Answered) (i : ℕ) → length xs ≤ i → AllPass answers w (Among (take i xs) Of) → AllPass answers w (Among xs Of)
  all_done answers i less pass = subst (λ ys. AllPass answers w (Among ys Of)) (taken_all xs i less) pass

  pub found_here : (answers : List Answered) (i : ℕ) (o : Obstacle) → i < length xs → ((x : X) → slice_get xs i ≡ Some x → IsFound answers w (Of x) o) → IsFound answers w (Among xs Of) o
  found_here answers i o less next =
      let at = at_least xs i less in
      let f : IsFound answers w (Of at.0) o = next at.0 at.1 in
      record { by = f.by; of = (at.0, at.2, f.of); names = f.names; told = f.told }

  -- by what is found of the next one
  pub one_more_none : (old new : AskedParts) (i : ℕ) (found : Option Obstacle) → found ≡ None → Stays old new → AllPass old.answers w (Among (take i xs) Of) →
      ((x : X) → slice_get xs i ≡ Some x → IsToldOf new.answers w (Of x) found) → AllPass new.answers w (Among (take (i + 1) xs) Of)
  one_more_none old new i found e stays pass next = one_more old new i stays pass (λ x at. subst (λ (f : Option Obstacle). IsToldOf new.answers w (Of x) f) e (next x at))

  pub found_some : (answers : List Answered) (i : ℕ) (found : Option Obstacle) (o : Obstacle) → found ≡ Some o → i < length xs → ((x : X) → slice_get xs i ≡ Some x → IsToldOf answers w (Of x) found) → IsFound answers w (Among xs Of) o
  found_some answers i found o e less next = found_here answers i o less (λ x at. subst (λ (f : Option Obstacle). IsToldOf answers w (Of x) f) e (next x at))

  -- the same of the one that a loop has at hand
  pub one_more_got : (old new : AskedParts) (i : ℕ) (d : X) (found : Option Obstacle) → found ≡ None → i < length xs → Stays old new → AllPass old.answers w (Among (take i xs) Of) →
      IsToldOf new.answers w (Of (get_or xs i d)) found → AllPass new.answers w (Among (take (i + 1) xs) Of)
  one_more_got old new i d found e less stays pass told =
      one_more_none old new i found e stays pass (λ x at. subst (λ (y : X). IsToldOf new.answers w (Of y) found) (some-same (sym (get_at xs i d less) ∙ at)) told)

  pub found_got : (answers : List Answered) (i : ℕ) (d : X) (found : Option Obstacle) (o : Obstacle) → found ≡ Some o → i < length xs → IsToldOf answers w (Of (get_or xs i d)) found → IsFound answers w (Among xs Of) o
  found_got answers i d found o e less told =
      found_some answers i found o e less (λ x at. subst (λ (y : X). IsToldOf answers w (Of y) found) (some-same (sym (get_at xs i d less) ∙ at)) told)
