-- The items of a window, one after the other.
use Rattle.std.proofs.Common.{◌≡◌, ◌⊎◌, ℕ, zero, suc, ◌+◌, ◌-◌, ◌<◌, ◌≤◌, Bool, true, false, List, Some, None, refl, sym, subst, inl, inr, arith}
use Rattle.std.specs.Prelude.{Option}
use Rattle.obstacles.specs.declared.obstacle.Obstacle.{Obstacle}
use Rattle.overlap.specs.PairsParts.{Answered}
use Rattle.step_obstacles.proofs.Looking.{told_stays}
use Rattle.step_obstacles.specs.Asking.{AskedParts, Stays}
use Rattle.step_obstacles.specs.Blocked.{AllPass, IsFound, IsTold, IsToldOf}
use Rattle.step_obstacles.specs.declared.facing.Source.{Source}
use Rattle.step_obstacles.specs.declared.window_search.Span.{Span}
use Rattle.step_obstacles.specs.Spans.{IsEnough, IsWithin, OfSpan}
use Rattle.step_obstacles.specs.Turns.{OfNumber, OfTurns, OfWindow, number_of}
use Rattle.window_order.specs.declared.window.Window.{Window}

less_or_same : (i n : ℕ) → i < n + 1 → (i < n) ⊎ (i ≡ n)
less_or_same zero zero less = inr refl
less_or_same zero (suc n) less = inl (omega arith)
less_or_same (suc i) zero less = absurd (omega arith)
less_or_same (suc i) (suc n) less = which (less_or_same i n (omega arith))
  where
    which : (i < n) ⊎ (i ≡ n) → (suc i < suc n) ⊎ (suc i ≡ suc n)
    which (inl h) = inl (omega (arith, h))
    which (inr h) = inr (omega (arith, h))

pub in_turn : (s : Span) (upwards : Bool) (turn : ℕ) → s.first + turn < s.end → (s.first ≤ number_of s upwards turn) × (number_of s upwards turn < s.end)
in_turn s true turn h = (omega (arith, h), omega (arith, h))
in_turn s false turn h = (omega (arith, h), omega (arith, h))

-- so it lies in the window
pub turn_within : (w : Window) (s : Span) (upwards : Bool) (turn number : ℕ) → IsWithin w s → number ≡ number_of s upwards turn → s.first + turn < s.end → (w.start ≤ number) × (number ≤ w.last)
turn_within w s upwards turn number within is less =
    let b = in_turn s upwards turn less in
    let low = b.0 in
    let high = b.1 in
    let above = within.above in
    let below = within.below in
    (omega (arith, low, above, is), omega (arith, high, below, is))

module _ (w : Window) (s : Span) (sources : List Source) (upwards : Bool) where
  pub turn_more : (old new : AskedParts) (turn number : ℕ) (found : Option Obstacle) → found ≡ None → number ≡ number_of s upwards turn → Stays old new → AllPass old.answers w (OfTurns w s upwards turn sources) →
      IsToldOf new.answers w (OfNumber w.items.now sources number) found → AllPass new.answers w (OfTurns w s upwards (turn + 1) sources)
  turn_more old new turn number found e is stays pass told by (n, less, of) = which (less_or_same n turn less)
    where
      next : AllPass new.answers w (OfNumber w.items.now sources (number_of s upwards turn))
      next = subst (λ (m : ℕ). AllPass new.answers w (OfNumber w.items.now sources m)) is (subst (λ (f : Option Obstacle). IsToldOf new.answers w (OfNumber w.items.now sources number) f) e told)

      which : (n < turn) ⊎ (n ≡ turn) → IsTold new.answers w by false
      which (inl h) = told_stays old new w by stays (pass by (n, h, of))
      which (inr h) = next by (subst (λ (m : ℕ). OfNumber w.items.now sources (number_of s upwards m) by) h of)

  pub turn_found : (answers : List Answered) (turn number : ℕ) (found : Option Obstacle) (o : Obstacle) → found ≡ Some o → number ≡ number_of s upwards turn → IsWithin w s → s.first + turn < s.end →
      IsToldOf answers w (OfNumber w.items.now sources number) found → IsFound answers w (OfWindow w sources) o
  turn_found answers turn number found o e is within less told =
      let f : IsFound answers w (OfNumber w.items.now sources number) o = subst (λ (f : Option Obstacle). IsToldOf answers w (OfNumber w.items.now sources number) f) e told in
      let b = turn_within w s upwards turn number within is less in
      record { by = f.by; of = (number, b.0, b.1, f.of); names = f.names; told = f.told }

  -- each item has its turn
  turn_of : (n : ℕ) → s.first ≤ n → n < s.end → (upwards : Bool) → (t : ℕ) × (t < s.end - s.first) × (number_of s upwards t ≡ n)
  turn_of n low high true = (s.end - 1 - n, omega (arith, low, high), omega (arith, low, high))
  turn_of n low high false = (n - s.first, omega (arith, low, high), omega (arith, low, high))

  -- the items of a span that is enough are all that count
  pub turns_done : (answers : List Answered) (turn : ℕ) → IsEnough w s sources → s.end - s.first ≤ turn → AllPass answers w (OfTurns w s upwards turn sources) → AllPass answers w (OfWindow w sources)
  turns_done answers turn enough all pass by of crosses =
      let met : OfSpan w s sources by = enough by of crosses in
      let t = turn_of met.0 met.1 met.2 upwards in
      let few = t.1 in
      pass by (t.0, omega (arith, few, all), subst (λ (m : ℕ). OfNumber w.items.now sources m by) (sym t.2) met.3) crosses
