-- What the tests of a window tell.
use Rattle.std.proofs.Common.{◌≡◌, ◌↔◌, ℕ, Bool, true, false, not, sym, ◌∙◌}
use Rattle.std.proofs.lemmas.Bool.{false≢true, not-true, not_from_false, false_from_ne_true}
use Rattle.css_model.specs.Cascade.Order.{Pair, HasPair, IsBefore, IsBeforeKept}
use Rattle.order_laws.specs.Reversing.{Differ}
use Rattle.window_order.specs.declared.window.Window.{Window}
use Rattle.window_order.specs.Reversed.{IsReversed, IsKeptReversed, behind_of, new_of, old_of}

module _ (w : Window) (p : Pair) where
  none_behind : (s : Bool) → s ≡ false → (s ≡ true) ↔ HasPair (behind_of w) p → HasPair (behind_of w) p → ⊥
  none_behind s e f h = false≢true (sym e ∙ f.1 h)

  not_behind : (s : Bool) → (s ≡ true) ↔ HasPair (behind_of w) p → (HasPair (behind_of w) p → ⊥) → not s ≡ true
  not_behind s f none = not_from_false s (false_from_ne_true s (λ e. none (f.0 e)))

pub reversed_told : (w : Window) (p q : Pair) (other first second : Bool) → other ≡ true → (other ≡ true) ↔ Differ (IsBefore (old_of w) p q) (IsBefore (new_of w) p q) → first ≡ false →
    (first ≡ true) ↔ HasPair (behind_of w) p → (second ≡ true) ↔ HasPair (behind_of w) q → (not second ≡ true) ↔ IsReversed w p q
reversed_told w p q other first second is_other by_order not_first by_first by_second = (
  λ h. record {
    order = by_order.0 is_other;
    first = none_behind w p first not_first by_first;
    second = none_behind w q second (not-true second h) by_second;
  },
  λ r. not_behind w q second by_second r.second,
)

pub kept_reversed_told : (w : Window) (p : Pair) (n : ℕ) (other first : Bool) → other ≡ true → (other ≡ true) ↔ Differ (IsBeforeKept (old_of w) p n) (IsBeforeKept (new_of w) p n) →
    (first ≡ true) ↔ HasPair (behind_of w) p → (not first ≡ true) ↔ IsKeptReversed w p n
kept_reversed_told w p n other first is_other by_order by_first = (
  λ h. record {
    order = by_order.0 is_other;
    first = none_behind w p first (not-true first h) by_first;
  },
  λ r. not_behind w p first by_first r.first,
)
