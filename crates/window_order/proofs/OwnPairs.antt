-- Where pairs stand that no other rule has.
use Rattle.std.proofs.Common.{◌≡◌, ◌≢◌, ◌⊎◌, ℕ, zero, suc, ◌+◌, ◌-◌, ◌<◌, ◌≤◌, List, [], ◌∷◌, length, take, drop, Some, None, refl, sym, ap, ◌∙◌, subst, arith}
use Rattle.std.specs.Prelude.{slice_get, slice_range}
use Rattle.cascade_laws.proofs.ForCallers.{some-same}
use Rattle.css_model.specs.Cascade.Order.{HasPair, Pair}
use Rattle.css_model.specs.declared.sheet.Item.{Item}
use Rattle.css_model.specs.declared.sheet.Item.TheVariants.{Rule}
use Rattle.css_model.specs.Sheets.RuleParts.{RuleParts}
use Rattle.order_laws.proofs.ForCallers.{InRule, has_at, has_rule}
use Rattle.pending_laws.specs.Facts.{HasOwnPairs}
use Rattle.window_order.proofs.Ranges.{at_range, get_drop}
use Rattle.window_order.specs.Places.{IsLastPlace, IsStanding}
use Rattle.window_order.specs.Reversed.{behind_of, middle_of}
use Rattle.window_order.specs.declared.place.Standing.TheVariants.{Last}
use Rattle.window_order.specs.declared.window.Window.{Window}

-- ---- The item of a pair

record IsInRule (items : List Item) (p : Pair) : Type 0 where
  pub number : ℕ
  pub rule : RuleParts
  pub rule_at : slice_get items number ≡ Some (Rule rule)
  pub has : InRule rule p

in_rule : (items : List Item) (p : Pair) → HasPair items p → IsInRule items p
in_rule items p h = record {
  number = h.0.item;
  rule = h.1.rule;
  rule_at = h.1.rule_at;
  has = (has_rule h.1.rule p).0 (
    record { item = 0; position = h.0.position },
    record {
      rule = h.1.rule;
      decl = h.1.decl;
      rule_at = refl;
      selector_in = h.1.selector_in;
      decl_at = h.1.decl_at;
      decl_is = h.1.decl_is;
    },
  );
}

in_one : (x : Item) (p : Pair) (w : IsInRule (x ∷ []) p) → x ≡ Rule w.rule
in_one x p w = first x w.number w.rule w.rule_at
  where
    first : (x : Item) (n : ℕ) (r : RuleParts) → slice_get (x ∷ []) n ≡ Some (Rule r) → x ≡ Rule r
    first x zero r at = some-same at
    first x (suc n) r at = absurd (let e : None ≡ Some (Rule r) = at in cc)

module _ (items : List Item) (n : ℕ) (own : HasOwnPairs items n) (x : Item) (at : slice_get items n ≡ Some x) (p : Pair) (has : HasPair (x ∷ []) p) where
  here : IsInRule (x ∷ []) p
  here = in_rule (x ∷ []) p has

  -- no other item has the pair
  nowhere_else : (m : ℕ) (q : RuleParts) → slice_get items m ≡ Some (Rule q) → InRule q p → m ≢ n → ⊥
  nowhere_else m q there in_q other =
      own.own m here.rule q p.selector p.decl other (at ∙ ap Some (in_one x p here)) there here.has.0 here.has.1 in_q.0 in_q.1

  below_none : (k : ℕ) → n < k → HasPair (drop k items) p → ⊥
  below_none k less h =
      let w = in_rule (drop k items) p h in
      nowhere_else (k + w.number) w.rule (sym (get_drop items k w.number) ∙ w.rule_at) w.has (λ e. omega (arith, e))

-- ---- Parts of a list

from_take : {X : Type 0} (xs : List X) (n i : ℕ) (x : X) → slice_get (take n xs) i ≡ Some x → (i < n) × (slice_get xs i ≡ Some x)
from_take {X} [] zero i x at = absurd (let e : None ≡ Some x = at in cc)
from_take {X} [] (suc n) i x at = absurd (let e : None ≡ Some x = at in cc)
from_take {X} (y ∷ xs) zero i x at = absurd (let e : None ≡ Some x = at in cc)
from_take {X} (y ∷ xs) (suc n) zero x at = (omega arith, at)
from_take {X} (y ∷ xs) (suc n) (suc i) x at = let w = from_take xs n i x at in (let less = w.0 in omega (arith, less), w.1)

drop_slice : {X : Type 0} (xs : List X) (i j k : ℕ) (x : X) (m : ℕ) → slice_get (drop k (slice_range xs i j)) m ≡ Some x → (k + m < j - i) × (slice_get xs (i + (k + m)) ≡ Some x)
drop_slice {X} xs i j k x m at =
    let w = from_take (drop i xs) (j - i) (k + m) x (sym (get_drop (slice_range xs i j) k m) ∙ at) in
    (w.0, sym (get_drop xs i (k + m)) ∙ w.1)

-- ---- Where it stands

module _ (w : Window) (n : ℕ) (own : HasOwnPairs w.items.now n) (item : Item) (at : slice_get w.items.now n ≡ Some item) (p : Pair) (has : HasPair (item ∷ []) p) where
  pub own_between : w.middle ≤ n → n < w.last → IsStanding w p (Last (Some (n - w.middle)))
  own_between above below = (
    below_none w.items.now n own item at p has (w.last + 1) (omega (arith, below)),
    record {
      item = item;
      item_at = at_range w.items.now w.middle w.last (n - w.middle) item (omega (arith, above, below)) (ap (slice_get w.items.now) number ∙ at);
      stands = has;
      none = λ h.
          let q = in_rule (drop (n - w.middle + 1) (middle_of w)) p h in
          let r = drop_slice w.items.now w.middle w.last (n - w.middle + 1) (Rule q.rule) q.number q.rule_at in
          nowhere_else w.items.now n own item at p has (w.middle + (n - w.middle + 1 + q.number)) q.rule r.1 q.has (λ e. omega (arith, above, e));
    },
  )
    where
      number : w.middle + (n - w.middle) ≡ n
      number = omega (arith, above)

  pub own_at_ends : n ≤ w.last → (w.middle ≤ n → n < w.last → ⊥) → IsStanding w p (Last None)
  own_at_ends below not = (
    below_none w.items.now n own item at p has (w.last + 1) (omega (arith, below)),
    λ h.
        let q = in_rule (middle_of w) p h in
        let r = drop_slice w.items.now w.middle w.last 0 (Rule q.rule) q.number q.rule_at in
        let less = r.0 in
        nowhere_else w.items.now n own item at p has (w.middle + (0 + q.number)) q.rule r.1 q.has (λ e. not (omega (arith, e)) (omega (arith, e, less))),
  )
