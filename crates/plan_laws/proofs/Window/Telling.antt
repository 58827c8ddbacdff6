-- What a window tells.
use Rattle.std.proofs.Common.{◌↔◌, ◌⊎◌, List, ◌++◌, refl, sym, subst, inl, inr}
use Rattle.css_model.specs.declared.sheet.Item.{Item}
use Rattle.css_model.specs.Cascade.Order.{Pair, HasPair, IsBefore}
use Rattle.order_laws.proofs.ForCallers.{has_append, BeforeInTwo, before_in_two}
use Rattle.order_laws.specs.Edits.{Moved}
use Rattle.order_laws.specs.Reversing.{Differ, ReversesPair}
use Rattle.plan_laws.specs.Window.Windows.{IsWindow}

-- the order of two pairs by what stands within and behind a window, of which the first stands in one of both
abbrev pub ByWindow : List Item → List Item → Pair → Pair → Type 0
ByWindow within behind p q = (IsBefore behind p q ⊎ ((HasPair behind p → ⊥) × HasPair behind q)) ⊎ ((HasPair behind p → ⊥) × (HasPair behind q → ⊥) × IsBefore within p q)

-- what stands above does not count for a pair that stands below
pub below_above : (above rest : List Item) (p q : Pair) → HasPair rest p → IsBefore (above ++ rest) p q ↔ IsBefore rest p q
below_above above rest p q stands = (λ b. there ((before_in_two above rest p q).0 b), λ b. (before_in_two above rest p q).1 (inl b))
  where
    there : BeforeInTwo above rest p q → IsBefore rest p q
    there (inl b) = b
    there (inr (inl (has, none, later))) = absurd (none stands)
    there (inr (inr (none, other, b))) = absurd (none stands)

pub by_window : (above within behind : List Item) (p q : Pair) → HasPair within p ⊎ HasPair behind p → IsBefore (above ++ (within ++ behind)) p q ↔ ByWindow within behind p q
by_window above within behind p q stands =
    let in_rest : HasPair (within ++ behind) p = (has_append within behind p).1 stands in
    (λ b. there ((before_in_two within behind p q).0 ((below_above above (within ++ behind) p q in_rest).0 b)), λ b. (below_above above (within ++ behind) p q in_rest).1 ((before_in_two within behind p q).1 (back b)))
  where
    here : HasPair within p ⊎ HasPair behind p → (HasPair behind p → ⊥) → HasPair within p
    here (inl h) none = h
    here (inr h) none = absurd (none h)

    there : BeforeInTwo within behind p q → ByWindow within behind p q
    there (inl b) = inl (inl b)
    there (inr (inl (has, none, later))) = inl (inr (none, later))
    there (inr (inr (none, other, b))) = inr (none, other, b)

    back : ByWindow within behind p q → BeforeInTwo within behind p q
    back (inl (inl b)) = inl b
    back (inl (inr (none, later))) = inr (inl (here stands none, none, later))
    back (inr (none, other, b)) = inr (inr (none, other, b))

-- ---- Two pairs

module _ (above within within' behind : List Item) (p q : Pair) (stands : HasPair within p) (stands' : HasPair within' p ⊎ HasPair behind p) where
  -- the order in the two sheets differs
  abbrev InSheets : Type 0
  InSheets = Differ (IsBefore (above ++ (within ++ behind)) p q) (IsBefore (above ++ (within' ++ behind)) p q)

  -- the order within the window differs, and neither stands behind
  abbrev InWindow : Type 0
  InWindow = Differ (IsBefore within p q) (IsBefore within' p q) × (HasPair behind p → ⊥) × (HasPair behind q → ⊥)

  old : IsBefore (above ++ (within ++ behind)) p q ↔ ByWindow within behind p q
  old = by_window above within behind p q (inl stands)

  new : IsBefore (above ++ (within' ++ behind)) p q ↔ ByWindow within' behind p q
  new = by_window above within' behind p q stands'

  told : InSheets → InWindow
  told (inl (b, not)) = which (old.0 b)
    where
      which : ByWindow within behind p q → InWindow
      which (inl same) = absurd (not (new.1 (inl same)))
      which (inr (none, other, c)) = (inl (c, λ d. not (new.1 (inr (none, other, d)))), none, other)
  told (inr (not, b)) = which (new.0 b)
    where
      which : ByWindow within' behind p q → InWindow
      which (inl same) = absurd (not (old.1 (inl same)))
      which (inr (none, other, c)) = (inr (λ d. not (old.1 (inr (none, other, d))), c), none, other)

  only_within : (items : List Item) → (HasPair behind p → ⊥) → (HasPair behind q → ⊥) → ByWindow items behind p q → IsBefore items p q
  only_within items none other (inl (inl b)) = absurd (none (b.place, b.first.stands))
  only_within items none other (inl (inr (not, later))) = absurd (other later)
  only_within items none other (inr (not, also, b)) = b

  tells : InWindow → InSheets
  tells (inl (b, not), none, other) = inl (old.1 (inr (none, other, b)), λ c. not (only_within within' none other (new.0 c)))
  tells (inr (not, b), none, other) = inr (λ c. not (only_within within none other (old.0 c)), new.1 (inr (none, other, b)))

-- the second pair of two whose order differs within the window stands there
pub second_within : (within within' : List Item) (p q : Pair) → ((r : Pair) → HasPair within' r → HasPair within r) → Differ (IsBefore within p q) (IsBefore within' p q) → HasPair within q
second_within within within' p q none_comes (inl (b, not)) = (b.later, b.second.stands)
second_within within within' p q none_comes (inr (not, b)) = none_comes q (b.later, b.second.stands)

tells_pair : (m : Moved) (above within within' behind : List Item) → IsWindow (above ++ (within ++ behind)) (above ++ (within' ++ behind)) m above within within' behind →
    (p q : Pair) → ReversesPair (above ++ (within ++ behind)) (above ++ (within' ++ behind)) m p q ↔ (ReversesPair within within' m p q × (HasPair behind p → ⊥) × (HasPair behind q → ⊥))
tells_pair m above within within' behind w p q = (there, back)
  where
    there : ReversesPair (above ++ (within ++ behind)) (above ++ (within' ++ behind)) m p q → ReversesPair within within' m p q × (HasPair behind p → ⊥) × (HasPair behind q → ⊥)
    there h =
        let g : InWindow above within within' behind p q (w.stands p h.moved).0 (w.stands p h.moved).1 = told above within within' behind p q (w.stands p h.moved).0 (w.stands p h.moved).1 h.order in
        (record { moved = h.moved; there = second_within within within' p q w.none_comes g.0; weigh = h.weigh; order = g.0 }, g.1, g.2)

    back : ReversesPair within within' m p q × (HasPair behind p → ⊥) × (HasPair behind q → ⊥) → ReversesPair (above ++ (within ++ behind)) (above ++ (within' ++ behind)) m p q
    back (h, none, other) = record {
      moved = h.moved;
      there = (has_append above (within ++ behind) q).1 (inr ((has_append within behind q).1 (inl h.there)));
      weigh = h.weigh;
      order = tells above within within' behind p q (w.stands p h.moved).0 (w.stands p h.moved).1 (h.order, none, other);
    }

pub windows_tell_pairs : (items items' : List Item) (m : Moved) (above within within' behind : List Item) → IsWindow items items' m above within within' behind →
    (p q : Pair) → ReversesPair items items' m p q ↔ (ReversesPair within within' m p q × (HasPair behind p → ⊥) × (HasPair behind q → ⊥))
windows_tell_pairs items items' m above within within' behind w p q =
    subst (λ (x : List Item). ReversesPair x items' m p q ↔ (ReversesPair within within' m p q × (HasPair behind p → ⊥) × (HasPair behind q → ⊥))) (sym w.old_is)
    (subst (λ (y : List Item). ReversesPair (above ++ (within ++ behind)) y m p q ↔ (ReversesPair within within' m p q × (HasPair behind p → ⊥) × (HasPair behind q → ⊥))) (sym w.new_is)
    (tells_pair m above within within' behind (record { old_is = refl; new_is = refl; stands = w.stands; none_comes = w.none_comes; kept = w.kept }) p q))
