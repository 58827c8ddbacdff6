-- Two sheets in which pairs stand in the same order: what is not reversed.
use Rattle.std.proofs.Common.{◌≡◌, ◌⊎◌, ℕ, ◌≤◌, List, sym, subst, inl, inr, ◌∙◌, arith}
use Rattle.css_model.specs.declared.sheet.Item.{Item}
use Rattle.css_model.specs.Cascade.Order.{HasPair, IsBefore, IsBeforeKept, IsLast, IsPairAt, Pair}
use Rattle.css_model.specs.Cascade.Winner.{IsLater, Place}
use Rattle.css_model.specs.Sheets.KeptItems.{kept_before}
use Rattle.order_laws.specs.Edits.{Edit, edited}
use Rattle.order_laws.specs.Reversing.{Differ}
use Rattle.step_laws.specs.Free.{Answered, IsFree}

-- a pair stands in the new sheet where its place became this one
pub record Stays (new : List Item) (T : Place → Place → Type 0) (p : Pair) (x : Place) : Type 0 where
  pub place : Place
  pub became : T x place
  pub stands : IsPairAt new p place

-- a pair stands later in the old sheet too, and there it stays
pub record StaysLater (items new : List Item) (T : Place → Place → Type 0) (p : Pair) (x : Place) : Type 0 where
  pub later : Place
  pub stands : IsPairAt items p later
  pub behind : IsLater later x
  pub stays : Stays new T p later

-- a pair stood in the old sheet
pub record Stood (items : List Item) (T : Place → Place → Type 0) (p : Pair) (y : Place) : Type 0 where
  pub place : Place
  pub became : T place y
  pub stands : IsPairAt items p place

-- The places of one sheet become those of another one in the same order, but for some whose pairs stand again later.
pub record KeepsPlaces (items new : List Item) (T : Place → Place → Type 0) : Type 0 where
  pub there : (p : Pair) (x : Place) → IsPairAt items p x → Stays new T p x ⊎ StaysLater items new T p x
  pub back : (p : Pair) (y : Place) → IsPairAt new p y → Stood items T p y
  pub later : (x y x' y' : Place) → T x y → T x' y' → IsLater x' x → IsLater y' y
  pub earlier : (x y x' y' : Place) → T x y → T x' y' → IsLater y' y → IsLater x' x
  pub kept : (x y : Place) → T x y → kept_before x.item items ≡ kept_before y.item new

later_on : (x y z : Place) → IsLater x y → IsLater y z → IsLater x z
later_on x y z (inl a) (inl b) = inl (omega (arith, a, b))
later_on x y z (inl a) (inr (e, b)) = inl (omega (arith, a, e))
later_on x y z (inr (e, a)) (inl b) = inl (omega (arith, e, b))
later_on x y z (inr (e, a)) (inr (f, b)) = inr (e ∙ f, omega (arith, a, b))

none_differ : {P Q : Type 0} → (P → Q) → (Q → P) → Differ P Q → ⊥
none_differ f g (inl (p, not)) = not (f p)
none_differ f g (inr (not, q)) = not (g q)

module _ (items new : List Item) (T : Place → Place → Type 0) (keeps : KeepsPlaces items new T) where
  record LastThere (p : Pair) (x : Place) : Type 0 where
    place : Place
    became : T x place
    last : IsLast new p place

  last_there : (p : Pair) (x : Place) → IsLast items p x → LastThere p x
  last_there p x is = which (keeps.there p x is.stands)
    where
      which : Stays new T p x ⊎ StaysLater items new T p x → LastThere p x
      which (inl s) = record {
        place = s.place;
        became = s.became;
        last = record {
          stands = s.stands;
          last = λ o at after. let w = keeps.back p o at in is.last w.place w.stands (keeps.earlier x s.place w.place o s.became w.became after);
        };
      }
      which (inr s) = absurd (is.last s.later s.stands s.behind)

  record LastBack (p : Pair) (y : Place) : Type 0 where
    place : Place
    became : T place y
    last : IsLast items p place

  last_back : (p : Pair) (y : Place) → IsLast new p y → LastBack p y
  last_back p y is =
      let w = keeps.back p y is.stands in
      record { place = w.place; became = w.became; last = record { stands = w.stands; last = λ o at after. beyond w.place w.became o (keeps.there p o at) after } }
    where
      beyond : (x : Place) → T x y → (o : Place) → Stays new T p o ⊎ StaysLater items new T p o → IsLater o x → ⊥
      beyond x became o (inl s) after = is.last s.place s.stands (keeps.later x y o s.place became s.became after)
      beyond x became o (inr s) after = is.last s.stays.place s.stays.stands (keeps.later x y s.later s.stays.place became s.stays.became (later_on s.later o x s.behind after))

  before_there : (p q : Pair) → IsBefore items p q → IsBefore new p q
  before_there p q b =
      let x = last_there p b.place b.first in
      let y = last_there q b.later b.second in
      record { place = x.place; later = y.place; first = x.last; second = y.last; before = keeps.later b.place x.place b.later y.place x.became y.became b.before }

  before_back : (p q : Pair) → IsBefore new p q → IsBefore items p q
  before_back p q b =
      let x = last_back p b.place b.first in
      let y = last_back q b.later b.second in
      record { place = x.place; later = y.place; first = x.last; second = y.last; before = keeps.earlier x.place b.place y.place b.later x.became y.became b.before }

  kept_there : (p : Pair) (number : ℕ) → IsBeforeKept items p number → IsBeforeKept new p number
  kept_there p number b =
      let x = last_there p b.place b.stands in
      record { place = x.place; stands = x.last; before = subst (λ (n : ℕ). n ≤ number) (keeps.kept b.place x.place x.became) b.before }

  kept_back : (p : Pair) (number : ℕ) → IsBeforeKept new p number → IsBeforeKept items p number
  kept_back p number b =
      let x = last_back p b.place b.stands in
      record { place = x.place; stands = x.last; before = subst (λ (n : ℕ). n ≤ number) (sym (keeps.kept x.place b.place x.became)) b.before }

-- no pair goes where places are kept
pub pairs_stay : (items new : List Item) (T : Place → Place → Type 0) → KeepsPlaces items new T → (p : Pair) → HasPair items p → HasPair new p
pairs_stay items new T keeps p has = which (keeps.there p has.0 has.1)
  where
    which : Stays new T p has.0 ⊎ StaysLater items new T p has.0 → HasPair new p
    which (inl s) = (s.place, s.stands)
    which (inr s) = (s.stays.place, s.stays.stands)

-- an edit that keeps the places of a sheet is free
pub free_by_places : (answers : List Answered) (items : List Item) (e : Edit) (T : Place → Place → Type 0) → KeepsPlaces items (edited e items) T → IsFree answers items e
free_by_places answers items e T keeps = record {
  pairs = λ p q reverses. absurd (none_differ (before_there items (edited e items) T keeps p q) (before_back items (edited e items) T keeps p q) reverses.order);
  kept = λ p number reverses. none_differ (kept_there items (edited e items) T keeps p number) (kept_back items (edited e items) T keeps p number) reverses.order;
}
