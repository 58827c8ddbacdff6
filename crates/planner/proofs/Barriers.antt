-- The barriers that pairs make.
use Rattle.std.proofs.Common.{◌≡◌, ◌≢◌, ℕ, zero, suc, ◌+◌, ◌-◌, ◌<◌, ◌≤◌, List, [], ◌∷◌, ◌++◌, length, take, drop, map, Option, Some, None, refl, sym, ap, ◌∙◌, subst, inl, inr, arith}
use Rattle.std.specs.Prelude.{get_or, slice_get}
use Rattle.std.specs.List.{Contains, remove}
use Rattle.std.specs.Option.{option_map}
use Rattle.std.proofs.lemmas.Bool.{cases_lt}
use Rattle.std.proofs.lemmas.List.{take-append-drop, length-take-le}
use Rattle.std.proofs.lemmas.Option.{get_or_from_slice_get, slice_get-map, slice_get_within}
use Rattle.cascade_laws.proofs.ForCallers.{some-same}
use Rattle.css_model.specs.Cascade.Order.{IsBefore, IsLast, IsPairAt, HasPair, Pair, Weigh}
use Rattle.css_model.specs.Cascade.Winner.{Place}
use Rattle.css_model.specs.declared.sheet.Decl.{Decl}
use Rattle.css_model.specs.declared.sheet.DeclItem.{DeclItem}
use Rattle.css_model.specs.declared.sheet.Item.{Item}
use Rattle.css_model.specs.declared.sheet.Item.TheVariants.{Rule}
use Rattle.css_model.specs.declared.sheet.SelItem.{SelItem}
use Rattle.css_model.specs.Documents.SelectorParts.{SelectorParts}
use Rattle.css_model.specs.Sheets.RuleParts.{RuleParts}
use Rattle.css_model.specs.Sheets.StyleRule.{selectors_of}
use Rattle.pending_laws.specs.declared.way.Way.{Way}
use Rattle.pending_laws.specs.declared.way.Way.TheVariants.{Up, Down}
use Rattle.pending_laws.specs.Barred.{HasBarrierBelow, HasBarrierAbove, IsBarredBy}
use Rattle.queue_laws.specs.IndexedBarriers.{decl_of_number}
use Rattle.queue_laws.specs.MarkNames.{IsMarked}
use Rattle.planner.specs.Barring.{MakesBarrier, MakesBarrierFor, StandsAlone, StandsAloneOn}
use Rattle.list_facts.proofs.Members.{Contains-here, Contains-there}
use Rattle.obstacles.specs.Blocking.{IsAt, IsBlockedBy, IsOther, Names, moved_pair}
use Rattle.obstacles.specs.declared.obstacle.Obstacle.{Obstacle}
use Rattle.obstacles.specs.declared.obstacle.Other.{Other}
use Rattle.obstacles.specs.declared.obstacle.Other.TheVariants as others
use Rattle.obstacles.specs.declared.obstacle.PairPlace.{PairPlace}
use Rattle.order_laws.proofs.ForCallers.{decl_in, last_of}
use Rattle.indexed_sheet.specs.IndexedParts.{IndexedParts}
use Rattle.indexed_sheet.specs.declared.marks.Mark.{Mark}
use Rattle.indexed_sheet.specs.MarkList.{AreMarks, order_keys_of}
use Rattle.rule_tables.specs.Pairs.{HasBoth}
use Rattle.step_laws.specs.declared.step.Step.{Step}
use Rattle.step_laws.specs.Free.{Answered}
use Rattle.step_laws.specs.Steps.{HasStep, decls_of}
use Rattle.plan_laws.specs.Barrier.Hindering.{Hindrance, Hinders, OfKept, OfPair}
use Rattle.plan_laws.specs.Barrier.Barriers.{IsLowerBarrier, IsBarrier}

abbrev place : ℕ → ℕ → Place
place item position = record { item = item; position = position }

-- ---- Parts of a list

get_behind : (xs ys : List Item) (i : ℕ) → slice_get (xs ++ ys) (length xs + i) ≡ slice_get ys i
get_behind [] ys i = let z : 0 + i ≡ i = omega arith in ap (slice_get ys) z
get_behind (x ∷ xs) ys i = let z : length (x ∷ xs) + i ≡ suc (length xs + i) = omega arith in ap (slice_get (x ∷ xs ++ ys)) z ∙ get_behind xs ys i

get_removed : (xs : List Item) (n i : ℕ) (x : Item) → slice_get (remove xs n) i ≡ Some x → (m : ℕ) × (m ≢ n) × (slice_get xs m ≡ Some x)
get_removed [] zero i x at = absurd (let e : None ≡ Some x = at in cc)
get_removed [] (suc n) i x at = absurd (let e : None ≡ Some x = at in cc)
get_removed (y ∷ xs) zero i x at = (suc i, (λ e. omega (arith, e)), at)
get_removed (y ∷ xs) (suc n) zero x at = (zero, (λ e. omega (arith, e)), at)
get_removed (y ∷ xs) (suc n) (suc i) x at = let w : (m : ℕ) × (m ≢ n) × (slice_get xs m ≡ Some x) = get_removed xs n i x at in (suc w.0, (λ e. w.1 (let f : w.0 ≡ n = omega (arith, e) in f)), w.2)

kept_at : (xs : List Item) (n : ℕ) (x : Item) → 0 < n → slice_get xs 0 ≡ Some x → slice_get (remove xs n) 0 ≡ Some x
kept_at [] n x some at = absurd (let e : None ≡ Some x = at in cc)
kept_at (y ∷ xs) zero x some at = absurd (omega (arith, some))
kept_at (y ∷ xs) (suc n) x some at = at

kept_behind : (xs : List Item) (n i : ℕ) (x : Item) → n ≤ i → slice_get xs (suc i) ≡ Some x → slice_get (remove xs n) i ≡ Some x
kept_behind [] n i x most at = absurd (let e : None ≡ Some x = at in cc)
kept_behind (y ∷ xs) zero i x most at = at
kept_behind (y ∷ xs) (suc n) zero x most at = absurd (omega (arith, most))
kept_behind (y ∷ xs) (suc n) (suc i) x most at = kept_behind xs n i x (omega (arith, most)) at

get_front : (xs ys : List Item) (i : ℕ) → i < length xs → slice_get (xs ++ ys) i ≡ slice_get xs i
get_front [] ys i less = absurd (omega (arith, less))
get_front (x ∷ xs) ys zero less = refl
get_front (x ∷ xs) ys (suc i) less = get_front xs ys i (omega (arith, less))

-- ---- Pairs of rules

selector_in : (ss : List SelItem) (k : ℕ) (x : SelItem) → slice_get ss k ≡ Some x → Contains (map (λ (s : SelItem). s.selector) ss) x.selector
selector_in [] k x at = absurd (let e : None ≡ Some x = at in cc)
selector_in (y ∷ ss) zero x at = subst (λ (z : SelItem). Contains (map (λ (s : SelItem). s.selector) (y ∷ ss)) z.selector) (some-same at) (Contains-here y.selector (map (λ (s : SelItem). s.selector) ss))
selector_in (y ∷ ss) (suc k) x at = Contains-there y.selector (map (λ (s : SelItem). s.selector) ss) x.selector (selector_in ss k x at)

-- the place of a pair
pub pair_at : (items : List Item) (at : PairPlace) (p : Pair) → IsAt items at p → IsPairAt items p (place at.item at.decl)
pair_at items at p is = record {
  rule = is.rule;
  decl = is.decl;
  rule_at = is.rule_at;
  selector_in = subst (λ (x : Pair). Contains (selectors_of is.rule) x.selector) (sym is.is) (selector_in is.rule.selectors at.sel is.selector is.selector_at);
  decl_at = is.decl_at;
  decl_is = ap (λ (x : Pair). x.decl) (sym is.is);
}

-- the rule there has it
pub has_both : (items : List Item) (p : Pair) (at : Place) (h : IsPairAt items p at) → HasBoth h.rule p.selector p.decl
has_both items p at h = (h.selector_in, subst (λ (d : Decl). Contains (decls_of h.rule) d) h.decl_is (decl_in h.rule.decls at.position h.decl h.decl_at))

same_rule : (o : Option Item) (a b : RuleParts) → o ≡ Some (Rule a) → o ≡ Some (Rule b) → a ≡ b
same_rule o a b e f = cc

-- the selector and the declaration there are its
pub pair_is : (items : List Item) (at : PairPlace) (p : Pair) → IsAt items at p → (rule : RuleParts) → slice_get items at.item ≡ Some (Rule rule) →
    (s : SelectorParts) → ((x : SelItem) → slice_get rule.selectors at.sel ≡ Some x → s ≡ x.selector) → (d : Decl) → ((x : DeclItem) → slice_get rule.decls at.decl ≡ Some x → d ≡ x.decl) →
    (r : RuleParts) → HasBoth r p.selector p.decl → HasBoth r s d
pair_is items at p is rule rule_at s sel d decl r has =
    let same : is.rule ≡ rule = same_rule (slice_get items at.item) is.rule rule is.rule_at rule_at in
    let s_is : s ≡ is.selector.selector = sel is.selector (subst (λ (x : RuleParts). slice_get x.selectors at.sel ≡ Some is.selector) same is.selector_at) in
    let d_is : d ≡ is.decl.decl = decl is.decl (subst (λ (x : RuleParts). slice_get x.decls at.decl ≡ Some is.decl) same is.decl_at) in
    let p_s : p.selector ≡ s = ap (λ (x : Pair). x.selector) is.is ∙ sym s_is in
    let p_d : p.decl ≡ d = ap (λ (x : Pair). x.decl) is.is ∙ sym d_is in
    (subst (Contains (selectors_of r)) p_s has.0, subst (Contains (decls_of r)) p_d has.1)

-- and it stands within the sheet
pub place_within : (items : List Item) (at : PairPlace) (p : Pair) → IsAt items at p → at.item < length items
place_within items at p is = slice_get_within items at.item (Rule is.rule) is.rule_at

-- ---- What an obstacle names

pub moved_there : (answers : List Answered) (items : List Item) (k : Step) (o : Obstacle) → IsBlockedBy answers items k o → (p : Pair) × IsAt items o.moved p
moved_there answers items k o blocked = (moved_pair blocked.by, blocked.names.moved)

pub other_there : (answers : List Answered) (items : List Item) (k : Step) (o : Obstacle) (at : PairPlace) → o.other ≡ others.Pair at → IsBlockedBy answers items k o → (q : Pair) × IsAt items at q
other_there answers items k o at is blocked = which blocked.by (subst (λ (x : Other). IsOther items x blocked.by) is blocked.names.other)
  where
    which : (by : Hindrance) → IsOther items (others.Pair at) by → (q : Pair) × IsAt items at q
    which (OfPair p q) there = (q, there)
    which (OfKept p number) none = absurd none

-- ---- The order of the two

-- the last place of a pair that stands alone comes behind those of the other one
module _ (items : List Item) (z y : ℕ) (p q : Pair) (moved other : ℕ) (alone : StandsAlone items z y p q) (p_at : IsPairAt items p (place y moved)) (q_at : IsPairAt items q (place z other)) where
  comes_last : (last_q last_p : Place) → IsLast items q last_q → IsLast items p last_p → last_q.item < last_p.item
  comes_last last_q last_p of_q of_p = elim (cases_lt last_q.item y) [
    | inl l ↦ elim (cases_lt last_p.item y) [
      | inl m ↦ absurd (of_p.last (place y moved) p_at (inl m))
      | inr m ↦ omega (arith, l, m)
    ]
    | inr l ↦ absurd (alone.other last_q.item of_q.stands.rule of_q.stands.rule_at l (has_both items q last_q of_q.stands))
  ]

  stands_before : IsBefore items q p
  stands_before =
      let of_q : (at : Place) × IsLast items q at = last_of items q (place z other, q_at) in
      let of_p : (at : Place) × IsLast items p at = last_of items p (place y moved, p_at) in
      record { place = of_q.0; later = of_p.0; first = of_q.1; second = of_p.1; before = inl (comes_last of_q.0 of_p.0 of_q.1 of_p.1) }

-- ---- A barrier

module _ (above below : List Item) (k : ℕ) (p q : Pair) (moved other : ℕ) (alone : StandsAlone (above ++ below) (length above) (length above + k) p q)
    (p_at : IsPairAt (above ++ below) p (place (length above + k) moved)) (q_at : IsPairAt (above ++ below) q (place (length above) other)) where
  abbrev whole : List Item
  whole = above ++ below

  some : 0 < k
  some = let h : length above < length above + k = alone.before in omega (arith, h)

  nowhere : HasPair (remove below k) p → ⊥
  nowhere (at, h) =
      let w : (m : ℕ) × (m ≢ k) × (slice_get below m ≡ Some (Rule h.rule)) = get_removed below k at.item (Rule h.rule) h.rule_at in
      alone.alone (length above + w.0) h.rule (get_behind above below w.0 ∙ w.2) (omega arith) (λ e. w.1 (let f : w.0 ≡ k = omega (arith, e) in f)) (has_both (remove below k) p at h)

  q_first : slice_get below 0 ≡ Some (Rule q_at.rule)
  q_first = sym (get_behind above below 0) ∙ ap (slice_get whole) (let e : length above + 0 ≡ length above = omega arith in e) ∙ q_at.rule_at

  q_below : HasPair (remove below k) q
  q_below = (
    place 0 other,
    record { rule = q_at.rule; decl = q_at.decl; rule_at = kept_at below k (Rule q_at.rule) some q_first; selector_in = q_at.selector_in; decl_at = q_at.decl_at; decl_is = q_at.decl_is },
  )

  pub is_barrier : Weigh p q → IsBarrier above below k p_at.rule p q
  is_barrier weigh = record {
    pair = record { rule_at = sym (get_behind above below k) ∙ p_at.rule_at; selector_in = p_at.selector_in; decl_in = (has_both whole p (place (length above + k) moved) p_at).1 };
    nowhere_else = nowhere;
    other = q_below;
    weigh = weigh;
    order = stands_before whole (length above) (length above + k) p q moved other alone p_at q_at;
  }

-- ---- A lower barrier

module _ (above below : List Item) (m z : ℕ) (p q : Pair) (moved other : ℕ) (last : suc z ≡ length above) (alone : StandsAlone (above ++ below) m z q p)
    (p_at : IsPairAt (above ++ below) p (place m moved)) (q_at : IsPairAt (above ++ below) q (place z other)) where
  before : m < z
  before = alone.before

  there : (n : ℕ) (x : Item) → n ≤ z → slice_get (above ++ below) n ≡ Some x → slice_get above n ≡ Some x
  there n x most at = sym (get_front above below n (omega (arith, most, last))) ∙ at

  q_above : (n : ℕ) → suc n ≡ z → HasPair (remove above m) q
  q_above n is = (
    place n other,
    record {
      rule = q_at.rule;
      decl = q_at.decl;
      rule_at = kept_behind above m n (Rule q_at.rule) (omega (arith, is, before)) (ap (slice_get above) is ∙ there z (Rule q_at.rule) (omega arith) q_at.rule_at);
      selector_in = q_at.selector_in;
      decl_at = q_at.decl_at;
      decl_is = q_at.decl_is;
    },
  )

  q_not_below : HasPair below q → ⊥
  q_not_below (at, h) =
      alone.alone (length above + at.item) h.rule (get_behind above below at.item ∙ h.rule_at) (omega (arith, last, before)) (λ e. let f : length above + at.item ≡ z = e in omega (arith, f, last)) (has_both below q at h)

  pub is_lower_barrier : Weigh p q → IsLowerBarrier above below m p_at.rule p q
  is_lower_barrier weigh = record {
    pair = record { rule_at = there m (Rule p_at.rule) (omega (arith, before)) p_at.rule_at; selector_in = p_at.selector_in; decl_in = (has_both (above ++ below) p (place m moved) p_at).1 };
    other = q_above (z - 1) (omega (arith, before));
    not_below = q_not_below;
    weigh = weigh;
    order = stands_before (above ++ below) m z q p other moved alone q_at p_at;
  }

  pub lacks_other : Contains (selectors_of p_at.rule) q.selector → Contains (decls_of p_at.rule) q.decl → ⊥
  lacks_other selector decl = alone.alone m p_at.rule p_at.rule_at (omega arith) (λ e. let f : m ≡ z = e in omega (arith, f, before)) (selector, decl)

-- ---- By order keys

-- the number of an order key that is not below another one is not below its number, and differs where it does
module _ (marks : List Mark) (next : ℕ) (are : AreMarks marks next) where
  in_order : (i j : ℕ) (a b : Mark) → i < j → slice_get marks i ≡ Some a → slice_get marks j ≡ Some b → a.order_key < b.order_key
  in_order i j a b less at at' =
      subst (λ (x : Mark). x.order_key < b.order_key) (get_or_from_slice_get marks i a a at)
      (subst (λ (y : Mark). (get_or marks i a).order_key < y.order_key) (get_or_from_slice_get marks j b a at') (are.ascend i j a less (slice_get_within marks j b at')))

  pub not_below : (i j : ℕ) (a b : Mark) → slice_get marks i ≡ Some a → slice_get marks j ≡ Some b → i ≤ j → a.order_key ≤ b.order_key
  not_below i j a b at at' most = elim (cases_lt i j) [
    | inl l ↦ (let less : a.order_key < b.order_key = in_order i j a b l at at' in omega (arith, less))
    | inr l ↦ (let same : i ≡ j = omega (arith, most, l) in let e : a ≡ b = some-same (sym at ∙ ap (slice_get marks) same ∙ at') in let f : a.order_key ≡ b.order_key = ap (λ (m : Mark). m.order_key) e in omega (arith, f))
  ]

  pub differ : (i j : ℕ) (a b : Mark) → slice_get marks i ≡ Some a → slice_get marks j ≡ Some b → i ≢ j → a.order_key ≢ b.order_key
  differ i j a b at at' other same = elim (cases_lt i j) [
    | inl l ↦ (let less : a.order_key < b.order_key = in_order i j a b l at at' in omega (arith, less, same))
    | inr l ↦ elim (cases_lt j i) [
      | inl m ↦ (let less : b.order_key < a.order_key = in_order j i b a m at' at in omega (arith, less, same))
      | inr m ↦ other (let e : i ≡ j = omega (arith, l, m) in e)
    ]
  ]

-- A pair that does not stand in a rule with an order key from one on, but this.
abbrev pub StandsBut : IndexedParts → Pair → (from own : ℕ) → Type 0
StandsBut b p from own = (n : ℕ) (r : RuleParts) (order_key : ℕ) → slice_get b.items n ≡ Some (Rule r) → slice_get (order_keys_of b.marks) n ≡ Some order_key → from ≤ order_key → order_key ≢ own → HasBoth r p.selector p.decl → ⊥

pub alone_by_order_keys : (b : IndexedParts) → IsMarked b → (z y : ℕ) (at_z at_y : Mark) (p q : Pair) → z < y → slice_get b.marks z ≡ Some at_z → slice_get b.marks y ≡ Some at_y →
    StandsBut b p at_z.order_key at_y.order_key → StandsBut b q at_y.order_key at_z.order_key → StandsAlone b.items z y p q
alone_by_order_keys b marked z y at_z at_y p q less is_z is_y p_but q_but = record {
  before = less;
  alone = λ n r at most other has. (let m : (m : Mark) × (slice_get b.marks n ≡ Some m) = mark_at n r at in
      p_but n r m.0.order_key at (order_key_at n m.0 m.1) (not_below b.marks b.next marked.0 z n at_z m.0 is_z m.1 most) (differ b.marks b.next marked.0 n y m.0 at_y m.1 is_y other) has);
  other = λ n r at most has. (let m : (m : Mark) × (slice_get b.marks n ≡ Some m) = mark_at n r at in
      q_but n r m.0.order_key at (order_key_at n m.0 m.1) (not_below b.marks b.next marked.0 y n at_y m.0 is_y m.1 most)
      (differ b.marks b.next marked.0 n z m.0 at_z m.1 is_z (λ e. let f : n ≡ z = e in omega (arith, f, less, most))) has);
}
  where
    mark_at : (n : ℕ) (r : RuleParts) → slice_get b.items n ≡ Some (Rule r) → (m : Mark) × (slice_get b.marks n ≡ Some m)
    mark_at n r at = (let within : n < length b.items = slice_get_within b.items n (Rule r) at in let long : length b.marks ≡ length b.items = marked.1 in there b.marks n (omega (arith, within, long)))
      where
        there : (ms : List Mark) (n : ℕ) → n < length ms → (m : Mark) × (slice_get ms n ≡ Some m)
        there [] n less = absurd (omega (arith, less))
        there (m ∷ ms) zero less = (m, refl)
        there (m ∷ ms) (suc n) less = there ms n (omega (arith, less))

    order_key_at : (n : ℕ) (m : Mark) → slice_get b.marks n ≡ Some m → slice_get (order_keys_of b.marks) n ≡ Some m.order_key
    order_key_at n m at = slice_get-map (λ (m : Mark). m.order_key) b.marks n ∙ ap (option_map (λ (m : Mark). m.order_key)) at

-- ---- What an obstacle makes

-- of a sheet in two parts a place in it
module _ (items above below : List Item) (parts : above ++ below ≡ items) where
  pair_in : (p : Pair) (at : Place) → IsPairAt items p at → IsPairAt (above ++ below) p at
  pair_in p at is = subst (λ (xs : List Item). IsPairAt xs p at) (sym parts) is

  alone_in : (z y : ℕ) (p q : Pair) → StandsAlone items z y p q → StandsAlone (above ++ below) z y p q
  alone_in z y p q is = subst (λ (xs : List Item). StandsAlone xs z y p q) (sym parts) is

barrier_above : (items : List Item) (m z : ℕ) (p q : Pair) (moved other : ℕ) → StandsAlone items z m p q → IsPairAt items p (place m moved) → IsPairAt items q (place z other) → Weigh p q → HasBarrierAbove items m z p q
barrier_above items m z p q moved other alone p_at q_at weigh =
    let within : z < length items = slice_get_within items z (Rule q_at.rule) q_at.rule_at in
    let parts : take z items ++ drop z items ≡ items = take-append-drop z items in
    let long : length (take z items) ≡ z = length-take-le z items (omega (arith, within)) in
    let y : length (take z items) + (m - z) ≡ m = (let less : z < m = alone.before in omega (arith, long, less)) in
    let p_there : IsPairAt (take z items ++ drop z items) p (place (length (take z items) + (m - z)) moved) =
    pair_in items (take z items) (drop z items) parts p (place (length (take z items) + (m - z)) moved) (subst (λ (n : ℕ). IsPairAt items p (place n moved)) (sym y) p_at) in
    record {
      above = take z items;
      below = drop z items;
      y = m - z;
      lower = p_there.rule;
      parts = sym parts;
      place_is = sym long;
      mover_is = sym y;
      barrier = is_barrier (take z items) (drop z items) (m - z) p q moved other
          (alone_in items (take z items) (drop z items) parts (length (take z items)) (length (take z items) + (m - z)) p q
          (subst (λ (n : ℕ). StandsAlone items n (length (take z items) + (m - z)) p q) (sym long) (subst (λ (n : ℕ). StandsAlone items z n p q) (sym y) alone)))
          p_there
          (pair_in items (take z items) (drop z items) parts q (place (length (take z items)) other) (subst (λ (n : ℕ). IsPairAt items q (place n other)) (sym long) q_at))
          weigh;
    }

lower_barrier_below : (items : List Item) (m z : ℕ) (p q : Pair) (moved other : ℕ) → StandsAlone items m z q p → IsPairAt items p (place m moved) → IsPairAt items q (place z other) → Weigh p q → HasBarrierBelow items m z p q
lower_barrier_below items m z p q moved other alone p_at q_at weigh =
    let within : z < length items = slice_get_within items z (Rule q_at.rule) q_at.rule_at in
    let above : List Item = take (suc z) items in
    let below : List Item = drop (suc z) items in
    let parts : above ++ below ≡ items = take-append-drop (suc z) items in
    let long : suc z ≡ length above = sym (length-take-le (suc z) items (omega (arith, within))) in
    let p_there : IsPairAt (above ++ below) p (place m moved) = pair_in items above below parts p (place m moved) p_at in
    let q_there : IsPairAt (above ++ below) q (place z other) = pair_in items above below parts q (place z other) q_at in
    let stands : StandsAlone (above ++ below) m z q p = alone_in items above below parts m z q p alone in
    record {
      above = above;
      below = below;
      upper = p_there.rule;
      parts = sym parts;
      place_is = long;
      lower_barrier = is_lower_barrier above below m z p q moved other long stands p_there q_there weigh;
      lacks = lacks_other above below m z p q moved other long stands p_there q_there;
    }

barred_by : (way : Way) (items : List Item) (m z : ℕ) (p q : Pair) (moved other : ℕ) → StandsAloneOn way items m z p q → IsPairAt items p (place m moved) → IsPairAt items q (place z other) → Weigh p q → IsBarredBy way items m z p q
barred_by Up items m z p q moved other alone p_at q_at weigh = barrier_above items m z p q moved other alone p_at q_at weigh
barred_by Down items m z p q moved other alone p_at q_at weigh = lower_barrier_below items m z p q moved other alone p_at q_at weigh

-- the declaration of the moved pair, by its number
decl_at_place : (items : List Item) (at : PairPlace) (p : Pair) → IsAt items at p → decl_of_number (slice_get items at.item) at.decl ≡ Some p.decl
decl_at_place items at p is =
    ap (λ (o : Option Item). decl_of_number o at.decl) is.rule_at
    ∙ slice_get-map (λ (d : DeclItem). d.decl) is.rule.decls at.decl ∙ ap (option_map (λ (d : DeclItem). d.decl)) is.decl_at ∙ ap (λ (x : Pair). Some x.decl) (sym is.is)

pub makes_barrier : (b : IndexedParts) (k : Step) (way : Way) (o : Obstacle) (at : PairPlace) (mover from : Mark) → HasStep b.items k → o.other ≡ others.Pair at →
    ((p q : Pair) → IsAt b.items o.moved p → IsAt b.items at q → StandsAloneOn way b.items o.moved.item at.item p q) →
    slice_get b.marks o.moved.item ≡ Some mover → slice_get b.marks at.item ≡ Some from → MakesBarrierFor b k o way mover.item_id (record { order_key = from.order_key; decl = o.moved.decl })
makes_barrier b k way o at mover from has is alone is_mover is_from answers blocked = by_one blocked.by blocked.names (blocked.hinders has.0 has.1)
  where
    by_one : (by : Hindrance) → Names b.items o by → Hinders answers b.items has.0 by → MakesBarrier answers b o way mover.item_id (record { order_key = from.order_key; decl = o.moved.decl })
    by_one (OfKept p number) names hinders = absurd (subst (λ (x : Other). IsOther b.items x (OfKept p number)) is names.other)
    by_one (OfPair p q) names hinders =
        let q_is : IsAt b.items at q = subst (λ (x : Other). IsOther b.items x (OfPair p q)) is names.other in
        record {
          m = o.moved.item;
          place = at.item;
          p = p;
          q = q;
          names = names;
          barrier = barred_by way b.items o.moved.item at.item p q o.moved.decl at.decl (alone p q names.moved q_is) (pair_at b.items o.moved p names.moved) (pair_at b.items at q q_is) hinders.0.weigh;
          apart = hinders.1;
          created = slice_get-map (λ (m : Mark). m.item_id) b.marks o.moved.item ∙ ap (option_map (λ (m : Mark). m.item_id)) is_mover;
          at = slice_get-map (λ (m : Mark). m.order_key) b.marks at.item ∙ ap (option_map (λ (m : Mark). m.order_key)) is_from;
          decl = decl_at_place b.items o.moved p names.moved;
        }
