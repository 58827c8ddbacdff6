-- Items that cannot move past others: behind a step, and what is hindered.
use Rattle.std.proofs.Common.{◌≡◌, ◌≢◌, ℕ, zero, suc, ◌+◌, ◌-◌, ◌<◌, ◌≤◌, false, true, List, [], ◌∷◌, ◌++◌, length, take, refl, sym, ap, ◌∙◌, subst, arith}
use Rattle.std.specs.List.{AllByRecursion}
use Rattle.std.proofs.lemmas.List.{length-append}
use Rattle.std.proofs.lemmas.Option.{slice_get_within}
use Rattle.css_model.specs.declared.sheet.Item.{Item}
use Rattle.css_model.specs.declared.sheet.Item.TheVariants.{Rule}
use Rattle.css_model.specs.Cascade.Order.{Pair}
use Rattle.order_laws.specs.Edits.{instead, is_moved, slots_from, Change, Edit, edited}
use Rattle.order_laws.specs.Slots.{new_items}
use Rattle.step_laws.specs.declared.step.Step.{Step}
use Rattle.step_laws.specs.declared.step.Step.TheVariants.{CutDecl, CutSel, JoinSelUp, JoinSelDown, JoinDeclUp, JoinDeclDown, Share}
use Rattle.step_laws.specs.Free.{Answered, AreNotApart}
use Rattle.step_laws.specs.Steps.{IsStep, first_item, last_item}
use Rattle.plan_laws.specs.Barrier.Hindering.{OfPair, Hinders}
use Rattle.plan_laws.specs.Barrier.Renumbering.{Leaves, new_number}
use Rattle.plan_laws.specs.Barrier.Barriers.{IsLowerBarrier}
use Rattle.pending_laws.specs.declared.way.Way.{Way}
use Rattle.pending_laws.specs.declared.way.Way.TheVariants.{Up, Down}
use Rattle.pending_laws.specs.Barred.{above_behind, below_behind, HasBarrierBelow, HasBarrierAbove, LowerBarredJoinsAreHindered, LowerBarredSharesAreHindered, LowerBarriersGoOn, IsBarredBy, PartsStay, BarredJoinsAreHindered, BarriersGoOn}
use Rattle.pending_laws.specs.Scopes.{IsDown, IsDownward, IsUp}
use Rattle.pending_laws.specs.Ways.{mover, moves_decl, partner, IsPast, MovesPairs}
use Rattle.pending_laws.proofs.Elsewhere.{left_alone}

-- ---- New numbers

none_taken : (items : List Item) → take 0 items ≡ []
none_taken [] = refl
none_taken (x ∷ items) = refl

taken_in_front : (above below : List Item) (n : ℕ) → n ≤ length above → take n (above ++ below) ≡ take n above
taken_in_front [] below zero less = none_taken below
taken_in_front [] below (suc n) less = absurd (omega (arith, less))
taken_in_front (x ∷ above) below zero less = refl
taken_in_front (x ∷ above) below (suc n) less = ap (λ (xs : List Item). x ∷ xs) (taken_in_front above below n (omega (arith, less)))

all_taken : (items : List Item) → take (length items) items ≡ items
all_taken [] = refl
all_taken (x ∷ items) = ap (λ (xs : List Item). x ∷ xs) (all_taken items)

-- behind what is left comes the next one
next_in : (changes : List Change) (n k : ℕ) (items : List Item) → AllByRecursion (λ (c : Change). c.at ≢ n + k) changes → k < length items →
    length (new_items (slots_from n changes (take (suc k) items))) ≡ suc (length (new_items (slots_from n changes (take k items))))
next_in changes n k [] apart less = absurd (omega (arith, less))
next_in changes n zero (y ∷ items) apart less =
    let e : n + 0 ≡ n = omega arith in
    ap (λ (xs : List Item). length (instead changes n y ++ new_items (slots_from (n + 1) changes xs))) (none_taken items)
    ∙ ap (λ (xs : List Item). length (xs ++ [])) (left_alone changes n y (subst (λ (m : ℕ). AllByRecursion (λ (c : Change). c.at ≢ m) changes) e apart))
next_in changes n (suc k) (y ∷ items) apart less =
    let e : n + suc k ≡ (n + 1) + k = omega arith in
    let rest : length (new_items (slots_from (n + 1) changes (take (suc k) items))) ≡ suc (length (new_items (slots_from (n + 1) changes (take k items)))) =
    next_in changes (n + 1) k items (subst (λ (m : ℕ). AllByRecursion (λ (c : Change). c.at ≢ m) changes) e apart) (omega (arith, less)) in
    let one : length (instead changes n y ++ new_items (slots_from (n + 1) changes (take (suc k) items))) ≡ length (instead changes n y) + length (new_items (slots_from (n + 1) changes (take (suc k) items))) =
    length-append (instead changes n y) (new_items (slots_from (n + 1) changes (take (suc k) items))) in
    let two : length (instead changes n y ++ new_items (slots_from (n + 1) changes (take k items))) ≡ length (instead changes n y) + length (new_items (slots_from (n + 1) changes (take k items))) =
    length-append (instead changes n y) (new_items (slots_from (n + 1) changes (take k items))) in
    omega (arith, rest, one, two)

next_number : (d : Edit) (items : List Item) (n : ℕ) → Leaves d n → n < length items → new_number d items (suc n) ≡ suc (new_number d items n)
next_number d items n leaves less =
    let e : n ≡ 0 + n = omega arith in
    next_in d.changes 0 n items (subst (λ (m : ℕ). AllByRecursion (λ (c : Change). c.at ≢ m) d.changes) e leaves) less

number_above : (d : Edit) (above below : List Item) (n : ℕ) → n ≤ length above → new_number d (above ++ below) n ≡ length (above_behind d (take n above))
number_above d above below n less = ap (λ (xs : List Item). length (above_behind d xs)) (taken_in_front above below n less)

-- ---- Behind a step

module _ (stay : PartsStay) (items : List Item) (j : Step) (d : Edit) (is : IsStep items j d) (m place : ℕ) (p q : Pair) (leaves : Leaves d m) (place_leaves : Leaves d place)
    (p_still : is_moved d.moved p ≡ false) (q_still : is_moved d.moved q ≡ false) where
  barrier_on : BarriersGoOn → HasBarrierAbove items m place p q → HasBarrierAbove (edited d items) (new_number d items m) (new_number d items place) p q
  barrier_on go_on w = record {
    above = above_behind d w.above;
    below = below_behind d w.above w.below;
    y = length (below_behind d w.above (take w.y w.below));
    lower = w.lower;
    parts = ap (edited d) w.parts ∙ (stay d w.above w.below).0;
    place_is = ap (new_number d items) w.place_is ∙ ap (λ (xs : List Item). new_number d xs (length w.above)) w.parts ∙ number_above d w.above w.below (length w.above) (omega arith)
        ∙ ap (λ (xs : List Item). length (above_behind d xs)) (all_taken w.above);
    mover_is = ap (new_number d items) w.mover_is ∙ ap (λ (xs : List Item). new_number d xs (length w.above + w.y)) w.parts ∙ (stay d w.above w.below).1 w.y;
    barrier = go_on w.above w.below j d (subst (λ (xs : List Item). IsStep xs j d) w.parts is) w.y w.lower p q (subst (Leaves d) w.mover_is leaves) p_still q_still w.barrier;
  }

  lower_barrier_on : LowerBarriersGoOn → HasBarrierBelow items m place p q → HasBarrierBelow (edited d items) (new_number d items m) (new_number d items place) p q
  lower_barrier_on go_on w = record {
    above = above_behind d w.above;
    below = below_behind d w.above w.below;
    upper = w.upper;
    parts = ap (edited d) w.parts ∙ (stay d w.above w.below).0;
    place_is = place_is;
    lower_barrier = subst (λ (n : ℕ). IsLowerBarrier (above_behind d w.above) (below_behind d w.above w.below) n w.upper p q) (sym mover_is)
        (go_on w.above w.below j d (subst (λ (xs : List Item). IsStep xs j d) w.parts is) m w.upper p q leaves p_still q_still w.lower_barrier);
    lacks = w.lacks;
  }
    where
      mover_is : new_number d items m ≡ length (above_behind d (take m w.above))
      mover_is =
          let inside : m < length w.above = slice_get_within w.above m (Rule w.upper) w.lower_barrier.pair.rule_at in
          ap (λ (xs : List Item). new_number d xs m) w.parts ∙ number_above d w.above w.below m (omega (arith, inside))

      long : length items ≡ length w.above + length w.below
      long = ap length w.parts ∙ length-append w.above w.below

      place_is : suc (new_number d items place) ≡ length (above_behind d w.above)
      place_is =
          let last : suc place ≡ length w.above = w.place_is in
          sym (next_number d items place place_leaves (omega (arith, last, long)))
          ∙ ap (new_number d items) last ∙ ap (λ (xs : List Item). new_number d xs (length w.above)) w.parts
          ∙ number_above d w.above w.below (length w.above) (omega arith) ∙ ap (λ (xs : List Item). length (above_behind d xs)) (all_taken w.above)

pub barred_on : PartsStay → BarriersGoOn → LowerBarriersGoOn → (way : Way) (items : List Item) (j : Step) (d : Edit) → IsStep items j d → (m place : ℕ) (p q : Pair) → Leaves d m → Leaves d place →
    is_moved d.moved p ≡ false → is_moved d.moved q ≡ false → IsBarredBy way items m place p q → IsBarredBy way (edited d items) (new_number d items m) (new_number d items place) p q
barred_on stay barriers lower_barriers Up items j d is m place p q leaves place_leaves p_still q_still w = barrier_on stay items j d is m place p q leaves place_leaves p_still q_still barriers w
barred_on stay barriers lower_barriers Down items j d is m place p q leaves place_leaves p_still q_still w = lower_barrier_on stay items j d is m place p q leaves place_leaves p_still q_still lower_barriers w

-- ---- What is hindered

module _ (answers : List Answered) (items : List Item) (m place : ℕ) (p q : Pair) (apart : AreNotApart answers p.selector q.selector) where
  up_hindered : BarredJoinsAreHindered → HasBarrierAbove items m place p q → (k : Step) (e : Edit) → IsStep items k e → IsUp k → last_item k ≡ m → first_item k < place → Hinders answers items e (OfPair p q)
  up_hindered law w k e is up moves past =
      subst (λ (xs : List Item). Hinders answers xs e (OfPair p q)) (sym w.parts)
      (law answers w.above w.below w.y w.lower p q w.barrier apart k e (subst (λ (xs : List Item). IsStep xs k e) w.parts is) up (subst (λ (n : ℕ). first_item k < n) w.place_is past) (moves ∙ w.mover_is))

  module _ (joins : LowerBarredJoinsAreHindered) (shares : LowerBarredSharesAreHindered) (w : HasBarrierBelow items m place p q) where
    -- the number in the lower part of an item past the other one
    number : (l : ℕ) → place < l → l ≡ length w.above + (l - length w.above)
    number l less = let last : suc place ≡ length w.above = w.place_is in omega (arith, less, last)

    join_hindered : (k : Step) (e : Edit) → IsStep items k e → IsDown k → first_item k ≡ m → place < last_item k → Hinders answers items e (OfPair p q)
    join_hindered k e is down moves past =
        subst (λ (xs : List Item). Hinders answers xs e (OfPair p q)) (sym w.parts)
        (joins answers w.above w.below m w.upper p q w.lower_barrier apart w.lacks k e (last_item k - length w.above) (subst (λ (xs : List Item). IsStep xs k e) w.parts is) down moves (number (last_item k) past))

    share_hindered : (x l : ℕ) (e : Edit) → IsStep items (Share x l) e → moves_decl items (Share x l) p.decl ≡ true → x ≡ m → place < l → Hinders answers items e (OfPair p q)
    share_hindered x l e is decl moves past =
        subst (λ (xs : List Item). Hinders answers xs e (OfPair p q)) (sym w.parts)
        (shares answers w.above w.below m w.upper p q w.lower_barrier apart w.lacks e (l - length w.above)
        (subst (λ (k : Step). IsStep (w.above ++ w.below) k e) same (subst (λ (xs : List Item). IsStep xs (Share x l) e) w.parts is))
        (subst (λ (k : Step). moves_decl (w.above ++ w.below) k p.decl ≡ true) same (subst (λ (xs : List Item). moves_decl xs (Share x l) p.decl ≡ true) w.parts decl)))
      where
        same : Share x l ≡ Share m (length w.above + (l - length w.above))
        same = ap (λ (n : ℕ). Share n l) moves ∙ ap (λ (n : ℕ). Share m n) (number l past)

    down_hindered : (k : Step) (e : Edit) → IsStep items k e → IsDownward k → moves_decl items k p.decl ≡ true → first_item k ≡ m → place < last_item k → Hinders answers items e (OfPair p q)
    down_hindered (JoinSelDown x l) e is down decl moves past = join_hindered (JoinSelDown x l) e is tt moves past
    down_hindered (JoinDeclDown x l) e is down decl moves past = join_hindered (JoinDeclDown x l) e is tt moves past
    down_hindered (Share x l) e is down decl moves past = share_hindered x l e is decl moves past
    down_hindered (CutDecl n i) e is down decl moves past = absurd down
    down_hindered (CutSel n i) e is down decl moves past = absurd down
    down_hindered (JoinSelUp x l) e is down decl moves past = absurd down
    down_hindered (JoinDeclUp x l) e is down decl moves past = absurd down

pub moves_hindered : BarredJoinsAreHindered → LowerBarredJoinsAreHindered → LowerBarredSharesAreHindered → (answers : List Answered) (way : Way) (items : List Item) (m place : ℕ) (p q : Pair) → IsBarredBy way items m place p q →
    AreNotApart answers p.selector q.selector → (k : Step) (e : Edit) → IsStep items k e → MovesPairs way k → moves_decl items k p.decl ≡ true → mover way k ≡ m → IsPast way place (partner way k) → Hinders answers items e (OfPair p q)
moves_hindered barriers lower_barriers shares answers Up items m place p q w apart k e is moves decl by past = up_hindered answers items m place p q apart barriers w k e is moves by past
moves_hindered barriers lower_barriers shares answers Down items m place p q w apart k e is moves decl by past = down_hindered answers items m place p q apart lower_barriers shares w k e is moves decl by past
