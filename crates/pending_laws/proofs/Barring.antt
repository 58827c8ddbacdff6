-- Barriers and lower barriers behind a step.
use Rattle.std.proofs.Common.{◌≡◌, ◌≢◌, ℕ, zero, suc, ◌+◌, Bool, false, List, [], ◌∷◌, ◌++◌, length, take, Some, None, sym, ap, ◌∙◌, subst, arith}
use Rattle.std.specs.Prelude.{slice_get}
use Rattle.std.specs.List.{All, AllByRecursion}
use Rattle.std.proofs.lemmas.List.{append_assoc, length-append}
use Rattle.std.proofs.lemmas.List.Elements.{All-nil, All-cons, All-head, All-tail}
use Rattle.css_model.specs.declared.sheet.Item.{Item}
use Rattle.css_model.specs.declared.sheet.Item.TheVariants.{Rule}
use Rattle.css_model.specs.Cascade.Order.{Pair, IsBefore}
use Rattle.css_model.specs.Sheets.RuleParts.{RuleParts}
use Rattle.order_laws.specs.Edits.{Change, instead, slots_from, is_moved, Edit, edited}
use Rattle.order_laws.specs.Reversing.{UnmovedKeepTheirOrder}
use Rattle.order_laws.specs.Slots.{Slot, new_items, IsFair}
use Rattle.step_laws.specs.declared.step.Step.{Step}
use Rattle.step_laws.specs.Left.{StepsRearrange}
use Rattle.step_laws.specs.Steps.{IsStep}
use Rattle.plan_laws.specs.Barrier.Renumbering.{Leaves, new_number}
use Rattle.plan_laws.specs.Barrier.Barriers.{IsBarrier, IsLowerBarrier}
use Rattle.pending_laws.specs.Barred.{above_behind, below_behind, PartsStay}
use Rattle.pending_laws.proofs.Elsewhere.{left_alone, stood_there, stood_elsewhere, still_elsewhere}

-- ---- A sheet in two parts

pub parts : (changes : List Change) (n : ℕ) (above below : List Item) → new_items (slots_from n changes (above ++ below)) ≡ new_items (slots_from n changes above) ++ new_items (slots_from (n + length above) changes below)
parts changes n [] below = let e : n ≡ n + 0 = omega arith in ap (λ (m : ℕ). new_items (slots_from m changes below)) e
parts changes n (x ∷ above) below =
    let e : (n + 1) + length above ≡ n + length (x ∷ above) = omega arith in
    ap (λ (xs : List Item). instead changes n x ++ xs) (parts changes (n + 1) above below ∙ ap (λ (m : ℕ). new_items (slots_from (n + 1) changes above) ++ new_items (slots_from m changes below)) e)
    ∙ sym (append_assoc (instead changes n x) (new_items (slots_from (n + 1) changes above)) (new_items (slots_from (n + length (x ∷ above)) changes below)))

in_two : (d : Edit) (above below : List Item) → edited d (above ++ below) ≡ above_behind d above ++ below_behind d above below
in_two d above below =
    let e : 0 + length above ≡ length above = omega arith in
    parts d.changes 0 above below ∙ ap (λ (m : ℕ). above_behind d above ++ new_items (slots_from m d.changes below)) e

take_behind : (above below : List Item) (y : ℕ) → take (length above + y) (above ++ below) ≡ above ++ take y below
take_behind [] below y = let e : 0 + y ≡ y = omega arith in ap (λ (n : ℕ). take n below) e
take_behind (x ∷ above) below y = let e : length (x ∷ above) + y ≡ suc (length above + y) = omega arith in ap (λ (n : ℕ). take n (x ∷ above ++ below)) e ∙ ap (λ (xs : List Item). x ∷ xs) (take_behind above below y)

pub parts_stay : PartsStay
parts_stay d above below = (in_two d above below, number)
  where
    number : (y : ℕ) → new_number d (above ++ below) (length above + y) ≡ length (above_behind d above) + length (below_behind d above (take y below))
    number y =
        ap (λ (xs : List Item). length (new_items (slots_from 0 d.changes xs))) (take_behind above below y)
        ∙ ap length (in_two d above (take y below)) ∙ length-append (above_behind d above) (below_behind d above (take y below))

-- ---- What an edit leaves, from any number on

left_at : (changes : List Change) (n k : ℕ) (items : List Item) (x : Item) → AllByRecursion (λ (c : Change). c.at ≢ n + k) changes → slice_get items k ≡ Some x →
    slice_get (new_items (slots_from n changes items)) (length (new_items (slots_from n changes (take k items)))) ≡ Some x
left_at changes n k [] x apart at = absurd (let e : None ≡ Some x = at in cc)
left_at changes n zero (y ∷ items) x apart at =
    let e : n + 0 ≡ n = omega arith in
    ap (λ (ys : List Item). slice_get (ys ++ new_items (slots_from (n + 1) changes items)) 0) (left_alone changes n y (subst (λ (m : ℕ). AllByRecursion (λ (c : Change). c.at ≢ m) changes) e apart)) ∙ at
left_at changes n (suc k) (y ∷ items) x apart at =
    let e : n + suc k ≡ (n + 1) + k = omega arith in
    let more : length (instead changes n y ++ new_items (slots_from (n + 1) changes (take k items))) ≡ length (instead changes n y) + length (new_items (slots_from (n + 1) changes (take k items))) =
    length-append (instead changes n y) (new_items (slots_from (n + 1) changes (take k items))) in
    ap (λ (j : ℕ). slice_get (instead changes n y ++ new_items (slots_from (n + 1) changes items)) j) more
    ∙ get_behind (instead changes n y) (new_items (slots_from (n + 1) changes items)) (length (new_items (slots_from (n + 1) changes (take k items))))
    ∙ left_at changes (n + 1) k items x (subst (λ (m : ℕ). AllByRecursion (λ (c : Change). c.at ≢ m) changes) e apart) at
  where
    get_behind : (xs ys : List Item) (i : ℕ) → slice_get (xs ++ ys) (length xs + i) ≡ slice_get ys i
    get_behind [] ys i = let z : 0 + i ≡ i = omega arith in ap (slice_get ys) z
    get_behind (x ∷ xs) ys i = let z : length (x ∷ xs) + i ≡ suc (length xs + i) = omega arith in ap (slice_get (x ∷ xs ++ ys)) z ∙ get_behind xs ys i

-- what is fair of a sheet is so of its parts
module _ (moved : Pair → Bool) (changes : List Change) where
  abbrev slot : ℕ → Item → Slot
  slot n x = record { old = x; new = instead changes n x }

  fair_above : (n : ℕ) (above below : List Item) → All (IsFair moved) (slots_from n changes (above ++ below)) → All (IsFair moved) (slots_from n changes above)
  fair_above n [] below all = All-nil (IsFair moved)
  fair_above n (x ∷ above) below all =
      All-cons (IsFair moved) (slot n x) (slots_from (n + 1) changes above) (All-head (IsFair moved) (slot n x) (slots_from (n + 1) changes (above ++ below)) all)
      (fair_above (n + 1) above below (All-tail (IsFair moved) (slot n x) (slots_from (n + 1) changes (above ++ below)) all))

  fair_below : (n : ℕ) (above below : List Item) → All (IsFair moved) (slots_from n changes (above ++ below)) → All (IsFair moved) (slots_from (n + length above) changes below)
  fair_below n [] below all = let e : n ≡ n + 0 = omega arith in subst (λ (m : ℕ). All (IsFair moved) (slots_from m changes below)) e all
  fair_below n (x ∷ above) below all =
      let e : (n + 1) + length above ≡ n + length (x ∷ above) = omega arith in
      subst (λ (m : ℕ). All (IsFair moved) (slots_from m changes below)) e (fair_below (n + 1) above below (All-tail (IsFair moved) (slot n x) (slots_from (n + 1) changes (above ++ below)) all))

-- ---- Behind a step

module _ (rearrange : StepsRearrange) (unmoved : UnmovedKeepTheirOrder) (above below : List Item) (j : Step) (d : Edit) (is : IsStep (above ++ below) j d) where
  upper_fair : All (IsFair (is_moved d.moved)) (slots_from 0 d.changes above)
  upper_fair = fair_above (is_moved d.moved) d.changes 0 above below (rearrange (above ++ below) j d is).fair

  lower_fair : All (IsFair (is_moved d.moved)) (slots_from (length above) d.changes below)
  lower_fair =
      let e : 0 + length above ≡ length above = omega arith in
      subst (λ (n : ℕ). All (IsFair (is_moved d.moved)) (slots_from n d.changes below)) e (fair_below (is_moved d.moved) d.changes 0 above below (rearrange (above ++ below) j d is).fair)

  order_stays : (p q : Pair) → is_moved d.moved p ≡ false → is_moved d.moved q ≡ false → IsBefore (above ++ below) p q → IsBefore (above_behind d above ++ below_behind d above below) p q
  order_stays p q first second before =
      subst (λ (xs : List Item). IsBefore xs p q) (in_two d above below) (((unmoved (above ++ below) d (rearrange (above ++ below) j d is)).0 p q first second).0 before)

  pub barriers_on : (y : ℕ) (lower : RuleParts) (p q : Pair) → Leaves d (length above + y) → is_moved d.moved p ≡ false → is_moved d.moved q ≡ false → IsBarrier above below y lower p q →
      IsBarrier (above_behind d above) (below_behind d above below) (length (below_behind d above (take y below))) lower p q
  barriers_on y lower p q leaves first second w = record {
    pair = record { rule_at = left_at d.changes (length above) y below (Rule lower) leaves w.pair.rule_at; selector_in = w.pair.selector_in; decl_in = w.pair.decl_in };
    nowhere_else = λ h. w.nowhere_else (stood_elsewhere (is_moved d.moved) p first d.changes (length above) y below (Rule lower) lower_fair leaves w.pair.rule_at h);
    other = still_elsewhere (is_moved d.moved) q second d.changes (length above) y below (Rule lower) lower_fair leaves w.pair.rule_at w.other;
    weigh = w.weigh;
    order = order_stays q p second first w.order;
  }

  pub lower_barriers_on : (x : ℕ) (upper : RuleParts) (p q : Pair) → Leaves d x → is_moved d.moved p ≡ false → is_moved d.moved q ≡ false → IsLowerBarrier above below x upper p q →
      IsLowerBarrier (above_behind d above) (below_behind d above below) (length (above_behind d (take x above))) upper p q
  lower_barriers_on x upper p q leaves first second w =
      let z : x ≡ 0 + x = omega arith in
      let left : AllByRecursion (λ (c : Change). c.at ≢ 0 + x) d.changes = subst (λ (m : ℕ). AllByRecursion (λ (c : Change). c.at ≢ m) d.changes) z leaves in
      record {
        pair = record { rule_at = left_at d.changes 0 x above (Rule upper) left w.pair.rule_at; selector_in = w.pair.selector_in; decl_in = w.pair.decl_in };
        other = still_elsewhere (is_moved d.moved) q second d.changes 0 x above (Rule upper) upper_fair left w.pair.rule_at w.other;
        not_below = λ h. w.not_below (stood_there (is_moved d.moved) q second d.changes (length above) below lower_fair h);
        weigh = w.weigh;
        order = order_stays p q first second w.order;
      }
