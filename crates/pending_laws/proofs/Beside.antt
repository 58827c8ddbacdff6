-- A step and a cut beside it that goes on behind it: each may be taken behind the other.
use Rattle.std.proofs.Common.{◌≡◌, ◌≢◌, ℕ, ◌<◌, Bool, true, false, List, [], ◌∷◌, length, refl, sym, ap, subst, inr}
use Rattle.std.specs.List.{AllByRecursion, remove}
use Rattle.std.proofs.lemmas.Option.{slice_get_within}
use Rattle.css_model.specs.declared.sheet.Item.{Item}
use Rattle.css_model.specs.declared.sheet.Item.TheVariants.{Rule}
use Rattle.css_model.specs.Cascade.Order.{Pair, HasPair}
use Rattle.css_model.specs.Sheets.Limits.{max_items}
use Rattle.order_laws.specs.Edits.{Moved, is_moved, whole_rule, Change, Edit, edited, StandsIn, IsRearrangement}
use Rattle.step_laws.specs.declared.step.Step.{Step}
use Rattle.step_laws.specs.declared.step.Step.TheVariants.{CutDecl, CutSel, JoinSelUp, JoinSelDown, JoinDeclUp, JoinDeclDown, Share}
use Rattle.step_laws.specs.Free.{Answered}
use Rattle.step_laws.specs.Left.{StepsRearrange}
use Rattle.step_laws.specs.RuleParting.{rule_or_none}
use Rattle.step_laws.specs.StepEdits.{one_change}
use Rattle.step_laws.specs.Steps.{IsStep, first_item, last_item}
use Rattle.plan_laws.specs.Barrier.Hindering.{Hindrance, OfPair, OfKept, Hinders, HasRoom, IsUntouched}
use Rattle.plan_laws.specs.Barrier.Renumbering.{Leaves, new_number, renumbered, renumbered_edit, AreOfOthers, IsOfOthers, IsOfTwo, AreSideBySide, ItemsStay, EditsCommute, JoinsStay, HindrancesGoOn, KeptHindrancesGoOn}
use Rattle.plan_laws.specs.Barrier.SideBySide.{StepsAreSideBySide}
use Rattle.pending_laws.specs.Behind.{GoesOn}
use Rattle.pending_laws.proofs.Elsewhere.{stood_there}

-- a rearrangement adds no pair
pairs_back : (items : List Item) (e : Edit) → IsRearrangement items e → (p : Pair) → HasPair (edited e items) p → HasPair items p
pairs_back items e is p has = which (is_moved e.moved p) refl
  where
    which : (b : Bool) → is_moved e.moved p ≡ b → HasPair items p
    which true h = let w : StandsIn e.moved.out_of items p = is.from p h in (w.0, w.1)
    which false h = stood_there (is_moved e.moved) p h e.changes 0 items is.fair has

-- ---- The items of the step

abbrev InRange : List Item → Edit → Type 0
InRange items d = AllByRecursion (λ (c : Change). c.at < length items) d.changes

in_range : (items : List Item) (j : Step) (d : Edit) → IsStep items j d → InRange items d
in_range items (CutDecl x i) d c = subst (InRange items) (sym c.is) (slice_get_within items x (Rule c.rule) c.rule_at, tt)
in_range items (CutSel x i) d c = subst (InRange items) (sym c.is) (slice_get_within items x (Rule c.rule) c.rule_at, tt)
in_range items (JoinSelUp x y) d j = subst (InRange items) (sym j.is) (slice_get_within items x (Rule j.upper) j.rules.upper_at, (slice_get_within items y (Rule j.lower) j.rules.lower_at, tt))
in_range items (JoinSelDown x y) d j = subst (InRange items) (sym j.is) (slice_get_within items x (Rule j.upper) j.rules.upper_at, (slice_get_within items y (Rule j.lower) j.rules.lower_at, tt))
in_range items (JoinDeclUp x y) d j = subst (InRange items) (sym j.is) (slice_get_within items x (Rule j.upper) j.rules.upper_at, (slice_get_within items y (Rule j.lower) j.rules.lower_at, tt))
in_range items (JoinDeclDown x y) d j = subst (InRange items) (sym j.is) (slice_get_within items x (Rule j.upper) j.rules.upper_at, (slice_get_within items y (Rule j.lower) j.rules.lower_at, tt))
in_range items (Share x y) d j = subst (InRange items) (sym j.is) (slice_get_within items x (Rule j.upper) j.rules.upper_at, (slice_get_within items y (Rule j.lower) j.rules.lower_at, tt))

-- what a step leaves is none of its items
abbrev IsNoneOf : Step → ℕ → Edit → Type 0
IsNoneOf j n d = Leaves d n → (n ≢ first_item j) × (n ≢ last_item j)

none_of : (items : List Item) (j : Step) (d : Edit) (n : ℕ) → IsStep items j d → IsNoneOf j n d
none_of items (CutDecl x i) d n c = subst (IsNoneOf (CutDecl x i) n) (sym c.is) (λ h. (λ e. h.0 (sym e), λ e. h.0 (sym e)))
none_of items (CutSel x i) d n c = subst (IsNoneOf (CutSel x i) n) (sym c.is) (λ h. (λ e. h.0 (sym e), λ e. h.0 (sym e)))
none_of items (JoinSelUp x y) d n j = subst (IsNoneOf (JoinSelUp x y) n) (sym j.is) (λ h. (λ e. h.0 (sym e), λ e. h.1.0 (sym e)))
none_of items (JoinSelDown x y) d n j = subst (IsNoneOf (JoinSelDown x y) n) (sym j.is) (λ h. (λ e. h.0 (sym e), λ e. h.1.0 (sym e)))
none_of items (JoinDeclUp x y) d n j = subst (IsNoneOf (JoinDeclUp x y) n) (sym j.is) (λ h. (λ e. h.0 (sym e), λ e. h.1.0 (sym e)))
none_of items (JoinDeclDown x y) d n j = subst (IsNoneOf (JoinDeclDown x y) n) (sym j.is) (λ h. (λ e. h.0 (sym e), λ e. h.1.0 (sym e)))
none_of items (Share x y) d n j = subst (IsNoneOf (Share x y) n) (sym j.is) (λ h. (λ e. h.0 (sym e), λ e. h.1.0 (sym e)))

-- ---- An edit of one item beside the step

each_left : (items : List Item) (n : ℕ) (by : List Item) (m : Moved) (changes : List Change) → AllByRecursion (λ (c : Change). c.at ≢ n) changes → AllByRecursion (λ (c : Change). c.at < length items) changes →
    AllByRecursion (λ (c : Change). Leaves (one_change n by m) c.at × (c.at < length items)) changes
each_left items n by m [] apart less = tt
each_left items n by m (c ∷ changes) apart less = (((λ e. apart.0 (sym e), tt), less.0), each_left items n by m changes apart.1 less.1)

-- the edit leaves room, and behind the step no pair goes by it
record IsBeside (items : List Item) (d : Edit) (n : ℕ) (by : List Item) (m : Moved) : Type 0 where
  leaves : Leaves d n
  less : n < length items
  is : IsRearrangement items (one_change n by m)
  room : length (edited (one_change n by m) items) < max_items
  none : (p : Pair) → HasPair (edited d items) p → HasPair (edited (renumbered_edit (new_number d items) (one_change n by m)) (edited d items)) p

module _ (items : List Item) (j : Step) (d : Edit) (n : ℕ) (by : List Item) (m : Moved) (step : IsStep items j d) (b : IsBeside items d n by m) where
  both : AreOfOthers items d (one_change n by m)
  both = (((b.leaves, b.less), tt), each_left items n by m d.changes b.leaves (in_range items j d step))

  back : IsOfOthers (one_change n by m) j
  back = let w : (n ≢ first_item j) × (n ≢ last_item j) = none_of items j d n step b.leaves in ((w.0, tt), (w.1, tt))

  -- where the step is a cut, no pair goes by it behind the edit either
  none_goes : EditsCommute → ((p : Pair) → HasPair items p → HasPair (edited d items) p) → (p : Pair) → HasPair (edited (one_change n by m) items) p →
      HasPair (edited (renumbered_edit (new_number (one_change n by m) items) d) (edited (one_change n by m) items)) p
  none_goes commute goes p has = subst (λ (xs : List Item). HasPair xs p) (commute items d (one_change n by m) both) (b.none p (goes p (pairs_back items (one_change n by m) b.is p has)))

-- the step goes on behind the edit
goes_back : ItemsStay → EditsCommute → JoinsStay → (items : List Item) (j : Step) (d : Edit) (n : ℕ) (by : List Item) (m : Moved) → IsStep items j d → IsBeside items d n by m →
    IsStep (edited (one_change n by m) items) (renumbered (new_number (one_change n by m) items) j) (renumbered_edit (new_number (one_change n by m) items) d)
goes_back stay commute joins items (CutDecl x i) d n by m c b =
    let e : Edit = one_change n by m in
    record {
      rule = c.rule;
      rule_at = stay e items x (Rule c.rule) (back items (CutDecl x i) d n by m c b).0 c.rule_at;
      part = c.part;
      no_pair_goes = λ p h. subst (λ (y : Edit). HasPair (edited (renumbered_edit (new_number e items) y) (edited e items)) p) c.is
          (none_goes items (CutDecl x i) d n by m c b commute (λ q g. subst (λ (y : Edit). HasPair (edited y items) q) (sym c.is) (c.no_pair_goes q g)) p h);
      is = ap (renumbered_edit (new_number e items)) c.is;
    }
goes_back stay commute joins items (CutSel x i) d n by m c b =
    let e : Edit = one_change n by m in
    record {
      rule = c.rule;
      rule_at = stay e items x (Rule c.rule) (back items (CutSel x i) d n by m c b).0 c.rule_at;
      part = c.part;
      no_pair_goes = λ p h. subst (λ (y : Edit). HasPair (edited (renumbered_edit (new_number e items) y) (edited e items)) p) c.is
          (none_goes items (CutSel x i) d n by m c b commute (λ q g. subst (λ (y : Edit). HasPair (edited y items) q) (sym c.is) (c.no_pair_goes q g)) p h);
      is = ap (renumbered_edit (new_number e items)) c.is;
    }
goes_back stay commute joins items (JoinSelUp x y) d n by m j b = joins items (one_change n by m) (JoinSelUp x y) d tt (back items (JoinSelUp x y) d n by m j b) (inr b.room) j
goes_back stay commute joins items (JoinSelDown x y) d n by m j b = joins items (one_change n by m) (JoinSelDown x y) d tt (back items (JoinSelDown x y) d n by m j b) (inr b.room) j
goes_back stay commute joins items (JoinDeclUp x y) d n by m j b = joins items (one_change n by m) (JoinDeclUp x y) d tt (back items (JoinDeclUp x y) d n by m j b) (inr b.room) j
goes_back stay commute joins items (JoinDeclDown x y) d n by m j b = joins items (one_change n by m) (JoinDeclDown x y) d tt (back items (JoinDeclDown x y) d n by m j b) (inr b.room) j
goes_back stay commute joins items (Share x y) d n by m j b = joins items (one_change n by m) (Share x y) d tt (back items (Share x y) d n by m j b) (inr b.room) j

one_beside : StepsRearrange → ItemsStay → EditsCommute → JoinsStay → (items : List Item) (j : Step) (d : Edit) (n : ℕ) (by : List Item) (m : Moved) → IsStep items j d → IsBeside items d n by m →
    AreSideBySide items d (one_change n by m)
one_beside rearrange stay commute joins items j d n by m step b =
    let e : Edit = one_change n by m in
    record {
      others = both items j d n by m step b;
      first = rearrange items j d step;
      second = rearrange (edited e items) (renumbered (new_number e items) j) (renumbered_edit (new_number e items) d) (goes_back stay commute joins items j d n by m step b);
    }

-- ---- A step that goes on

pub side_by_side : StepsAreSideBySide → StepsRearrange → ItemsStay → EditsCommute → JoinsStay → (items : List Item) (j : Step) (d : Edit) (k : Step) (e : Edit) → HasRoom items → IsStep items j d → GoesOn items d k e → AreSideBySide items d e
side_by_side side rearrange stay commute joins items j d k e room step on = by_kind k on
  where
    of_two : (k : Step) → IsOfTwo k → GoesOn items d k e → AreSideBySide items d e
    of_two k two on = side items j k d e step on.before two on.others (inr (room.1 j d step)) (inr (room.1 k e on.before))

    of_one : (n : ℕ) (by : List Item) (m : Moved) (k : Step) → e ≡ one_change n by m → Leaves d n → n < length items → IsStep items k e →
        ((p : Pair) → HasPair (edited d items) p → HasPair (edited (renumbered_edit (new_number d items) e) (edited d items)) p) → AreSideBySide items d e
    of_one n by m k same leaves less is none = subst (AreSideBySide items d) (sym same) (one_beside rearrange stay commute joins items j d n by m step (record {
      leaves = leaves;
      less = less;
      is = subst (IsRearrangement items) same (rearrange items k e is);
      room = subst (λ (x : Edit). length (edited x items) < max_items) same (room.1 k e is);
      none = subst (λ (x : Edit). (p : Pair) → HasPair (edited d items) p → HasPair (edited (renumbered_edit (new_number d items) x) (edited d items)) p) same none;
    }))

    by_kind : (k : Step) → GoesOn items d k e → AreSideBySide items d e
    by_kind (CutDecl n i) on =
        let c = on.before in let c' = on.behind in
        of_one n (rule_or_none (record { selectors = c.rule.selectors; decls = remove c.rule.decls i })) (whole_rule n c.rule) (CutDecl n i) c.is on.others.0 (slice_get_within items n (Rule c.rule) c.rule_at) c
        (λ p h. subst (λ (x : Edit). HasPair (edited x (edited d items)) p) (sym c'.is) (c'.no_pair_goes p h))
    by_kind (CutSel n i) on =
        let c = on.before in let c' = on.behind in
        of_one n (rule_or_none (record { selectors = remove c.rule.selectors i; decls = c.rule.decls })) (whole_rule n c.rule) (CutSel n i) c.is on.others.0 (slice_get_within items n (Rule c.rule) c.rule_at) c
        (λ p h. subst (λ (x : Edit). HasPair (edited x (edited d items)) p) (sym c'.is) (c'.no_pair_goes p h))
    by_kind (JoinSelUp x y) on = of_two (JoinSelUp x y) tt on
    by_kind (JoinSelDown x y) on = of_two (JoinSelDown x y) tt on
    by_kind (JoinDeclUp x y) on = of_two (JoinDeclUp x y) tt on
    by_kind (JoinDeclDown x y) on = of_two (JoinDeclDown x y) tt on
    by_kind (Share x y) on = of_two (Share x y) tt on

pub hindered_on : HindrancesGoOn → KeptHindrancesGoOn → (answers : List Answered) (items : List Item) (d e : Edit) → AreSideBySide items d e → (h : Hindrance) → IsUntouched d h → Hinders answers items e h →
    Hinders answers (edited d items) (renumbered_edit (new_number d items) e) h
hindered_on pairs kept answers items d e both (OfPair p q) still hinders = (pairs items d e both p q still.0 still.1 hinders.0, hinders.1)
hindered_on pairs kept answers items d e both (OfKept p number) still hinders = kept items d e both p number still hinders
