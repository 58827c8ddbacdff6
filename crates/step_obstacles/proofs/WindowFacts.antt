-- What holds of the window of each step.
use Rattle.std.proofs.Common.{◌≡◌, ℕ, zero, suc, ◌+◌, ◌-◌, ◌<◌, ◌≤◌, true, List, [], ◌∷◌, length, take, drop, Some, None, refl, sym, ap, ◌∙◌, subst, arith}
use Rattle.std.specs.Prelude.{slice_get, slice_range}
use Rattle.std.proofs.lemmas.Bool.{false≢true}
use Rattle.cascade_laws.proofs.ForCallers.{some-same}
use Rattle.css_model.specs.declared.sheet.DeclItem.{DeclItem}
use Rattle.css_model.specs.declared.sheet.Item.{Item}
use Rattle.css_model.specs.declared.sheet.Item.TheVariants.{Rule}
use Rattle.css_model.specs.declared.sheet.SelItem.{SelItem}
use Rattle.css_model.specs.Sheets.KeptItems.{is_kept, kept_items}
use Rattle.css_model.specs.Sheets.RuleParts.{RuleParts}
use Rattle.order_laws.specs.Edits.{Edit}
use Rattle.step_laws.specs.declared.step.Step.{Step}
use Rattle.step_laws.specs.declared.step.Step.TheVariants.{CutDecl, CutSel, JoinSelUp, JoinSelDown, JoinDeclUp, JoinDeclDown, Share}
use Rattle.step_laws.specs.RuleParting.{common_decls, item_if_any, rule_or_none, without_decls}
use Rattle.step_laws.specs.Steps.{IsStep, last_item}
use Rattle.plan_laws.specs.Window.StepWindows.{window_start, middle_start, first_left}
use Rattle.window_order.specs.Between.{AreBetween}

-- ---- Lists

pub below : {X : Type 0} (xs : List X) (i : ℕ) (x : X) → slice_get xs i ≡ Some x → i < length xs
below {X} [] i x at = absurd (let e : None ≡ Some x = at in cc)
below {X} (y ∷ xs) zero x at = omega arith
below {X} (y ∷ xs) (suc i) x at = let h : i < length xs = below xs i x at in omega (arith, h)

-- an element alone
pub one_at : {X : Type 0} (xs : List X) (n : ℕ) (x : X) → slice_get xs n ≡ Some x → slice_range xs n (n + 1) ≡ x ∷ []
one_at {X} xs n x at = let e : (n + 1) - n ≡ 1 = omega arith in ap (λ (k : ℕ). take k (drop n xs)) e ∙ first xs n at
  where
    first : (ys : List X) (m : ℕ) → slice_get ys m ≡ Some x → take 1 (drop m ys) ≡ x ∷ []
    first [] m g = absurd (let e : None ≡ Some x = g in cc)
    first (y ∷ ys) zero g = ap (λ (z : X). z ∷ []) (some-same g)
    first (y ∷ ys) (suc m) g = first ys m g

none_of : {X : Type 0} (xs : List X) → slice_range xs 0 0 ≡ []
none_of {X} [] = refl
none_of {X} (x ∷ xs) = refl

-- what is left of a rule is no kept item
left_plain : (r : RuleParts) → kept_items (rule_or_none r) ≡ []
left_plain r = which r.selectors r.decls
  where
    which : (ss : List SelItem) (ds : List DeclItem) → kept_items (item_if_any ss ds r) ≡ []
    which [] ds = refl
    which (s ∷ ss) [] = refl
    which (s ∷ ss) (d ∷ ds) = refl

-- ---- Of each step

pub record WindowFacts (items : List Item) (k : Step) (e : Edit) : Type 0 where
  pub start_first : window_start k ≤ middle_start k
  pub middle_first : middle_start k ≤ last_item k
  pub within : last_item k < length items
  pub between : AreBetween items (window_start k) (middle_start k) (last_item k)
  pub first_plain : kept_items (slice_range items (window_start k) (middle_start k)) ≡ []
  pub last_plain : kept_items (slice_range items (last_item k) (last_item k + 1)) ≡ []
  pub left_plain : kept_items (first_left e.changes) ≡ []

-- a kept item is no rule
apart : (items : List Item) (i n : ℕ) (item : Item) (r : RuleParts) → slice_get items i ≡ Some item → is_kept item ≡ true → slice_get items n ≡ Some (Rule r) → i ≡ n → ⊥
apart items i n item r at kept rule e = false≢true (sym (ap is_kept (some-same (sym at ∙ ap (slice_get items) e ∙ rule))) ∙ kept)

less_or_same : (i n : ℕ) → i ≤ n → (i ≡ n → ⊥) → i < n
less_or_same zero zero less other = absurd (other refl)
less_or_same zero (suc n) less other = omega arith
less_or_same (suc i) zero less other = absurd (omega arith)
less_or_same (suc i) (suc n) less other = let h : i < n = less_or_same i n (omega arith) (λ e. other (ap suc e)) in omega (arith, h)

rule_plain : (items : List Item) (n : ℕ) (r : RuleParts) → slice_get items n ≡ Some (Rule r) → kept_items (slice_range items n (n + 1)) ≡ []
rule_plain items n r at = ap kept_items (one_at items n (Rule r) at)

module _ (items : List Item) where
  between_cut : (n : ℕ) (r : RuleParts) → slice_get items n ≡ Some (Rule r) → AreBetween items 0 0 n
  between_cut n r at i item item_at kept above under = (above, less_or_same i n under (λ e. apart items i n item r item_at kept at e))

  between_two : (x y : ℕ) (u l : RuleParts) → slice_get items x ≡ Some (Rule u) → slice_get items y ≡ Some (Rule l) → AreBetween items x (x + 1) y
  between_two x y u l upper lower i item item_at kept above under =
      let low : x < i = less_or_same x i above (λ e. apart items i x item u item_at kept upper (sym e)) in
      (omega (arith, low), less_or_same i y under (λ e. apart items i y item l item_at kept lower e))

  of_cut : (k : Step) (e : Edit) (n : ℕ) (r : RuleParts) → window_start k ≡ 0 → middle_start k ≡ 0 → last_item k ≡ n → slice_get items n ≡ Some (Rule r) → kept_items (first_left e.changes) ≡ [] → WindowFacts items k e
  of_cut k e n r start_is middle_is last_is at left = record {
    start_first = omega (arith, start_is, middle_is);
    middle_first = omega (arith, middle_is);
    within = subst (λ (m : ℕ). m < length items) (sym last_is) (below items n (Rule r) at);
    between = subst (λ (s : ℕ). AreBetween items s (middle_start k) (last_item k)) (sym start_is) (subst (λ (s : ℕ). AreBetween items 0 s (last_item k)) (sym middle_is) (subst (λ (s : ℕ). AreBetween items 0 0 s) (sym last_is) (between_cut n r at)));
    first_plain = ap (λ (s : ℕ). kept_items (slice_range items s (middle_start k))) start_is ∙ ap (λ (s : ℕ). kept_items (slice_range items 0 s)) middle_is ∙ ap kept_items (none_of items);
    last_plain = ap (λ (s : ℕ). kept_items (slice_range items s (s + 1))) last_is ∙ rule_plain items n r at;
    left_plain = left;
  }

  of_two : (k : Step) (e : Edit) (x y : ℕ) (u l : RuleParts) → window_start k ≡ x → middle_start k ≡ x + 1 → last_item k ≡ y → x < y → slice_get items x ≡ Some (Rule u) → slice_get items y ≡ Some (Rule l) →
      kept_items (first_left e.changes) ≡ [] → WindowFacts items k e
  of_two k e x y u l start_is middle_is last_is less upper lower left = record {
    start_first = omega (arith, start_is, middle_is);
    middle_first = omega (arith, middle_is, last_is, less);
    within = subst (λ (m : ℕ). m < length items) (sym last_is) (below items y (Rule l) lower);
    between = subst (λ (s : ℕ). AreBetween items s (middle_start k) (last_item k)) (sym start_is) (subst (λ (s : ℕ). AreBetween items x s (last_item k)) (sym middle_is) (subst (λ (s : ℕ). AreBetween items x (x + 1) s) (sym last_is) (between_two x y u l upper lower)));
    first_plain = ap (λ (s : ℕ). kept_items (slice_range items s (middle_start k))) start_is ∙ ap (λ (s : ℕ). kept_items (slice_range items x s)) middle_is ∙ rule_plain items x u upper;
    last_plain = ap (λ (s : ℕ). kept_items (slice_range items s (s + 1))) last_is ∙ rule_plain items y l lower;
    left_plain = left;
  }

abbrev plain_first : Edit → Type 0
plain_first e = kept_items (first_left e.changes) ≡ []

pub window_facts : (items : List Item) (k : Step) (e : Edit) → IsStep items k e → WindowFacts items k e
window_facts items (CutDecl n i) e is = of_cut items (CutDecl n i) e n is.rule refl refl refl is.rule_at (subst plain_first (sym is.is) refl)
window_facts items (CutSel n i) e is = of_cut items (CutSel n i) e n is.rule refl refl refl is.rule_at (subst plain_first (sym is.is) refl)
window_facts items (JoinSelUp x y) e is = of_two items (JoinSelUp x y) e x y is.upper is.lower refl refl refl is.rules.in_order is.rules.upper_at is.rules.lower_at (subst plain_first (sym is.is) refl)
window_facts items (JoinSelDown x y) e is = of_two items (JoinSelDown x y) e x y is.upper is.lower refl refl refl is.rules.in_order is.rules.upper_at is.rules.lower_at (subst plain_first (sym is.is) refl)
window_facts items (JoinDeclUp x y) e is = of_two items (JoinDeclUp x y) e x y is.upper is.lower refl refl refl is.rules.in_order is.rules.upper_at is.rules.lower_at (subst plain_first (sym is.is) refl)
window_facts items (JoinDeclDown x y) e is = of_two items (JoinDeclDown x y) e x y is.upper is.lower refl refl refl is.rules.in_order is.rules.upper_at is.rules.lower_at (subst plain_first (sym is.is) refl)
window_facts items (Share x y) e is = of_two items (Share x y) e x y is.upper is.lower refl refl refl is.rules.in_order is.rules.upper_at is.rules.lower_at
    (subst plain_first (sym is.is) (left_plain (without_decls (common_decls is.upper is.lower) is.upper)))

-- ---- At the numbers that the code has

pub record WindowAt (items : List Item) (start middle last : ℕ) (left : List Item) : Type 0 where
  pub start_first : start ≤ middle
  pub middle_first : middle ≤ last
  pub within : last < length items
  pub between : AreBetween items start middle last
  pub first_plain : kept_items (slice_range items start middle) ≡ []
  pub left_plain : kept_items left ≡ []

pub window_at : (items : List Item) (k : Step) (e : Edit) → IsStep items k e → (start middle last : ℕ) (left : List Item) → start ≡ window_start k → middle ≡ middle_start k → last ≡ last_item k → left ≡ first_left e.changes →
    WindowAt items start middle last left
window_at items k e is start middle last left a b c d =
    subst (λ (s : ℕ). WindowAt items s middle last left) (sym a)
    (subst (λ (m : ℕ). WindowAt items (window_start k) m last left) (sym b)
    (subst (λ (l : ℕ). WindowAt items (window_start k) (middle_start k) l left) (sym c)
    (subst (λ (xs : List Item). WindowAt items (window_start k) (middle_start k) (last_item k) xs) (sym d)
    (record { start_first = f.start_first; middle_first = f.middle_first; within = f.within; between = f.between; first_plain = f.first_plain; left_plain = f.left_plain }))))
  where
    f : WindowFacts items k e
    f = window_facts items k e is
