-- What hinders a rule from moving past a place of the sheet, whatever rule it would be joined to.
use Rattle.std.specs.Prelude.{◌≡◌, ℕ, ◌+◌, Bool, false, List, [], ◌∷◌, ◌++◌, Some, length, slice_get}
use Rattle.std.specs.List.{Contains, filter, remove}
use Rattle.css_model.specs.declared.sheet.Item.{Item}
use Rattle.css_model.specs.declared.sheet.Item.TheVariants.{Rule}
use Rattle.css_model.specs.Cascade.Order.{Pair, HasPair, Weigh, WeighsKept, IsBefore, IsBeforeKept}
use Rattle.css_model.specs.Sheets.KeptItems.{kept_items}
use Rattle.css_model.specs.Sheets.RuleParts.{RuleParts}
use Rattle.css_model.specs.Sheets.StyleRule.{selectors_of}
use Rattle.order_laws.specs.Edits.{whole_rule, Edit, edited}
use Rattle.order_laws.specs.Reversing.{ReversesPair, ReversesKept}
use Rattle.step_laws.specs.StepEdits.{two_changes}
use Rattle.step_laws.specs.Steps.{decls_of}

-- a rule of this number among the items, that has a pair
pub record HasPairAt (items : List Item) (n : ℕ) (r : RuleParts) (p : Pair) : Type 0 where
  pub rule_at : slice_get items n ≡ Some (Rule r)
  pub selector_in : Contains (selectors_of r) p.selector
  pub decl_in : Contains (decls_of r) p.decl

-- The rule of number `y` of the items below goes up, into what is made in the place of the rule of number
-- `x` of those above.
abbrev pub moving_up : List Item → ℕ → ℕ → RuleParts → RuleParts → Edit
moving_up above x y lower made = two_changes x (Rule made ∷ []) (length above + y) [] (whole_rule (length above + y) lower)

-- The rule of number `x` of the items above goes down, into what is made in the place of the rule of
-- number `y` of those below.
abbrev pub moving_down : List Item → ℕ → ℕ → RuleParts → RuleParts → Edit
moving_down above x y upper made = two_changes x [] (length above + y) (Rule made ∷ []) (whole_rule x upper)

-- ---- Barriers: below a place of the sheet

-- Of a sheet in two parts: a rule of the lower part has a pair that stands nowhere else in this part,
-- where another one stands that weighs with it and comes last before it.
pub record IsBarrier (above below : List Item) (y : ℕ) (lower : RuleParts) (p q : Pair) : Type 0 where
  pub pair : HasPairAt below y lower p
  pub nowhere_else : HasPair (remove below y) p → ⊥
  pub other : HasPair (remove below y) q
  pub weigh : Weigh p q
  pub order : IsBefore (above ++ below) q p

-- A barrier hinders the rule from moving up into any rule of the upper part: what is made there has the pair.
abbrev pub BarriersHinder : Type 0
BarriersHinder = (above below : List Item) (y : ℕ) (lower : RuleParts) (p q : Pair) → IsBarrier above below y lower p q →
    (x : ℕ) (upper made : RuleParts) → slice_get above x ≡ Some (Rule upper) → Contains (selectors_of made) p.selector → Contains (decls_of made) p.decl →
    let e = moving_up above x y lower made in ReversesPair (above ++ below) (edited e (above ++ below)) e.moved p q

-- In the same way a kept item, the first one of the lower part: behind it the pair stands by this rule alone.
pub record IsKeptBarrier (above below : List Item) (y : ℕ) (lower : RuleParts) (p : Pair) (item : Item) : Type 0 where
  pub pair : HasPairAt below y lower p
  pub nowhere_else : HasPair (remove below y) p → ⊥
  pub item_at : slice_get (kept_items (above ++ below)) (length (kept_items above)) ≡ Some item
  pub weighs : WeighsKept p item
  pub behind : IsBeforeKept (above ++ below) p (length (kept_items above)) → ⊥

abbrev pub KeptBarriersHinder : Type 0
KeptBarriersHinder = (above below : List Item) (y : ℕ) (lower : RuleParts) (p : Pair) (item : Item) → IsKeptBarrier above below y lower p item →
    (x : ℕ) (upper made : RuleParts) → slice_get above x ≡ Some (Rule upper) → Contains (selectors_of made) p.selector → Contains (decls_of made) p.decl →
    let e = moving_up above x y lower made in ReversesKept (above ++ below) (edited e (above ++ below)) e.moved p (length (kept_items above))

-- A barrier stays where no item with one of its pairs comes or goes.
abbrev pub BarriersStay : Type 0
BarriersStay = (keep : Item → Bool) (p q : Pair) → ((x : Item) → keep x ≡ false → (HasPair (x ∷ []) p → ⊥) × (HasPair (x ∷ []) q → ⊥)) →
    (above below above' below' : List Item) (y y' : ℕ) (lower : RuleParts) →
    filter keep (above ++ below) ≡ filter keep (above' ++ below') → filter keep (remove below y) ≡ filter keep (remove below' y') →
    slice_get below' y' ≡ Some (Rule lower) → IsBarrier above below y lower p q → IsBarrier above' below' y' lower p q

-- ---- Lower barriers: above a place of the sheet

-- Of a sheet in two parts: a rule of the upper part has a pair that comes last before another one, which
-- weighs with it and stands in the upper part without this rule, and not in the lower one.
pub record IsLowerBarrier (above below : List Item) (x : ℕ) (upper : RuleParts) (p q : Pair) : Type 0 where
  pub pair : HasPairAt above x upper p
  pub other : HasPair (remove above x) q
  pub not_below : HasPair below q → ⊥
  pub weigh : Weigh p q
  pub order : IsBefore (above ++ below) p q

-- A lower barrier hinders the rule from moving down into any rule of the lower part: what is made there has the
-- one pair and not the other.
abbrev pub LowerBarriersHinder : Type 0
LowerBarriersHinder = (above below : List Item) (x : ℕ) (upper : RuleParts) (p q : Pair) → IsLowerBarrier above below x upper p q →
    (y : ℕ) (lower made : RuleParts) → slice_get below y ≡ Some (Rule lower) → Contains (selectors_of made) p.selector → Contains (decls_of made) p.decl →
    (Contains (selectors_of made) q.selector → Contains (decls_of made) q.decl → ⊥) →
    let e = moving_down above x y upper made in ReversesPair (above ++ below) (edited e (above ++ below)) e.moved p q
