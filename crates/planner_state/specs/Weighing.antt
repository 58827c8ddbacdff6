-- What the rules of a plan weigh at most (own).
use Rattle.std.specs.Prelude.{◌≡◌, ◌+◌, ◌≤◌, ◌&&◌, ℕ, true, false, List, Some, max, min, slice_get}
use Rattle.std.specs.List.{AllByRecursion}
use Rattle.css_model.specs.declared.sheet.Item.{Item}
use Rattle.css_model.specs.declared.sheet.Item.TheVariants.{Rule}
use Rattle.css_model.specs.Sheets.Limits.{max_bytes}
use Rattle.css_model.specs.Sheets.Printed.{printed_declaration, printed_selector}
use Rattle.css_model.specs.Sheets.RuleParts.{RuleParts}
use Rattle.step_queue.specs.declared.heaviest.Heaviest.{Heaviest}
use Rattle.step_queue.specs.declared.rule_weights.RuleWeight.{RuleWeight}
use Rattle.step_queue.specs.Once.{StandOnce}
use Rattle.step_queue.specs.RuleWeights.{ArePlain, AreWeighed, WeighsAtMost, WeightParts, weight_under}
use Rattle.order_laws.specs.Edits.{Edit}
use Rattle.indexed_sheet.specs.IndexedParts.{IndexedParts}
use Rattle.indexed_sheet.specs.declared.marks.Mark.{Mark}
use Rattle.indexed_sheet.specs.MarkList.{item_ids_of}
use Rattle.step_laws.specs.declared.step.Step.{Step}
use Rattle.step_laws.specs.Sizes.{weight}
use Rattle.step_laws.specs.Steps.{IsStep}
use Rattle.step_savings.specs.Weighing.{IsWeighable}

-- each rule among items can be weighed
abbrev pub AreWeighable : List ℕ → List Item → Type 0
AreWeighable source items = (n : ℕ) (r : RuleParts) → slice_get items n ≡ Some (Rule r) → IsWeighable source r

-- a rule weighs no more than this
abbrev pub IsNotHeavier : List ℕ → Heaviest → RuleParts → Type 0
IsNotHeavier source h r = (weight (printed_selector source) r.selectors ≤ h.selectors) × (weight (printed_declaration source) r.decls ≤ h.decls)

-- ---- What is put down

-- The weight under the item id of a rule is a bound for the rule. The heaviest weights are bounds for it too.
-- If `once` is true, it has each declaration once. If `plain` is true, each of them is plain.
pub record IsWeighed (source : List ℕ) (weights : WeightParts) (item_id : ℕ) (r : RuleParts) : Type 0 where
  pub own : WeighsAtMost source r (weight_under weights.each item_id)
  pub all : IsNotHeavier source weights.heaviest r
  pub once : weights.once ≡ true → StandOnce (λ x. x.decl) r.decls
  pub plain : weights.plain ≡ true → ArePlain source r.decls

-- so it is with the item of a number, if it is a rule that was created at `next` or later
abbrev pub IsWeighedAt : List ℕ → ℕ → IndexedParts → WeightParts → ℕ → Type 0
IsWeighedAt source next indexed weights n = (m : Mark) (r : RuleParts) → slice_get indexed.marks n ≡ Some m → slice_get indexed.items n ≡ Some (Rule r) → next ≤ m.item_id → IsWeighed source weights m.item_id r

-- The weights under some item ids stay the same. The bounds for all rules do not get smaller. If `once` or `plain` is true, it was
-- true before.
pub record Stay (Kept : ℕ → Type 0) (old new : WeightParts) : Type 0 where
  pub kept : (b : ℕ) → Kept b → weight_under new.each b ≡ weight_under old.each b
  pub selectors : old.heaviest.selectors ≤ new.heaviest.selectors
  pub decls : old.heaviest.decls ≤ new.heaviest.decls
  pub once : new.once ≡ true → old.once ≡ true
  pub plain : new.plain ≡ true → old.plain ≡ true

-- ---- What is known before

-- the rule of a number weighs no more, where the rules of the indexed sheet are weighed
abbrev pub IsAtMost : IndexedParts → WeightParts → ℕ → RuleWeight → Type 0
IsAtMost indexed weights n w = (source : List ℕ) (r : RuleParts) → AreWeighed source indexed.items (item_ids_of indexed.marks) weights → slice_get indexed.items n ≡ Some (Rule r) → WeighsAtMost source r w

-- what a join of two rules makes weighs no more than this, where the sums are no more than a sheet may weigh
abbrev pub joined_by_selectors : (upper lower : RuleWeight) → RuleWeight
joined_by_selectors upper lower = record { selectors = max upper.selectors lower.selectors; decls = min (upper.decls + lower.decls) max_bytes; least = 0; count = 0; once = false; plain = upper.plain && lower.plain }

abbrev pub joined_by_decls : (upper lower : RuleWeight) → RuleWeight
joined_by_decls upper lower = record { selectors = min (upper.selectors + lower.selectors) max_bytes; decls = max upper.decls lower.decls; least = 0; count = 0; once = upper.once && lower.once; plain = upper.plain && lower.plain }

-- no rule that an edit puts in weighs more, if it can be weighed
abbrev pub BringsAtMost : List ℕ → RuleWeight → Edit → Type 0
BringsAtMost source w e = AllByRecursion (λ c. AllByRecursion (λ x. (r : RuleParts) → x ≡ Rule r → IsWeighable source r → WeighsAtMost source r w) c.by) e.changes

-- so it is with the edit of a step, where the rules of the indexed sheet are weighed
abbrev pub MakesAtMost : IndexedParts → WeightParts → Step → RuleWeight → Type 0
MakesAtMost indexed weights k w = (source : List ℕ) (e : Edit) → AreWeighed source indexed.items (item_ids_of indexed.marks) weights → IsStep indexed.items k e → BringsAtMost source w e

-- no rule that was created at `next` or later weighs more
abbrev pub AreAtMost : List ℕ → ℕ → IndexedParts → RuleWeight → Type 0
AreAtMost source next indexed w = (n : ℕ) (m : Mark) (r : RuleParts) → slice_get indexed.marks n ≡ Some m → slice_get indexed.items n ≡ Some (Rule r) → next ≤ m.item_id → WeighsAtMost source r w
