-- Steps whose priorities come too late (own).
use Rattle.std.specs.Prelude.{◌≡◌, ◌⊎◌, ◌+◌, ◌≤◌, ℕ, List, Some, max, slice_get}
use Rattle.std.specs.List.{filter}
use Rattle.css_model.specs.declared.sheet.Item.{Item}
use Rattle.css_model.specs.declared.sheet.Item.TheVariants.{Rule}
use Rattle.css_model.specs.Sheets.Printed.{printed_declaration, printed_selector}
use Rattle.css_model.specs.Sheets.RuleParts.{RuleParts}
use Rattle.pending_laws.specs.Priorities.{named}
use Rattle.step_kinds.specs.declared.kind.Kind.{Kind}
use Rattle.step_kinds.specs.declared.kind.Kind.TheVariants.{DeclJoinUp, Sharing}
use Rattle.step_queue.specs.declared.rule_weights.RuleWeight.{RuleWeight}
use Rattle.step_queue.specs.RuleWeights.{WeighsAtMost}
use Rattle.order_laws.specs.Edits.{Edit}
use Rattle.order_laws.specs.Members.{has_selector}
use Rattle.indexed_sheet.specs.IndexedParts.{IndexedParts}
use Rattle.indexed_sheet.specs.MarkList.{order_keys_of}
use Rattle.step_laws.specs.declared.step.Step.{Step}
use Rattle.step_laws.specs.declared.step.Step.TheVariants.{JoinDeclUp}
use Rattle.step_laws.specs.Sizes.{Saves, weight}
use Rattle.step_laws.specs.Steps.{HasStep, IsStep, StandsBefore, first_item, last_item}
use Rattle.next_step.specs.Kinds.{IsByDecls}
use Rattle.next_step.specs.Looking.{FoundParts, ReachesLast}
use Rattle.next_step.specs.Once.{DeclsStandOnce}

-- a step of an indexed sheet does not come before the first of the others that were found
abbrev pub IsLate : List ℕ → IndexedParts → FoundParts → Step → Type 0
IsLate source indexed found k = (e : Edit) (n : ℕ) → IsStep indexed.items k e → Saves source indexed.items e n → ReachesLast found.others (named (order_keys_of indexed.marks) n k)

-- a step is this one, or comes after it
abbrev pub IsFrom : Step → Step → Type 0
IsFrom j k = (j ≡ k) ⊎ StandsBefore j k

-- so much is left of a number without the weight of the selectors of the rule of this number
abbrev pub LeavesOfSelectors : List ℕ → List Item → (n most left : ℕ) → Type 0
LeavesOfSelectors source items n most left = (r : RuleParts) → slice_get items n ≡ Some (Rule r) → left + weight (printed_selector source) r.selectors ≡ most

-- the selectors of the rule of this number weigh no more than this
abbrev pub SelectorsWeighAtMost : List ℕ → List Item → (n most : ℕ) → Type 0
SelectorsWeighAtMost source items n most = (r : RuleParts) → slice_get items n ≡ Some (Rule r) → weight (printed_selector source) r.selectors ≤ most

-- the declarations of the rule of this number weigh no more than this
abbrev pub DeclsWeighAtMost : List ℕ → List Item → (n most : ℕ) → Type 0
DeclsWeighAtMost source items n most = (r : RuleParts) → slice_get items n ≡ Some (Rule r) → weight (printed_declaration source) r.decls ≤ most

-- the selectors of the lower rule that the upper one has weigh, with so much beside them, no more than this
abbrev pub CommonWeighsAtMost : List ℕ → List Item → (upper lower left most : ℕ) → Type 0
CommonWeighsAtMost source items upper lower left most = (u l : RuleParts) → slice_get items upper ≡ Some (Rule u) → slice_get items lower ≡ Some (Rule l) →
    left + weight (printed_selector source) (filter (λ s. has_selector u.selectors s.selector) l.selectors) ≤ most

-- The joins by declarations and the share of these two rules save no more than this, if each declaration of the lower one
-- is in it once.
abbrev pub ByDeclsSaveAtMost : List ℕ → List Item → (upper lower most : ℕ) → Type 0
ByDeclsSaveAtMost source items upper lower most = DeclsStandOnce items lower → (k : Step) (e : Edit) (n : ℕ) → IsByDecls k → first_item k ≡ upper → last_item k ≡ lower →
    IsStep items k e → Saves source items e n → n ≤ most

-- the rule of this number weighs no more than this
abbrev pub IsWeighedAt : List ℕ → List Item → ℕ → RuleWeight → Type 0
IsWeighedAt source items n w = (r : RuleParts) → slice_get items n ≡ Some (Rule r) → WeighsAtMost source r w

-- The first kind of the steps by declarations that two rules may have, and what of their declarations goes by one of these weighs
-- at most, by what the rules weigh: by a share those of the upper one, by a join those of one of both.
abbrev pub FirstByDecls : List Item → (upper lower : ℕ) → (above below : RuleWeight) → Kind → ℕ → Type 0
FirstByDecls items upper lower above below kind decls = ((kind ≡ Sharing) × (decls ≡ above.decls) × (HasStep items (JoinDeclUp upper lower) → ⊥)) ⊎ ((kind ≡ DeclJoinUp) × (decls ≡ max above.decls below.decls))
