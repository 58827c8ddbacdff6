-- What two rules have in common at most, and what their share saves then (own).
use Rattle.std.specs.Prelude.{◌≡◌, ◌⊎◌, ◌<◌, ◌≤◌, ◌+◌, ℕ, List, Some, length, slice_get}
use Rattle.std.specs.List.{filter}
use Rattle.css_model.specs.declared.sheet.Item.TheVariants.{Rule}
use Rattle.css_model.specs.Sheets.Printed.{printed_declaration, printed_selector}
use Rattle.css_model.specs.Sheets.RuleParts.{RuleParts}
use Rattle.indexed_sheet.specs.MarkList.{IsOrderKeyAt}
use Rattle.order_laws.specs.Members.{has_decl}
use Rattle.rule_tables.specs.Ahead.{AreAllAt, Reached}
use Rattle.rule_tables.specs.declared.ahead.Common.{Common}
use Rattle.step_laws.specs.Sizes.{weight}
use Rattle.step_queue.specs.RuleWeights.{ArePlain}
use Rattle.next_step.specs.Once.{StandOnce}
use Rattle.next_step.specs.declared.view.Focus.{Focus}
use Rattle.next_step.specs.declared.view.Partners.{Partners}
use Rattle.next_step.specs.declared.view.View.{View}

-- of the declarations of the first rule the second one has no more than so many, which weigh no more than this
abbrev pub AreInCommon : List ℕ → RuleParts → RuleParts → Common → Type 0
AreInCommon source ours theirs common = let among = filter (λ d. has_decl theirs.decls d.decl) ours.decls in
    (length among ≤ common.count) × (weight (printed_declaration source) among ≤ common.weight)

-- of the declarations of the rule in focus the rule with this order key has no more than these
abbrev pub AreInCommonAt : View → Focus → ℕ → Common → Type 0
AreInCommonAt v o order_key common = (n : ℕ) (r : RuleParts) → IsOrderKeyAt v.indexed.now.marks order_key n → slice_get v.indexed.now.items n ≡ Some (Rule r) →
    AreInCommon v.source.now o.rule.now r common

-- the lists that have this order key say at least which declarations of the rule in focus the rule with it has
abbrev pub TellCommon : View → Focus → List Reached → ℕ → Type 0
TellCommon v o lists order_key = (common : Common) → AreAllAt lists order_key common → AreInCommonAt v o order_key common

-- each declaration of a rule is in it once, and is printed as long as its parts tell
abbrev pub IsPlain : List ℕ → RuleParts → Type 0
IsPlain source r = StandOnce (λ x. x.decl) r.decls × ArePlain source r.decls

-- the selectors of a rule weigh at least this, if it has more declarations than so many; else it is 0
abbrev pub KeepsAtLeast : List ℕ → RuleParts → ℕ → ℕ → Type 0
KeepsAtLeast source r count n = ((count < length r.decls) × (n ≤ weight (printed_selector source) r.selectors)) ⊎ (n ≡ 0)

-- one of two rules has more declarations than they may have in common, and these weigh no more than what is saved and kept
abbrev pub SavesAtMost : List ℕ → RuleParts → RuleParts → Common → ℕ → Type 0
SavesAtMost source ours theirs common most = (x : ℕ) × (y : ℕ) × KeepsAtLeast source ours common.count x × KeepsAtLeast source theirs common.count y
    × (0 < x + y) × (common.weight ≤ most + (x + y))

-- two partners are the focus and the rule of another number
abbrev pub AreFocusAnd : Focus → ℕ → Partners → Type 0
AreFocusAnd o other p = ((p.upper ≡ other) × (p.lower ≡ o.number)) ⊎ ((p.upper ≡ o.number) × (p.lower ≡ other))
