-- How much each rule of an indexed sheet weighs at most (own).
use Rattle.std.specs.Prelude.{◌≡◌, ◌≤◌, ◌-◌, ◌+◌, ◌^◌, ℕ, Bool, true, false, List, Some, get_or, if◌then◌else◌, length, slice_get}
use Rattle.std.specs.List.{Contains}
use Rattle.css_model.specs.declared.sheet.Decl.{Decl}
use Rattle.css_model.specs.declared.sheet.DeclItem.{DeclItem}
use Rattle.css_model.specs.declared.sheet.Item.{Item}
use Rattle.css_model.specs.declared.sheet.Item.TheVariants.{Rule}
use Rattle.css_model.specs.Sheets.Printed.{printed_declaration, printed_selector}
use Rattle.css_model.specs.Sheets.RuleParts.{RuleParts}
use Rattle.step_queue.specs.declared.heaviest.Heaviest.{Heaviest}
use Rattle.step_queue.specs.declared.rule_weights.RuleWeight.{RuleWeight}
use Rattle.step_queue.specs.Heaviest.{AreNotHeavier}
use Rattle.step_queue.specs.Once.{DeclsStandOnce, StandOnce}
use Rattle.step_laws.specs.Sizes.{weight}

-- Under the item id of each rule what it weighs at most, and what all of them weigh at most; whether each rule has each
-- of its declarations once; and whether each declaration is plain.
pub record WeightParts : Type 0 where
  pub each : List RuleWeight
  pub heaviest : Heaviest
  pub once : Bool
  pub plain : Bool

-- more than any rule weighs; nothing is known of its declarations
abbrev pub unknown : RuleWeight
unknown = record { selectors = 2 ^ 32 - 1; decls = 2 ^ 32 - 1; least = 0; count = 0; once = false; plain = false }

-- what the rule of an item id weighs at most
abbrev pub weight_under : List RuleWeight → ℕ → RuleWeight
weight_under each item_id = get_or each item_id unknown

-- they say the same of each rule, and of all
pub record TellsTheSame (old new : WeightParts) : Type 0 where
  pub each : (b : ℕ) → weight_under new.each b ≡ weight_under old.each b
  pub heaviest : new.heaviest ≡ old.heaviest
  pub once : new.once ≡ old.once
  pub plain : new.plain ≡ old.plain

-- how long a declaration is printed, if its property is written as it is told
abbrev pub told_length : Decl → ℕ
told_length d = length d.name + 1 + length d.value + (if d.important then 10 else 0)

-- each of these declarations is printed as long as its parts tell
abbrev pub ArePlain : List ℕ → List DeclItem → Type 0
ArePlain source decls = (d : DeclItem) → Contains decls d → length (printed_declaration source d) ≡ told_length d.decl

-- A rule weighs no more than this, its selectors weigh no less than `least`, and it has no fewer declarations than `count`. It has
-- each of them once, if `once` says so, and each is plain, if `plain` says so.
pub record WeighsAtMost (source : List ℕ) (r : RuleParts) (w : RuleWeight) : Type 0 where
  pub selectors : weight (printed_selector source) r.selectors ≤ w.selectors
  pub decls : weight (printed_declaration source) r.decls ≤ w.decls
  pub least : w.least ≤ weight (printed_selector source) r.selectors
  pub count : w.count ≤ length r.decls
  pub once : w.once ≡ true → StandOnce (λ x. x.decl) r.decls
  pub plain : w.plain ≡ true → ArePlain source r.decls

-- No rule among items, which have these item ids, weighs more than the weights say of it, and none more than what is heaviest.
pub record AreWeighed (source : List ℕ) (items : List Item) (item_ids : List ℕ) (weights : WeightParts) : Type 0 where
  pub each : (n b : ℕ) (r : RuleParts) → slice_get items n ≡ Some (Rule r) → slice_get item_ids n ≡ Some b → WeighsAtMost source r (weight_under weights.each b)
  pub all : AreNotHeavier source items weights.heaviest
  pub once : weights.once ≡ true → (n : ℕ) → DeclsStandOnce items n
  pub plain : weights.plain ≡ true → (n : ℕ) (r : RuleParts) → slice_get items n ≡ Some (Rule r) → ArePlain source r.decls
