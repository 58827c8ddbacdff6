-- Rules whose parts can be weighed.
use Rattle.std.specs.Prelude.{ℕ, ◌+◌, ◌≤◌, List}
use Rattle.std.specs.List.{AllByRecursion}
use Rattle.css_model.specs.declared.sheet.Item.{Item}
use Rattle.css_model.specs.Sheets.Limits.{max_bytes}
use Rattle.css_model.specs.Sheets.Printed.{printed_selector, printed_declaration}
use Rattle.css_model.specs.Sheets.RuleParts.{RuleParts}
use Rattle.css_model.specs.Sheets.Sound.{IsSoundSelector, IsSoundDeclaration}
use Rattle.step_savings.specs.declared.savings.Parts.{Parts}
use Rattle.step_laws.specs.RuleParting.{rule_or_none, without_decls}
use Rattle.step_laws.specs.Sizes.{weight, rule_weight, rules_weight, brought_weight}
use Rattle.step_laws.specs.declared.step.Step.{Step}
use Rattle.step_laws.specs.declared.step.Step.TheVariants.{CutDecl, CutSel, JoinSelUp, JoinSelDown, JoinDeclUp, JoinDeclDown, Share}
use Rattle.step_laws.specs.Steps.{edit_of}

-- the rule of these parts
abbrev pub rule_of : Parts → RuleParts
rule_of parts = record { selectors = parts.selectors.now; decls = parts.decls.now }

-- its parts are sound for a source, and no heavier than a sheet may be
pub record IsWeighable (source : List ℕ) (r : RuleParts) : Type 0 where
  pub selectors : AllByRecursion (IsSoundSelector source) r.selectors
  pub decls : AllByRecursion (IsSoundDeclaration source) r.decls
  pub small_selectors : weight (printed_selector source) r.selectors ≤ max_bytes
  pub small_decls : weight (printed_declaration source) r.decls ≤ max_bytes

-- what is left of a rule without what it has in common with another one
abbrev pub rest_of : RuleParts → RuleParts → List Item
rest_of r other = rule_or_none (without_decls other.decls r)

abbrev pub rest_weight : List ℕ → RuleParts → RuleParts → ℕ
rest_weight source r other = rules_weight source (rest_of r other)

-- the weight of two rules
abbrev pub both_weight : List ℕ → RuleParts → RuleParts → ℕ
both_weight source upper lower = rule_weight source upper + rule_weight source lower

-- The weight of what need not be counted, since it stands before a step and after it: of a share what each of its rules
-- has alone, of other steps all that they put in.
abbrev pub stays_weight : List ℕ → Step → RuleParts → RuleParts → ℕ
stays_weight source (Share x y) upper lower = rest_weight source upper lower + rest_weight source lower upper
stays_weight source (CutDecl n i) upper lower = brought_weight source (edit_of (CutDecl n i) upper lower).changes
stays_weight source (CutSel n i) upper lower = brought_weight source (edit_of (CutSel n i) upper lower).changes
stays_weight source (JoinSelUp x y) upper lower = brought_weight source (edit_of (JoinSelUp x y) upper lower).changes
stays_weight source (JoinSelDown x y) upper lower = brought_weight source (edit_of (JoinSelDown x y) upper lower).changes
stays_weight source (JoinDeclUp x y) upper lower = brought_weight source (edit_of (JoinDeclUp x y) upper lower).changes
stays_weight source (JoinDeclDown x y) upper lower = brought_weight source (edit_of (JoinDeclDown x y) upper lower).changes
