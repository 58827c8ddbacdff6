-- What a step moves.
use Rattle.std.specs.Prelude.{ℕ, Bool, ◌&&◌, ◌||◌, List, [], ◌∷◌, Option, Some, None, slice_get}
use Rattle.css_model.specs.declared.sheet.Item.{Item}
use Rattle.css_model.specs.declared.sheet.Item.TheVariants as items
use Rattle.css_model.specs.Cascade.Order.{Pair}
use Rattle.css_model.specs.Sheets.RuleParts.{RuleParts}
use Rattle.order_laws.specs.Edits as order
use Rattle.order_laws.specs.Members.{has_selector, has_decl}
use Rattle.step_laws.specs.RuleParting.{both_selectors, common_decls}
use Rattle.step_laws.specs.declared.step.Step.{Step}
use Rattle.step_laws.specs.declared.step.Step.TheVariants.{CutDecl, CutSel, JoinSelUp, JoinSelDown, JoinDeclUp, JoinDeclDown, Share}
use Rattle.sheet_order.specs.declared.places.Moved.{Moved}
use Rattle.sheet_order.specs.declared.places.Moved.TheVariants as moved

-- the pairs of a selector of either rule and a common declaration, moved out of both (own)
abbrev pub common_of : ℕ → ℕ → RuleParts → RuleParts → order.Moved
common_of x y upper lower = record { out_of = x ∷ y ∷ []; selectors = both_selectors upper lower; decls = common_decls upper lower }

-- nothing is moved (own)
abbrev pub nothing : order.Moved
nothing = record { out_of = []; selectors = []; decls = [] }

-- the rule that an item is, if there is one (own)
abbrev pub rule_in : Option Item → Option RuleParts
rule_in None = None
rule_in (Some (items.Rule r)) = Some r
rule_in (Some (items.KeptRule kept)) = None
rule_in (Some (items.KeptBlock piece)) = None

-- what is moved of a rule, if there is one (own)
abbrev pub moved_rule : ℕ → Option RuleParts → order.Moved
moved_rule n None = nothing
moved_rule n (Some r) = order.whole_rule n r

-- what is moved of two rules, if there are both (own)
abbrev pub moved_common : ℕ → ℕ → Option RuleParts → Option RuleParts → order.Moved
moved_common x y None lower = nothing
moved_common x y (Some u) None = nothing
moved_common x y (Some u) (Some l) = common_of x y u l

-- The pairs that are moved (own): those of a rule, or of two rules those of a selector of either one and a
-- declaration of both. Where no rule stands at a number, nothing is.
abbrev pub moved_in : List Item → Moved → order.Moved
moved_in list (moved.Rule n) = moved_rule n (rule_in (slice_get list n))
moved_in list (moved.Common x y) = moved_common x y (rule_in (slice_get list x)) (rule_in (slice_get list y))

-- whether a selector stands in one of two rules, and a declaration in both (own)
abbrev pub is_of_both : RuleParts → RuleParts → Pair → Bool
is_of_both u l p = (has_selector u.selectors p.selector || has_selector l.selectors p.selector) && (has_decl u.decls p.decl && has_decl l.decls p.decl)

-- What a step moves (own): a cut the pairs of its rule, a join those of the rule that goes, a share the
-- common declarations.
abbrev pub moved_of : Step → Moved
moved_of (CutDecl n i) = moved.Rule n
moved_of (CutSel n i) = moved.Rule n
moved_of (JoinSelUp x y) = moved.Rule y
moved_of (JoinSelDown x y) = moved.Rule x
moved_of (JoinDeclUp x y) = moved.Rule y
moved_of (JoinDeclDown x y) = moved.Rule x
moved_of (Share x y) = moved.Common x y
