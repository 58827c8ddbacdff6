-- The joins of a sheet: the rule that each makes, and in the place of which rule.
use Rattle.std.proofs.Common.{◌≡◌, ℕ, List, ◌++◌, sym, subst}
use Rattle.css_model.specs.declared.sheet.Item.{Item}
use Rattle.css_model.specs.Sheets.RuleParts.{RuleParts}
use Rattle.css_model.specs.Sheets.StyleRule.{joined}
use Rattle.pending_laws.proofs.Joined.{IsJoined, joined_down, joined_up}
use Rattle.pending_laws.specs.declared.way.Way.{Way}
use Rattle.pending_laws.specs.declared.way.Way.TheVariants.{Up, Down}
use Rattle.pending_laws.specs.Ways.{IsMove}
use Rattle.order_laws.specs.Edits.{Edit, whole_rule}
use Rattle.step_laws.specs.declared.step.Step.{Step}
use Rattle.step_laws.specs.declared.step.Step.TheVariants.{CutDecl, CutSel, JoinSelUp, JoinSelDown, JoinDeclUp, JoinDeclDown, Share}
use Rattle.step_laws.specs.RuleParting.{both_selectors}
use Rattle.step_laws.specs.Steps.{IsStep, first_item, last_item}

-- the two rules of a join, and the rule that it makes
pub record AJoin (items : List Item) (j : Step) (d : Edit) : Type 0 where
  pub upper : RuleParts
  pub lower : RuleParts
  pub made : RuleParts
  pub place : ℕ
  pub joined : IsJoined items d upper lower made (first_item j) (last_item j) place

a_join_of : (items : List Item) (j : Step) (d e : Edit) (u l made : RuleParts) (z : ℕ) → d ≡ e → IsJoined items e u l made (first_item j) (last_item j) z → AJoin items j d
a_join_of items j d e u l made z same is = record { upper = u; lower = l; made = made; place = z; joined = subst (λ (f : Edit). IsJoined items f u l made (first_item j) (last_item j) z) (sym same) is }

pub a_join : (items : List Item) (j : Step) (d : Edit) (way : Way) → IsStep items j d → IsMove way j → AJoin items j d
a_join items (JoinSelUp x y) d way j move =
    let made : RuleParts = joined j.upper j.lower in
    a_join_of items (JoinSelUp x y) d _ j.upper j.lower made x j.is (joined_up items j.upper j.lower made x y (whole_rule y j.lower) j.rules)
a_join items (JoinSelDown x y) d way j move =
    let made : RuleParts = record { selectors = j.lower.selectors; decls = j.upper.decls ++ j.lower.decls } in
    a_join_of items (JoinSelDown x y) d _ j.upper j.lower made y j.is (joined_down items j.upper j.lower made x y (whole_rule x j.upper) j.rules)
a_join items (JoinDeclUp x y) d way j move =
    let made : RuleParts = record { selectors = both_selectors j.upper j.lower; decls = j.upper.decls } in
    a_join_of items (JoinDeclUp x y) d _ j.upper j.lower made x j.is (joined_up items j.upper j.lower made x y (whole_rule y j.lower) j.rules)
a_join items (JoinDeclDown x y) d way j move =
    let made : RuleParts = record { selectors = both_selectors j.upper j.lower; decls = j.lower.decls } in
    a_join_of items (JoinDeclDown x y) d _ j.upper j.lower made y j.is (joined_down items j.upper j.lower made x y (whole_rule x j.upper) j.rules)
a_join items (CutDecl n i) d Up j move = absurd move
a_join items (CutDecl n i) d Down j move = absurd move
a_join items (CutSel n i) d Up j move = absurd move
a_join items (CutSel n i) d Down j move = absurd move
a_join items (Share x y) d Up j move = absurd move
a_join items (Share x y) d Down j move = absurd move
