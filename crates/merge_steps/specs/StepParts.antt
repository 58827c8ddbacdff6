-- What steps take of their rules, by kind.
use Rattle.std.specs.Prelude.{◌<◌, ◌⊎◌, List, length}
use Rattle.css_model.specs.declared.sheet.Item.{Item}
use Rattle.css_model.specs.Sheets.Limits.{max_items}
use Rattle.css_model.specs.Sheets.RuleParts.{RuleParts}
use Rattle.css_model.specs.Sheets.StyleRule.{HaveSameSelectors}
use Rattle.step_laws.specs.declared.step.Step.{Step}
use Rattle.step_laws.specs.declared.step.Step.TheVariants.{CutDecl, CutSel, JoinSelUp, JoinSelDown, JoinDeclUp, JoinDeclDown, Share}
use Rattle.step_laws.specs.Steps.{AreDeclsAmong, HaveSameDecls, MayShare}

-- a cut, of one rule
abbrev pub IsCutKind : Step → Type 0
IsCutKind (CutDecl n i) = Unit {0}
IsCutKind (CutSel n i) = Unit {0}
IsCutKind _ = ⊥

-- a join or a share, of two rules
abbrev pub IsJoinKind : Step → Type 0
IsJoinKind (CutDecl n i) = ⊥
IsJoinKind (CutSel n i) = ⊥
IsJoinKind _ = Unit {0}

-- one of two rules has no declarations but those of the other, or there is room for one more item
abbrev pub HasRoom : List Item → RuleParts → RuleParts → Type 0
HasRoom items upper lower = AreDeclsAmong upper lower ⊎ AreDeclsAmong lower upper ⊎ (length items < max_items)

-- two rules may be joined by a step of this kind
abbrev pub MayJoin : List Item → Step → RuleParts → RuleParts → Type 0
MayJoin items (CutDecl n i) upper lower = ⊥
MayJoin items (CutSel n i) upper lower = ⊥
MayJoin items (JoinSelUp x y) upper lower = HaveSameSelectors upper lower
MayJoin items (JoinSelDown x y) upper lower = HaveSameSelectors upper lower
MayJoin items (JoinDeclUp x y) upper lower = HaveSameDecls upper lower
MayJoin items (JoinDeclDown x y) upper lower = HaveSameDecls upper lower
MayJoin items (Share x y) upper lower = MayShare items upper lower
