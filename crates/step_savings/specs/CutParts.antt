-- The parts that cuts take away.
use Rattle.std.specs.Prelude.{◌<◌, length}
use Rattle.css_model.specs.Sheets.RuleParts.{RuleParts}
use Rattle.step_laws.specs.declared.step.Step.{Step}
use Rattle.step_laws.specs.declared.step.Step.TheVariants.{CutDecl, CutSel}

-- a rule has the part that a cut takes away
abbrev pub HasPart : Step → RuleParts → Type 0
HasPart (CutDecl n i) r = i < length r.decls
HasPart (CutSel n i) r = i < length r.selectors
HasPart _ r = Unit {0}
