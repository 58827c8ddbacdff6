use Rattle.std.proofs.Common.{arith}
use Rattle.css_model.proofs.Same.{sheet_decides}
use Rattle.css_model.proofs.sheet.SheetPartialEq.eq.Goals as goal

pub returns-clause-exact : goal.returns-clause-exact
returns-clause-exact c =
    grind (arith, sheet_decides c.args.self.now c.args.other.now, c.self.view_is, c.other.view_is)
