use Rattle.std.proofs.Common.{arith}
use Rattle.css_model.proofs.SameExamples.{document_decides}
use Rattle.css_model.proofs.example.RunDocumentPartialEq.eq.Goals as goal

pub returns-then-self-other-clause-exact : goal.returns-then-self-other-clause-exact
returns-then-self-other-clause-exact c =
    grind (arith, document_decides c.args.self.now c.args.other.now, c.self.view_is, c.other.view_is)
