-- Equality decides whether two lines, or two documents in lines, are the same.
use Rattle.std.proofs.Common.{◌≡◌, List, Decides, rules, arith}
use Rattle.std.specs.Cmp.{unsigned_Decides, booleans_Decides}
use Rattle.std.specs.Cmp.Lexicographic.{pointwise, pointwise_decides}
use Rattle.css_model.specs.declared.example.RunLine.{RunLine}
use Rattle.css_model.specs.Documents.RunDocumentParts.{RunDocumentParts}
use Rattle.css_model.specs.contracts.example.RunLinePartialEq.TheImpl as line
use Rattle.css_model.specs.contracts.example.RunDocumentPartialEq.TheImpl as document
use Rattle.css_model.proofs.SameFeatures.{features_decides}

line_decides : (a b : RunLine) → Decides ((line.ghosts).eq a b) (a ≡ b)
line_decides a b =
    grind (arith, unsigned_Decides a.depth b.depth, unsigned_Decides a.count b.count, features_decides a.element b.element)

lines_decides : (a b : List RunLine) → Decides (pointwise (line.ghosts).eq a b) (a ≡ b)
lines_decides = pointwise_decides line_decides

pub document_decides : (a b : RunDocumentParts) → Decides ((document.ghosts).eq a b) (a ≡ b)
document_decides a b = grind (arith, booleans_Decides a.root_is_child b.root_is_child, lines_decides a.lines b.lines)
