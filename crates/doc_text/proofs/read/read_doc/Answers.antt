use Rattle.std.proofs.Common.{ℕ, List, sym, subst, arith}
use Rattle.doc_text.specs.Reading.{IsBadLine}
use Rattle.doc_text.proofs.BadLines.{bad_head, bad_whole}
use Rattle.doc_text.proofs.read.read_doc.Goals as goal

pub returns-in-None : goal.returns-in-None
returns-in-None c = (omega (arith, c.line_ends.ensures, c.if-line_ends-gt-MAX_LINE_ENDS.false), bad_whole c.args.text.now c.in-None.ensures)

pub returns-in-None-read_head : goal.returns-in-None-read_head
returns-in-None-read_head c =
    let cut = c.in-Some.ensures in (
      omega (arith, c.line_ends.ensures, c.if-line_ends-gt-MAX_LINE_ENDS.false),
      subst (λ (text : List ℕ). IsBadLine 1 text) (sym cut.0) (bad_head c.in-Some.parts.0.now c.in-Some.parts.1.now cut.1 c.in-None-read_head.ensures),
    )
