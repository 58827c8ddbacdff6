-- What is told of a move.
use Rattle.std.specs.Prelude.{ℕ, ◌+◌, List, [], ◌++◌, codes, decimal}
use Rattle.report_text.specs.declared.explaining.Explanation.{Explanation}
use Rattle.report_text.specs.declared.explaining.Word.{Word}
use Rattle.report_text.specs.declared.explaining.Word.TheVariants.{Free, Kept, Blocked, Outside, Spent}

-- The lines of a word. Items are counted from 0, and shown from 1. Behind `blocked` stand the texts of the
-- moved pair and of the other one, each in a line of its own, and then a document as it is.
abbrev pub lines_of : Word → (moved other document : List ℕ) → List ℕ
lines_of Free moved other document = codes "free\n"
lines_of (Kept n) moved other document = codes "kept " ++ decimal (n + 1) ++ codes "\n"
lines_of Blocked moved other document = codes "blocked\n" ++ moved ++ codes "\n" ++ other ++ codes "\n" ++ document
lines_of (Outside reason) moved other document = codes "outside " ++ decimal reason ++ codes "\n"
lines_of Spent moved other document = codes "spent\n"

abbrev pub explanation_text : Explanation → List ℕ
explanation_text x = lines_of x.word x.moved.items x.other.items x.document.items
