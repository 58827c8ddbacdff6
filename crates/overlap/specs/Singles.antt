-- Two selectors of one compound each (own).
use Rattle.std.specs.Prelude.{◌≤◌, List, ◌++◌, length, Option}
use Rattle.css_model.specs.Cascade.Order.{Meet as TheyMeet}
use Rattle.css_model.specs.declared.selector.Pseudo.{Pseudo}
use Rattle.css_model.specs.declared.selector.Simple.{Simple}
use Rattle.shape_laws.specs.Document.Laws.{ShowsMeeting}
use Rattle.single_examples.specs.Examples.{IsSingleExample}
use Rattle.single_examples.specs.Laws.{single}
use Rattle.overlap.specs.declared.answer.Answer.{Answer}
use Rattle.overlap.specs.declared.answer.Answer.TheVariants.{Apart, Meet, Outside, Spent}

-- They do not meet, or the first of the three documents shows that they do.
abbrev pub IsSingleAnswer : List Simple → List Simple → Option Pseudo → Answer → Type 0
IsSingleAnswer x y pseudo Apart = TheyMeet (single x pseudo) (single y pseudo) → ⊥
IsSingleAnswer x y pseudo (Meet e) =
    (ShowsMeeting (single x pseudo) (single y pseudo) e × (length e.doc.lines ≤ 4)) × IsSingleExample e (x ++ y) pseudo
IsSingleAnswer x y pseudo (Outside reason number) = ⊥
IsSingleAnswer x y pseudo (Spent ledger) = ⊥
