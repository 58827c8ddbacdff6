-- What a run reports of a sheet.
use Rattle.std.specs.Prelude.{ℕ, ◌+◌, List, [], ◌∷◌, ◌++◌, codes, decimal, Option, Some, None}
use Rattle.step_laws.specs.declared.cause.BlockCause.{BlockCause}
use Rattle.step_laws.specs.declared.cause.BlockCause.TheVariants.{Kept, Meet, Outside, Spent}
use Rattle.step_laws.specs.declared.step.Step.{Step}
use Rattle.step_laws.specs.declared.step.Step.TheVariants.{CutDecl, CutSel, JoinSelUp, JoinSelDown, JoinDeclUp, JoinDeclDown, Share}

-- ---- A blocked step. Items and their parts are counted from 0, and shown from 1.

-- the name of a kind of steps
abbrev pub kind_name : Step → List ℕ
kind_name (CutDecl n i) = codes "CutDecl"
kind_name (CutSel n i) = codes "CutSel"
kind_name (JoinSelUp x y) = codes "JoinSelUp"
kind_name (JoinSelDown x y) = codes "JoinSelDown"
kind_name (JoinDeclUp x y) = codes "JoinDeclUp"
kind_name (JoinDeclDown x y) = codes "JoinDeclDown"
kind_name (Share x y) = codes "Share"

-- the number of an item; of an item in the body of another one with that one's number before it
abbrev pub item_text : Option ℕ → ℕ → List ℕ
item_text None n = decimal (n + 1)
item_text (Some outer) n = decimal (outer + 1) ++ codes "." ++ decimal (n + 1)

-- the numbers of an item and of a declaration or selector of it, or of two items
abbrev pub parts_text : Option ℕ → ℕ → ℕ → List ℕ
parts_text block n i = item_text block n ++ codes " " ++ decimal (i + 1)

abbrev pub items_text : Option ℕ → ℕ → ℕ → List ℕ
items_text block x y = item_text block x ++ codes " " ++ item_text block y

-- what a step takes
abbrev pub taken_text : Option ℕ → Step → List ℕ
taken_text block (CutDecl n i) = parts_text block n i
taken_text block (CutSel n i) = parts_text block n i
taken_text block (JoinSelUp x y) = items_text block x y
taken_text block (JoinSelDown x y) = items_text block x y
taken_text block (JoinDeclUp x y) = items_text block x y
taken_text block (JoinDeclDown x y) = items_text block x y
taken_text block (Share x y) = items_text block x y

-- a cause: its word, the number of a reason, and the item's
abbrev pub cause_text : Option ℕ → BlockCause → List ℕ
cause_text block (Kept n) = codes "kept" ++ codes " " ++ item_text block n
cause_text block (Meet n) = codes "meet" ++ codes " " ++ item_text block n
cause_text block (Outside n reason) = codes "outside " ++ decimal reason ++ codes " " ++ item_text block n
cause_text block (Spent n) = codes "spent" ++ codes " " ++ item_text block n

-- a blocked step of the sheet, or of the body of one of its items, with its cause
abbrev pub blocked_line : Option ℕ × Step × BlockCause → List ℕ
blocked_line (block, step, cause) = codes "blocked " ++ kind_name step ++ codes " " ++ taken_text block step ++ codes " " ++ cause_text block cause ++ codes "\n"

abbrev pub blocked_lines : List (Option ℕ × Step × BlockCause) → List ℕ
blocked_lines [] = []
blocked_lines (b ∷ blocked) = blocked_line b ++ blocked_lines blocked

-- ---- The whole report

-- a line with a name and two numbers
abbrev pub two_numbers : List ℕ → ℕ → ℕ → List ℕ
two_numbers name m n = name ++ codes " " ++ decimal m ++ codes " " ++ decimal n ++ codes "\n"

-- The items and the bytes that were read and that were written, how many steps were taken, and which are
-- blocked.
abbrev pub report_of : ℕ × ℕ → ℕ × ℕ → ℕ → List (Option ℕ × Step × BlockCause) → List ℕ
report_of items bytes taken blocked =
    two_numbers (codes "items") items.0 items.1
    ++ two_numbers (codes "bytes") bytes.0 bytes.1
    ++ codes "steps " ++ decimal taken ++ codes "\n"
    ++ blocked_lines blocked
