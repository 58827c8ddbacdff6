-- The text of a log. A literal is written as in a DIMACS file: a variable by its number, counted from 1,
-- and its negation with `-` before it; a clause ends with `0`.
--
--     log  = "vars " V " clauses " C LF line*      the first C lines are the formula
--     line = ( lit " " )* "0" LF
--     lit  = "-"? number from 1 to V
use Rattle.std.specs.Prelude.{◌+◌, ℕ, if◌then◌else◌, List, [], ◌∷◌, ◌++◌, length, codes, decimal}
use Rattle.cnf.specs.declared.lit.Lit.{Lit}
use Rattle.cnf.specs.Cnf.{Cnf}
use Rattle.cnf.specs.Lits.{variable, is_negated}

-- the sign of a literal, and its number
abbrev pub lit_text : Lit → List ℕ
lit_text l = (if is_negated l then codes "-" else []) ++ decimal (variable l + 1)

-- the line of a clause
abbrev pub line_text : List Lit → List ℕ
line_text [] = codes "0\n"
line_text (l ∷ ls) = lit_text l ++ codes " " ++ line_text ls

-- the lines of clauses
abbrev pub lines_text : List (List Lit) → List ℕ
lines_text [] = []
lines_text (c ∷ cs) = line_text c ++ lines_text cs

-- the first line
abbrev pub head_text : ℕ → ℕ → List ℕ
head_text vars count = codes "vars " ++ decimal vars ++ codes " clauses " ++ decimal count ++ codes "\n"

-- the text of a formula and the steps after it
abbrev pub log_text : Cnf → List (List Lit) → List ℕ
log_text f steps = head_text f.vars (length f.clauses) ++ lines_text f.clauses ++ lines_text steps
