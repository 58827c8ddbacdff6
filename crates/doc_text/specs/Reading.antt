-- What is read of a text.
use Rattle.std.specs.Prelude.{◌≡◌, ◌⊎◌, ℕ, ◌-◌, ◌≤◌, ◌<◌, ◌^◌, Bool, List, ◌∷◌, ◌++◌, length, take, Option, Result, Ok, Err}
use Rattle.std.specs.List.{All}
use Rattle.css_model.specs.declared.example.Example.{Example}
use Rattle.css_model.specs.declared.selector.Pseudo.{Pseudo}
use Rattle.css_model.specs.Documents.RunDocuments.{KeepsRules}
use Rattle.css_model.specs.Text.Characters.{line_feed}
use Rattle.doc_text.specs.declared.read.DocError.{DocError}
use Rattle.doc_text.specs.declared.read.DocError.TheVariants.{BadLine, TooManyLines, NoMemory}
use Rattle.doc_text.specs.DocText.{doc_lines, doc_text, head_text}
use Rattle.doc_text.specs.Lines.{line_ends, lines_of}

-- an example that has a text: it keeps the rules, and 32 bits hold each depth and each count
pub record HasText (x : Example) : Type 0 where
  pub keeps : KeepsRules x
  pub fits : All (λ l. (l.depth < 2 ^ 32) × (l.count < 2 ^ 32)) x.doc.lines

-- the text is that of an example
pub record IsTextOf (text : List ℕ) (x : Example) : Type 0 where
  pub has : HasText x
  pub is : text ≡ doc_text x

-- the text of some example begins with these lines
abbrev pub Begins : List (List ℕ) → Type 0
Begins lines = (x : Example) × (rest : List (List ℕ)) × HasText x × (doc_lines x ≡ lines ++ rest)

-- Of a text that is that of no example, the line that is to blame, counted from 1: with those before it the text
-- of some example begins, with itself none does; or it is the last line, or the first of an empty text.
pub record IsBadLine (n : ℕ) (text : List ℕ) : Type 0 where
  pub some : 1 ≤ n
  pub there : (n ≡ 1) ⊎ (n ≤ length (lines_of text))
  pub before : Begins (take (n - 1) (lines_of text))
  pub bad : (Begins (take n (lines_of text)) → ⊥) ⊎ (length (lines_of text) ≤ n)
  pub none : (x : Example) → IsTextOf text x → ⊥

-- how many line ends a text has at most
abbrev pub max_line_ends : ℕ
max_line_ends = 4096

-- the number of line ends comes first
abbrev pub IsRead : Result Example DocError → List ℕ → Type 0
IsRead (Ok x) text = (line_ends text ≤ max_line_ends) × IsTextOf text x
IsRead (Err (BadLine n)) text = (line_ends text ≤ max_line_ends) × IsBadLine n text
IsRead (Err TooManyLines) text = max_line_ends < line_ends text
IsRead (Err NoMemory) text = Unit {0}

-- the same of the lines behind a first line
abbrev pub IsBody : Result Example DocError → Bool → Option Pseudo → List ℕ → Type 0
IsBody (Ok x) root_is_child pseudo body = IsTextOf (head_text root_is_child pseudo ++ line_feed ∷ body) x
IsBody (Err (BadLine n)) root_is_child pseudo body = IsBadLine n (head_text root_is_child pseudo ++ line_feed ∷ body)
IsBody (Err TooManyLines) root_is_child pseudo body = ⊥
IsBody (Err NoMemory) root_is_child pseudo body = Unit {0}

-- One text is that of one example, and it has one line end more than the example has lines.
abbrev pub TextsDiffer : Type 0
TextsDiffer = (text : List ℕ) (x y : Example) → IsTextOf text x → IsTextOf text y → x ≡ y

abbrev pub LinesEnd : Type 0
LinesEnd = (x : Example) → HasText x → line_ends (doc_text x) ≡ length (doc_lines x)
