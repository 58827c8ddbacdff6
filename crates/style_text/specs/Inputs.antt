-- An input of two parts (own): the text of a document, an empty line, and a style sheet.
use Rattle.std.specs.Prelude.{ℕ, ◌==◌, ◌&&◌, Bool, true, if◌then◌else◌, List, [], ◌∷◌}
use Rattle.css_model.specs.Text.Characters.{line_feed}

-- What stands before the first empty line, which is a line feed where a line begins; by whether a line begins
-- here. It is all where there is no empty line.
abbrev pub before_empty_line : Bool → List ℕ → List ℕ
before_empty_line begins [] = []
before_empty_line begins (c ∷ text) = if begins && c == line_feed then [] else c ∷ before_empty_line (c == line_feed) text

-- what stands behind it, and nothing where there is no empty line
abbrev pub behind_empty_line : Bool → List ℕ → List ℕ
behind_empty_line begins [] = []
behind_empty_line begins (c ∷ text) = if begins && c == line_feed then text else behind_empty_line (c == line_feed) text

-- the text of the document, with its last line end
unfoldable pub document_part : List ℕ → List ℕ
document_part input = before_empty_line true input

-- the sheet
unfoldable pub sheet_part : List ℕ → List ℕ
sheet_part input = behind_empty_line true input
