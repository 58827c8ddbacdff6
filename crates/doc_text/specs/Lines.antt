-- Texts cut at a byte: lines at line feeds, fields at spaces.
use Rattle.std.specs.Prelude.{ℕ, ◌==◌, Bool, if◌then◌else◌, List, [], ◌∷◌}
use Rattle.std.specs.List.{count_by, list_any, onto_first}
use Rattle.css_model.specs.Text.Characters.{line_feed, space}

-- The pieces of a text, each up to the byte that it is cut at or to the end. Behind the last of these bytes
-- there is a piece only where something stands there.
abbrev pub pieces : ℕ → List ℕ → List (List ℕ)
pieces at [] = []
pieces at (c ∷ text) = if c == at then [] ∷ pieces at text else onto_first c (pieces at text)

abbrev pub lines_of : List ℕ → List (List ℕ)
lines_of text = pieces line_feed text

abbrev pub fields_of : List ℕ → List (List ℕ)
fields_of line = pieces space line

-- whether a byte stands in a text
abbrev pub holds : ℕ → List ℕ → Bool
holds at text = list_any (λ c. c == at) text

-- how many line ends
abbrev pub line_ends : List ℕ → ℕ
line_ends text = count_by (λ c. c == line_feed) text
