-- What holds of places by line and column, and of texts as they are shown.
use Rattle.std.specs.Prelude.{ℕ, suc, ◌+◌, ◌≡◌, ◌<◌, ◌≤◌, ◌⊎◌, false, if◌then◌else◌, List, [], ◌∷◌, ◌++◌, length, take, drop, encode_utf8_all}
use Rattle.std.specs.List.{AllByRecursion, concat, onto_first}
use Rattle.line_places.specs.declared.place.Place.{Place}
use Rattle.line_places.specs.Lines.{code_points, ends_line, first_start, place_of}
use Rattle.line_places.specs.Shown.{is_control, shown}

-- the lines of a text, each with its end; after the last end comes one more line, which may be empty
abbrev pub lines_of : List ℕ → List (List ℕ)
lines_of [] = [] ∷ []
lines_of (byte ∷ others) = if ends_line byte others then (byte ∷ []) ∷ lines_of others else onto_first byte (lines_of others)

-- The lines part the text: one after the other they are the text.
abbrev pub LinesPartTheText : Type 0
LinesPartTheText = (text : List ℕ) → concat (lines_of text) ≡ text

-- a place in a line, or its end if no line comes after it
abbrev pub IsPlaceIn : (n : ℕ) (line : List ℕ) (back : List (List ℕ)) → Type 0
IsPlaceIn n line back = (n < length line) ⊎ ((n ≡ length line) × (back ≡ []))

-- what a byte order mark takes of the first line
abbrev pub unseen : (text : List ℕ) (front : List (List ℕ)) → ℕ
unseen text [] = first_start text
unseen text (line ∷ front) = 0

-- Each place has the number of its line, and the column after the code points of its line before it; a byte order mark is none.
abbrev pub PlacesAreInTheirLines : Type 0
PlacesAreInTheirLines = (text line : List ℕ) (front back : List (List ℕ)) (n : ℕ) → lines_of text ≡ front ++ line ∷ back → IsPlaceIn n line back
    → place_of text (length (concat front) + n) ≡ record { line = suc (length front); column = suc (code_points (drop (unseen text front) (take n line))) }

-- A column counts code points: each code point of a text in UTF-8 once (RFC 3629, section 3).
abbrev pub ColumnsCountCodePoints : Type 0
ColumnsCountCodePoints = (chars : List ℕ) → code_points (encode_utf8_all chars) ≡ length chars

-- What is shown has no control code, and a byte for each byte of the text.
abbrev pub ShownHasNoControls : Type 0
ShownHasNoControls = (text : List ℕ) → AllByRecursion (λ byte. is_control byte ≡ false) (shown text) × (length (shown text) ≡ length text)
