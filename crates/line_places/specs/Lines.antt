-- Places in a text by line and column, as editors show them (own: CSS Syntax 3, section 3.3, has form feed as a newline
-- too, which editors do not count).
use Rattle.std.specs.Prelude.{ℕ, zero, suc, nat_eq, nat_lt, ◌==◌, ◌&&◌, ◌||◌, not, Bool, if◌then◌else◌, List, [], ◌∷◌, ◌++◌, length, slice_range, count_by, codes, decimal}
use Rattle.std.specs.List.{starts_with}
use Rattle.css_model.specs.Text.Characters.{line_feed, carriage_return, begins}
use Rattle.css_model.specs.Text.Tokens.{byte_order_mark}
use Rattle.line_places.specs.declared.place.Place.{Place}

-- whether a line ends after a byte that comes before the others: after a line feed, and after a carriage return before
-- anything but a line feed (own)
abbrev pub ends_line : (byte : ℕ) (others : List ℕ) → Bool
ends_line byte others = byte == line_feed || (byte == carriage_return && not (begins line_feed others))

-- where lines begin, up to n bytes into a text whose first byte has this place: after each end of a line (own)
abbrev pub starts_within : (n at : ℕ) (text : List ℕ) → List ℕ
starts_within zero at text = []
starts_within (suc n) at [] = []
starts_within (suc n) at (byte ∷ others) =
    if ends_line byte others then suc at ∷ starts_within n (suc at) others else starts_within n (suc at) others

-- where the first line of a text begins: after a byte order mark, which is no part of it (CSS Syntax 3, section 3.2)
abbrev pub first_start : List ℕ → ℕ
first_start text = if starts_with nat_eq text byte_order_mark then 3 else 0

-- the last of these places, or this one if there is none
abbrev pub last_of : ℕ → List ℕ → ℕ
last_of first [] = first
last_of first (start ∷ starts) = last_of start starts

-- whether a byte is the first one of a code point: all but 80 to BF are (RFC 3629, section 3)
abbrev pub begins_code_point : ℕ → Bool
begins_code_point byte = nat_lt byte 0x80 || nat_lt 0xBF byte

-- how many code points begin in a text; of bytes that are no UTF-8 too (own)
abbrev pub code_points : List ℕ → ℕ
code_points text = count_by begins_code_point text

-- The line and the column of the place n in a text, both from 1: the lines that begin up to there, and the code points
-- of its line before it (own).
abbrev pub place_of : (text : List ℕ) (n : ℕ) → Place
place_of text n =
    let starts = starts_within n 0 text in
    record { line = suc (length starts); column = suc (code_points (slice_range text (last_of (first_start text) starts) n)) }

-- how a place is printed: `LINE:COLUMN`
abbrev pub place_text : Place → List ℕ
place_text place = decimal place.line ++ codes ":" ++ decimal place.column
