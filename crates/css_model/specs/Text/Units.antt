-- The units that tokens are made of, by how many bytes each takes at the front of a text, 0 where none
-- begins there.
use Rattle.std.specs.Prelude.{ℕ, zero, suc, ◌+◌, ◌==◌, ◌&&◌, ◌||◌, if◌then◌else◌, List, [], ◌∷◌, drop}
use Rattle.std.specs.Char.{is_ascii_digit, is_ascii_hexdigit}
use Rattle.css_model.specs.Text.Characters.{carriage_return, line_feed, dash, dot, slash, star, backslash, close_round, is_newline, is_white, is_start, is_name, is_bad_in_url, is_plus_or_minus, begins}
use Rattle.css_model.specs.Text.Runs.{run}

-- a white space, where CR LF is one newline (CSS Syntax 3, section 3.3)
abbrev pub white_unit : List ℕ → ℕ
white_unit [] = 0
white_unit (c ∷ cs) = if is_white c then (if c == carriage_return && begins line_feed cs then 2 else 1) else 0

-- up to n more hex digits, and then at most one white space
abbrev pub hex_rest : ℕ → List ℕ → ℕ
hex_rest n [] = 0
hex_rest zero (c ∷ cs) = white_unit (c ∷ cs)
hex_rest (suc n) (c ∷ cs) = if is_ascii_hexdigit c then suc (hex_rest n cs) else white_unit (c ∷ cs)

-- an escape whose backslash stands before this text (sections 4.3.7 and 4.3.8): none before a newline, and
-- at the end of the text one that lacks a byte
abbrev pub escape_after : List ℕ → ℕ
escape_after [] = 2
escape_after (c ∷ cs) = if is_newline c then 0 else if is_ascii_hexdigit c then 2 + hex_rest 5 cs else 2

-- an ident code point or an escape
abbrev pub name_unit : List ℕ → ℕ
name_unit [] = 0
name_unit (c ∷ cs) = if is_name c then 1 else if c == backslash then escape_after cs else 0

-- an ident-start code point or an escape
abbrev pub start_unit : List ℕ → ℕ
start_unit [] = 0
start_unit (c ∷ cs) = if is_start c then 1 else if c == backslash then escape_after cs else 0

-- one byte and what follows it, where something does
abbrev pub one_and : ℕ → ℕ
one_and zero = 0
one_and (suc n) = 2 + n

-- the start of an ident sequence (section 4.3.9): an ident start or an escape, or `-` and one of these or a
-- second `-`
abbrev pub name_start : List ℕ → ℕ
name_start [] = 0
name_start (c ∷ cs) = if c == dash then (if begins dash cs then 2 else one_and (start_unit cs)) else start_unit (c ∷ cs)

-- ident code points and escapes, as long as there are any (section 4.3.11)
abbrev pub name_len : List ℕ → ℕ
name_len text = run name_unit text

-- a backslash inside a string, which stands before this text: before a newline it goes with it
abbrev pub string_escape : List ℕ → ℕ
string_escape [] = 2
string_escape (c ∷ cs) = if is_newline c then 1 + white_unit (c ∷ cs) else escape_after (c ∷ cs)

-- what stands inside a string of this quote (section 4.3.5)
abbrev pub string_unit : ℕ → List ℕ → ℕ
string_unit q [] = 0
string_unit q (c ∷ cs) = if c == q || is_newline c then 0 else if c == backslash then string_escape cs else 1

-- what stands inside a comment (section 4.3.2)
abbrev pub comment_unit : List ℕ → ℕ
comment_unit [] = 0
comment_unit (c ∷ cs) = if c == star && begins slash cs then 0 else 1

-- what stands inside a url (section 4.3.6), without white space
abbrev pub url_unit : List ℕ → ℕ
url_unit [] = 0
url_unit (c ∷ cs) = if is_white c || c == close_round || is_bad_in_url c then 0 else if c == backslash then escape_after cs else 1

abbrev pub digit_unit : List ℕ → ℕ
digit_unit [] = 0
digit_unit (c ∷ cs) = if is_ascii_digit c then 1 else 0

-- `.` and digits
abbrev pub fraction : List ℕ → ℕ
fraction [] = 0
fraction (c ∷ cs) = if c == dot then one_and (run digit_unit cs) else 0

-- digits and a fraction, or either of them
abbrev pub decimal : List ℕ → ℕ
decimal text = run digit_unit text + fraction (drop (run digit_unit text) text)

-- the same with an optional sign
abbrev pub signed_decimal : List ℕ → ℕ
signed_decimal [] = 0
signed_decimal (c ∷ cs) = if is_plus_or_minus c then one_and (decimal cs) else decimal (c ∷ cs)

abbrev pub signed_digits : List ℕ → ℕ
signed_digits [] = 0
signed_digits (c ∷ cs) = if is_plus_or_minus c then one_and (run digit_unit cs) else run digit_unit (c ∷ cs)

-- `e` or `E`, and digits with an optional sign
abbrev pub exponent : List ℕ → ℕ
exponent [] = 0
exponent (c ∷ cs) = if c == 101 || c == 69 then one_and (signed_digits cs) else 0

-- a number (section 4.3.12)
abbrev pub number_len : List ℕ → ℕ
number_len text = signed_decimal text + exponent (drop (signed_decimal text) text)
