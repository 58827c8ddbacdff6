-- The classes of code points (CSS Syntax 3, section 4.2), on the bytes of their UTF-8: a byte from 128 on
-- belongs to a code point from U+0080 on, and each of these counts as an ident start here. The byte 0 is
-- read as U+FFFD (section 3.3), so it is one too.
use Rattle.std.specs.Prelude.{ℕ, ◌==◌, nat_le, Bool, false, ◌&&◌, ◌||◌, List, [], ◌∷◌}
use Rattle.std.specs.Char.{is_ascii_alphabetic, is_ascii_digit}

abbrev pub tab : ℕ
tab = 9

abbrev pub line_feed : ℕ
line_feed = 10

abbrev pub form_feed : ℕ
form_feed = 12

abbrev pub carriage_return : ℕ
carriage_return = 13

abbrev pub space : ℕ
space = 32

-- `"`
abbrev pub quote : ℕ
quote = 34

-- `#`
abbrev pub hash : ℕ
hash = 35

-- `%`
abbrev pub percent : ℕ
percent = 37

-- `'`
abbrev pub apostrophe : ℕ
apostrophe = 39

-- `(`
abbrev pub open_round : ℕ
open_round = 40

-- `)`
abbrev pub close_round : ℕ
close_round = 41

-- `*`
abbrev pub star : ℕ
star = 42

-- `+`
abbrev pub plus : ℕ
plus = 43

-- `-`
abbrev pub dash : ℕ
dash = 45

-- `.`
abbrev pub dot : ℕ
dot = 46

-- `/`
abbrev pub slash : ℕ
slash = 47

-- `<`
abbrev pub less_than : ℕ
less_than = 60

-- `>`
abbrev pub greater_than : ℕ
greater_than = 62

-- `!`
abbrev pub exclamation_mark : ℕ
exclamation_mark = 33

-- `,`
abbrev pub comma : ℕ
comma = 44

-- `:`
abbrev pub colon : ℕ
colon = 58

-- `;`
abbrev pub semicolon : ℕ
semicolon = 59

-- `[`
abbrev pub open_square : ℕ
open_square = 91

-- `]`
abbrev pub close_square : ℕ
close_square = 93

-- `{`
abbrev pub open_curly : ℕ
open_curly = 123

-- `}`
abbrev pub close_curly : ℕ
close_curly = 125

-- `@`
abbrev pub at_sign : ℕ
at_sign = 64

-- `\`
abbrev pub backslash : ℕ
backslash = 92

-- a code point that begins a newline
abbrev pub is_newline : ℕ → Bool
is_newline c = c == line_feed || c == carriage_return || c == form_feed

abbrev pub is_white : ℕ → Bool
is_white c = c == space || c == tab || is_newline c

-- an ident-start code point
abbrev pub is_start : ℕ → Bool
is_start c = is_ascii_alphabetic c || c == 95 || nat_le 128 c || c == 0

-- an ident code point
abbrev pub is_name : ℕ → Bool
is_name c = is_start c || is_ascii_digit c || c == dash

-- one of `:` `;` `,` `[` `]` `(` `)` `{` `}`, each of which is a token of its own
abbrev pub is_sign : ℕ → Bool
is_sign c = c == 58 || c == 59 || c == 44 || c == 91 || c == 93 || c == open_round || c == close_round || c == 123 || c == 125

-- U+0001 to U+0008, U+000B, U+000E to U+001F or U+007F: a non-printable code point
abbrev pub is_non_printable : ℕ → Bool
is_non_printable c = (nat_le 1 c && nat_le c 8) || c == 11 || (nat_le 14 c && nat_le c 31) || c == 127

-- a code point that no url holds (section 4.3.6)
abbrev pub is_bad_in_url : ℕ → Bool
is_bad_in_url c = c == quote || c == apostrophe || c == open_round || is_non_printable c

abbrev pub is_plus_or_minus : ℕ → Bool
is_plus_or_minus c = c == plus || c == dash

-- the text begins with this byte; with one that passes the test
abbrev pub begins : ℕ → List ℕ → Bool
begins b [] = false
begins b (c ∷ cs) = c == b

abbrev pub first_passes : (ℕ → Bool) → List ℕ → Bool
first_passes test [] = false
first_passes test (c ∷ cs) = test c
