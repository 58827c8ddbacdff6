-- What names and strings say once their escapes are read (CSS Syntax 3, section 4.3.7).
use Rattle.std.specs.Prelude.{ℕ, zero, suc, ◌+◌, ◌*◌, ◌==◌, nat_le, nat_lt, ◌&&◌, ◌||◌, Bool, if◌then◌else◌, List, [], ◌∷◌, ◌++◌, codes, encode_utf8, map}
use Rattle.std.specs.Char.{is_ascii_hexdigit, digit_value, to_ascii_lowercase}
use Rattle.std.specs.Str.{chars, str_eq_ignore_ascii_case}
use Rattle.std.specs.Str.Lossy.{utf8_lossy}
use Rattle.css_model.specs.Text.Characters.{backslash, is_newline}
use Rattle.css_model.specs.Text.Units.{white_unit, escape_after}
use Rattle.css_model.specs.Lists.{less_one}

-- U+FFFD, which stands for what is no code point
abbrev pub replacement : ℕ
replacement = 0xFFFD

-- the number that up to n more hex digits write, after those that write this one
abbrev pub hex_value : ℕ → ℕ → List ℕ → ℕ
hex_value n value [] = value
hex_value zero value (c ∷ cs) = value
hex_value (suc n) value (c ∷ cs) = if is_ascii_hexdigit c then hex_value n (value * 16 + digit_value c) cs else value

-- 0, a surrogate, or above U+10FFFF
abbrev pub is_no_code_point : ℕ → Bool
is_no_code_point value = value == 0 || (nat_le 0xD800 value && nat_le value 0xDFFF) || nat_lt 0x10FFFF value

abbrev pub escaped_code : ℕ → ℕ
escaped_code value = if is_no_code_point value then replacement else value

-- a byte, where 0 is read as U+FFFD
abbrev pub byte_text : ℕ → List ℕ
byte_text c = if c == 0 then encode_utf8 replacement else c ∷ []

-- how many bytes a backslash takes that stands before this text, and what it says. Before a newline it
-- goes with it and says nothing; of a longer code point it takes the first byte.
abbrev pub after_backslash_len : List ℕ → ℕ
after_backslash_len [] = 1
after_backslash_len (c ∷ cs) = if is_newline c then 1 + white_unit (c ∷ cs) else escape_after (c ∷ cs)

abbrev pub after_backslash_text : List ℕ → List ℕ
after_backslash_text [] = encode_utf8 replacement
after_backslash_text (c ∷ cs) =
    if is_newline c then [] else if is_ascii_hexdigit c then encode_utf8 (escaped_code (hex_value 6 0 (c ∷ cs))) else byte_text c

-- the same of the first byte or escape of a text
abbrev pub first_len : ℕ → List ℕ → ℕ
first_len c cs = if c == backslash then after_backslash_len cs else 1

abbrev pub first_text : ℕ → List ℕ → List ℕ
first_text c cs = if c == backslash then after_backslash_text cs else byte_text c

-- `unescaped`, where the next `left` bytes belong to an escape that was read
abbrev pub unescaped_from : ℕ → List ℕ → List ℕ
unescaped_from left [] = []
unescaped_from (suc left) (c ∷ cs) = unescaped_from left cs
unescaped_from zero (c ∷ cs) = first_text c cs ++ unescaped_from (less_one (first_len c cs)) cs

-- the bytes of a name or of the inside of a string, where each escape is the code point that it stands for
abbrev pub unescaped : List ℕ → List ℕ
unescaped text = unescaped_from 0 text

-- the code points that bytes stand for, with U+FFFD for bytes that are not UTF-8
abbrev pub code_points : List ℕ → List ℕ
code_points bytes = chars (utf8_lossy bytes)

-- the code points of a name or of the inside of a string
abbrev pub decoded : List ℕ → List ℕ
decoded text = code_points (unescaped text)

-- whether a name is this word without ASCII case, once its escapes are read
abbrev pub is_named : List ℕ → List ℕ → Bool
is_named word name = str_eq_ignore_ascii_case (unescaped name) word

-- a text in ASCII lower case
abbrev pub lower : List ℕ → List ℕ
lower text = map to_ascii_lowercase text

-- a name that is `url` without ASCII case
abbrev pub is_url : List ℕ → Bool
is_url name = str_eq_ignore_ascii_case (unescaped name) (codes "url")
