-- Escapes (CSS Syntax 3, sections 4.3.7 and 4.3.8), and what texts say once they are read.
use Rattle.std.specs.Prelude.{ℕ, ◌≡◌, ◌+◌, ◌*◌, ◌<◌, ◌≤◌, ◌==◌, ◌⊎◌, true, false, List, [], ◌∷◌, ◌++◌, length, fold, encode_utf8}
use Rattle.std.specs.Char.{is_ascii_hexdigit, digit_value}
use Rattle.std.specs.List.{list_all}
use Rattle.css_model.specs.Text.Characters.{backslash, first_passes, is_newline}
use Rattle.css_model.specs.Text.Names.{byte_text, code_points, escaped_code, replacement}
use Rattle.token_grammar.specs.Rows.{IsNewline, IsTheWhite}

-- as many hex digits as there are before a rest, but no more than six
pub record AreHexDigits (digits rest : List ℕ) : Type 0 where
  pub some : 0 < length digits
  pub few : length digits ≤ 6
  pub each : list_all is_ascii_hexdigit digits ≡ true
  pub all : (length digits ≡ 6) ⊎ (first_passes is_ascii_hexdigit rest ≡ false)

-- the number that they write
abbrev pub hex_number : List ℕ → ℕ
hex_number digits = fold (λ number digit. number * 16 + digit_value digit) 0 digits

-- An escape, and the bytes that it says: a backslash and hex digits, with the white space after them, or a backslash and
-- any other code point but a newline. The number 0, a surrogate and what is beyond U+10FFFF stand for U+FFFD, and so does
-- U+0000 (section 3.3). Of a code point in several bytes the first is taken here, and the others by themselves.
pub data IsEscape (said text rest : List ℕ) : Type 0 where
  of_digits : (digits white : List ℕ) → text ≡ backslash ∷ (digits ++ white) → AreHexDigits digits (white ++ rest) → IsTheWhite white rest
      → said ≡ encode_utf8 (escaped_code (hex_number digits)) → IsEscape said text rest
  of_code_point : (c : ℕ) → text ≡ backslash ∷ c ∷ [] → is_newline c ≡ false → is_ascii_hexdigit c ≡ false → said ≡ byte_text c → IsEscape said text rest

-- What a name or the inside of a string says, as bytes: a backslash before a newline says nothing.
pub data Says : List ℕ → List ℕ → Type 0 where
  nothing : Says [] []
  plain : (c : ℕ) (rest said : List ℕ) → (c == backslash) ≡ false → Says rest said → Says (c ∷ rest) (byte_text c ++ said)
  escape : (text rest first said : List ℕ) → IsEscape first text rest → Says rest said → Says (text ++ rest) (first ++ said)
  newline : (line rest said : List ℕ) → IsNewline line rest → Says rest said → Says (backslash ∷ (line ++ rest)) said
  at_end : Says (backslash ∷ []) (encode_utf8 replacement)

-- the code points that it says, with U+FFFD for bytes that are no UTF-8
abbrev pub Decodes : List ℕ → List ℕ → Type 0
Decodes text cs = (said : List ℕ) × Says text said × (cs ≡ code_points said)
