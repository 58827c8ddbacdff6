-- What a byte or an escape says, as the bytes of its UTF-8.
use Rattle.std.specs.Prelude.{ℕ, ◌≤◌, ◌==◌, ◌&&◌, Bool, List, [], ◌∷◌, encode_utf8, nat_lt, not}
use Rattle.css_model.specs.Text.Characters.{backslash}
use Rattle.css_tokens.specs.declared.names.Said.{Said}
use Rattle.css_tokens.specs.declared.names.Said.TheVariants.{Nothing, Byte, Code}

abbrev pub said_text : Said → List ℕ
said_text Nothing = []
said_text (Byte c) = c ∷ []
said_text (Code c) = encode_utf8 c

-- what is given as a code point is not ASCII
abbrev pub IsWide : Said → Type 0
IsWide Nothing = Unit {0}
IsWide (Byte c) = Unit {0}
IsWide (Code c) = 128 ≤ c

-- a byte that says itself as a code point, wherever it is in a name or a string: ASCII, but not 0 or a backslash
abbrev pub says_itself : ℕ → Bool
says_itself c = not (c == 0) && not (c == backslash) && nat_lt c 128
