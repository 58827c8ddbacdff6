-- Tokens that may stand side by side with nothing between them, by their kinds and the first byte of the second.
use Rattle.std.specs.Prelude.{ℕ, ◌≡◌, ◌-◌, ◌==◌, ◌&&◌, ◌||◌, not, Bool, true, false, List, [], ◌∷◌, ◌++◌, take, length, Option, Some}
use Rattle.std.specs.List.{list_any}
use Rattle.std.specs.Str.{bytes_eq}
use Rattle.css_model.specs.declared.token.TokenKind.{TokenKind}
use Rattle.css_model.specs.declared.token.TokenKind.TheVariants as kind
use Rattle.css_model.specs.Selectors.Tokens.{bar, caret, dollar, equals_sign, tilde}
use Rattle.css_model.specs.Text.Characters.{hash, star, plus, dot, dash, greater_than, colon, semicolon, comma, open_square, close_square, close_round, open_curly, close_curly, begins, first_passes}
use Rattle.css_model.specs.Text.Names.{is_url}
use Rattle.css_model.specs.Text.Tokens.{Part, text_of}
use Rattle.css_tokens.specs.Lexed.{IsLexed}
use Rattle.token_laws.specs.Alike.{EndsAlike}

-- `* > ~ = | ^ $`, which look at nothing behind themselves
abbrev pub lone_bytes : List ℕ
lone_bytes = star ∷ greater_than ∷ tilde ∷ equals_sign ∷ bar ∷ caret ∷ dollar ∷ []

-- bytes that no name goes on with: `# : ; , [ ] ) { } + .` and those
abbrev pub ending_bytes : List ℕ
ending_bytes = hash ∷ colon ∷ semicolon ∷ comma ∷ open_square ∷ close_square ∷ close_round ∷ open_curly ∷ close_curly ∷ plus ∷ dot ∷ lone_bytes

abbrev pub is_one_of : List ℕ → ℕ → Bool
is_one_of bytes c = list_any (λ d. c == d) bytes

abbrev pub is_numeric : Option TokenKind → Bool
is_numeric (Some kind.Number) = true
is_numeric (Some kind.Percentage) = true
is_numeric (Some kind.Dimension) = true
is_numeric k = false

-- a token of this kind and these bytes, before which a name ends
abbrev pub ends_name : TokenKind → List ℕ → Bool
ends_name k next = first_passes (is_one_of ending_bytes) next && not (is_numeric (Some k))

-- `--`, which a `>` behind it would make `-->`
abbrev pub is_dashes : List ℕ → Bool
is_dashes bytes = bytes_eq bytes (dash ∷ dash ∷ [])

-- Whether the token of the first kind and bytes may stand before that of the second.
abbrev pub together : TokenKind → List ℕ → TokenKind → List ℕ → Bool
together kind.Ident bytes k next = ends_name k next && not (is_dashes bytes && begins greater_than next)
together kind.IdHash bytes k next = ends_name k next
together kind.Function bytes k next = not (is_url (take (length bytes - 1) bytes))
together kind.Str bytes k next = true
together (kind.Sign c) bytes k next = true
together (kind.Delim c) bytes k next = is_one_of lone_bytes c || (is_one_of (plus ∷ dot ∷ []) c && not (is_numeric (Some k)))
together j bytes k next = false

-- Such a token ends before the second as it ended where it was read.
abbrev pub TogetherEndsAlike : Type 0
TogetherEndsAlike = (j k : TokenKind) (bytes next old : List ℕ) (new : List Part) → together j bytes k next ≡ true
    → IsLexed (record { kind = Some k; bytes = next } ∷ new)
    → EndsAlike (record { kind = Some j; bytes = bytes }) old (text_of (record { kind = Some k; bytes = next } ∷ new))

-- So a row of parts that are read where they stand, up to such a token, is read before the second.
abbrev pub TogetherStands : Type 0
TogetherStands = (ps : List Part) (j k : TokenKind) (bytes next : List ℕ) (old new : List Part) → together j bytes k next ≡ true
    → IsLexed (ps ++ record { kind = Some j; bytes = bytes } ∷ old) → IsLexed (record { kind = Some k; bytes = next } ∷ new)
    → IsLexed (ps ++ record { kind = Some j; bytes = bytes } ∷ record { kind = Some k; bytes = next } ∷ new)
