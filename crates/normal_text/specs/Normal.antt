-- Normal texts: texts up to comments, and up to white space that says nothing (own).
use Rattle.std.specs.Prelude.{ℕ, ◌==◌, nat_le, Bool, true, false, not, ◌&&◌, ◌||◌, if◌then◌else◌, List, [], ◌∷◌, ◌++◌, length}
use Rattle.std.specs.List.{list_any}
use Rattle.css_model.specs.declared.sheet.Decl.{Decl}
use Rattle.css_model.specs.declared.token.TokenKind.{TokenKind}
use Rattle.css_model.specs.declared.token.TokenKind.TheVariants as kind
use Rattle.css_model.specs.Sheets.Declarations.{is_custom}
use Rattle.css_model.specs.Sheets.Limits.{max_bytes}
use Rattle.css_model.specs.Text.Characters.{close_curly, close_round, comma, open_curly, open_round, semicolon, slash, space}
use Rattle.css_model.specs.Text.Lexemes.{is_ident, is_sign_of, is_delim_of}
use Rattle.css_model.specs.Text.Names.{decoded}
use Rattle.normal_text.specs.Words.{Word, head_words, words_of}

-- ---- White space that says nothing

-- signs before and after which it says nothing
abbrev pub frees_both : TokenKind → Bool
frees_both k = is_sign_of comma k || is_sign_of semicolon k || is_sign_of open_curly k || is_sign_of close_curly k || is_delim_of slash k

-- whether a token is a function with its `(`
abbrev pub is_function : TokenKind → Bool
is_function kind.Function = true
is_function _ = false

-- whether white space after a word says nothing, and whether white space before it does
abbrev pub frees_after : Word → Bool
frees_after w = w.free || frees_both w.kind || is_sign_of open_round w.kind || is_function w.kind

abbrev pub frees_before : Word → Bool
frees_before w = w.free || frees_both w.kind || is_sign_of close_round w.kind

-- whether there is white space between a word and these that counts
abbrev pub counts_between : Word → List Word → Bool
counts_between w [] = w.white && not (frees_after w)
counts_between w (v ∷ ws) = w.white && not (frees_after w || frees_before v)

-- ---- Normal texts

-- the end of a token in a normal text: a byte that no text in UTF-8 has (RFC 3629, section 3)
abbrev pub token_end : ℕ
token_end = 255

-- the tokens of words, each with its end; white space that counts is one token, a space
abbrev pub spelled : List Word → List ℕ
spelled [] = []
spelled (w ∷ ws) = w.bytes ++ token_end ∷ (if counts_between w ws then space ∷ token_end ∷ spelled ws else spelled ws)

-- whether a text is longer than a sheet may be, which no part of a sheet is
abbrev pub is_long : List ℕ → Bool
is_long text = not (nat_le (length text) max_bytes)

-- The normal text of a value. Two values are alike where it is the same: where they have the same tokens, in which
-- white space that counts is one.
abbrev pub normal : List ℕ → List ℕ
normal text = if is_long text then text else spelled (words_of text)

-- That of the head of an opened block: white space beside a `:` directly in `(` says nothing too (CSS Media Queries 3,
-- section 3).
abbrev pub normal_head : List ℕ → List ℕ
normal_head text = if is_long text then text else spelled (head_words [] (words_of text))

-- whether a word is the name of a custom property, or begins as one
abbrev pub is_custom_word : Word → Bool
is_custom_word w = is_ident w.kind && is_custom (decoded w.bytes)

-- That of a kept text. A text with a custom property is its own, since the white space in its value counts (CSS Custom
-- Properties 1, section 2).
abbrev pub normal_kept : List ℕ → List ℕ
normal_kept text = if is_long text || list_any is_custom_word (words_of text) then text else spelled (words_of text)

-- That of the value of a declaration. The value of a custom property is its own.
abbrev pub normal_value : Decl → List ℕ
normal_value d = if is_custom d.name then d.value else normal d.value
