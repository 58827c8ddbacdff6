-- What the grammar of selectors takes from a token (Selectors 3, section 10.2; CSS Syntax 3, section 4).
use Rattle.std.specs.Prelude.{ℕ, ◌-◌, ◌==◌, Bool, true, false, if◌then◌else◌, List, [], ◌∷◌, length, take, drop, Option, Some, None, codes}
use Rattle.std.specs.List.{list_any}
use Rattle.std.specs.Str.{str_eq_ignore_ascii_case}
use Rattle.css_model.specs.declared.token.Gap.{Gap}
use Rattle.css_model.specs.declared.token.Gap.TheVariants as gap
use Rattle.css_model.specs.declared.token.TokenKind.{TokenKind}
use Rattle.css_model.specs.declared.token.TokenKind.TheVariants as kind
use Rattle.css_model.specs.Lists.{begins_with}
use Rattle.css_model.specs.Text.Characters.{backslash}
use Rattle.css_model.specs.Lists.{same_text}
use Rattle.css_model.specs.Text.Kept.{Solid}
use Rattle.css_model.specs.Text.Names.{unescaped}

-- `|`
abbrev pub bar : ℕ
bar = 124

-- `=`
abbrev pub equals_sign : ℕ
equals_sign = 61

-- `~`
abbrev pub tilde : ℕ
tilde = 126

-- `^`
abbrev pub caret : ℕ
caret = 94

-- `$`
abbrev pub dollar : ℕ
dollar = 36

abbrev pub is_function : TokenKind → Bool
is_function kind.Function = true
is_function _ = false

abbrev pub is_id_hash : TokenKind → Bool
is_id_hash kind.IdHash = true
is_id_hash _ = false

abbrev pub is_gapless : Gap → Bool
is_gapless gap.Nothing = true
is_gapless _ = false

abbrev pub is_string : TokenKind → Bool
is_string kind.Str = true
is_string _ = false

-- the name in the bytes of an ident, a function or a hash, and the inside of a string
abbrev pub name_in : TokenKind → List ℕ → List ℕ
name_in kind.Ident bytes = bytes
name_in kind.Function bytes = take (length bytes - 1) bytes
name_in kind.IdHash bytes = drop 1 bytes
name_in kind.Str bytes = take (length bytes - 2) (drop 1 bytes)
name_in _ bytes = []

-- The bytes of a token without an escape. Of one with an escape a backslash alone is left: no argument has
-- either.
abbrev pub plain_bytes : List ℕ → List ℕ
plain_bytes bytes = if list_any (λ c. c == backslash) bytes then backslash ∷ [] else bytes

-- A token: its kind; the UTF-8 of its name, or of what its string says, once escapes are read; whether its
-- bytes begin with `--`, and whether they are `--`; its bytes; and what stands behind it.
pub record SelectorToken : Type 0 where
  pub kind : TokenKind
  pub name : List ℕ
  pub dashed : Bool
  pub only_dashes : Bool
  pub bytes : List ℕ
  pub gap : Gap

abbrev pub selector_token : Solid → SelectorToken
selector_token s =
    record {
      kind = s.kind;
      name = unescaped (name_in s.kind s.bytes);
      dashed = begins_with s.bytes (codes "--");
      only_dashes = same_text s.bytes (codes "--");
      bytes = plain_bytes s.bytes;
      gap = s.gap;
    }

-- whether a name is this word without ASCII case
abbrev pub is_word : List ℕ → List ℕ → Bool
is_word word name = str_eq_ignore_ascii_case name word

-- what stands in the row of a name, which is compared without ASCII case
abbrev pub row_of : {A : Type 0} → List ℕ → List (List ℕ × A) → Option A
row_of name [] = None
row_of name (r ∷ rows) = if is_word r.0 name then Some r.1 else row_of name rows
