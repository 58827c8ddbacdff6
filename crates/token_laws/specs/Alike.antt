-- When a token that ends before one rest of a text ends before another: nothing may begin in the new rest
-- that the token could go on with, and that did not begin in the old one.
use Rattle.std.specs.Prelude.{ℕ, ◌≡◌, ◌==◌, ◌&&◌, ◌||◌, Bool, true, false, List, [], ◌∷◌, ◌++◌, drop, length, Option, Some, None, Ok}
use Rattle.std.specs.Char.{is_ascii_hexdigit}
use Rattle.css_model.specs.declared.token.TokenKind.{TokenKind}
use Rattle.css_model.specs.declared.token.TokenKind.TheVariants as kind
use Rattle.css_model.specs.Text.Characters.{line_feed, hash, percent, open_round, star, dash, dot, slash, less_than, greater_than, at_sign, backslash, begins, first_passes, is_plus_or_minus}
use Rattle.css_model.specs.Text.Units.{white_unit, escape_after, name_unit, name_start, digit_unit, fraction, decimal, signed_digits}
use Rattle.css_model.specs.Text.Names.{is_url}
use Rattle.css_model.specs.Text.TokenAt.{part_at, after_white, is_quote}
use Rattle.css_model.specs.Text.Tokens.{Part, text_of}
use Rattle.css_tokens.specs.Lexed.{IsLexed}

-- What does not begin in one rest does not begin in another.
pub record Alike (old new : List ℕ) : Type 0 where
  pub hex : first_passes is_ascii_hexdigit old ≡ false → first_passes is_ascii_hexdigit new ≡ false
  pub white : white_unit old ≡ 0 → white_unit new ≡ 0
  pub feed : begins line_feed old ≡ false → begins line_feed new ≡ false
  pub unit : name_unit old ≡ 0 → name_unit new ≡ 0
  pub name : name_start old ≡ 0 → name_start new ≡ 0
  pub bracket : begins open_round old ≡ false → begins open_round new ≡ false
  pub percentage : begins percent old ≡ false → begins percent new ≡ false
  pub digit : digit_unit old ≡ 0 → digit_unit new ≡ 0
  pub decimals : fraction old ≡ 0 → fraction new ≡ 0

-- a comment or a token whose end does not depend on whether more of it follows
abbrev pub ends_itself : Option TokenKind → Bool
ends_itself None = true
ends_itself (Some kind.White) = false
ends_itself (Some kind.Str) = true
ends_itself (Some kind.IdHash) = false
ends_itself (Some kind.Hash) = false
ends_itself (Some kind.Number) = false
ends_itself (Some kind.Percentage) = true
ends_itself (Some kind.Dimension) = false
ends_itself (Some kind.CommentOpen) = true
ends_itself (Some kind.CommentClose) = true
ends_itself (Some kind.AtKeyword) = false
ends_itself (Some kind.Ident) = false
ends_itself (Some kind.Function) = true
ends_itself (Some kind.Url) = true
ends_itself (Some (kind.Sign c)) = true
ends_itself (Some (kind.Delim c)) = true

abbrev pub begins_dashes : List ℕ → Bool
begins_dashes text = begins dash text && begins dash (drop 1 text)

-- `!--`
abbrev pub begins_bang_dashes : List ℕ → Bool
begins_bang_dashes text = begins 33 text && (begins dash (drop 1 text) && begins dash (drop 2 text))

-- white space and a quote
abbrev pub begins_quoted : List ℕ → Bool
begins_quoted text = first_passes is_quote (after_white text)

abbrev pub is_exponent : ℕ → Bool
is_exponent c = c == 101 || c == 69

-- a function whose name is `url` keeps the string behind it
abbrev pub KeepsString : Option TokenKind → List ℕ → List ℕ → List ℕ → Type 0
KeepsString kind_of bytes old new = (name : List ℕ) → kind_of ≡ Some kind.Function → bytes ≡ name ++ open_round ∷ [] → is_url name ≡ true
    → begins_quoted old ≡ true → begins_quoted new ≡ true

-- What single tokens look at behind themselves: what the one of this kind and these bytes did not find in one
-- rest is not in another. Of the others each field asks nothing.
pub record LooksAlike (kind_of : Option TokenKind) (bytes old new : List ℕ) : Type 0 where
  pub at_backslash : kind_of ≡ Some (kind.Delim backslash) → escape_after old ≡ 0 → escape_after new ≡ 0
  pub at_slash : kind_of ≡ Some (kind.Delim slash) → begins star old ≡ false → begins star new ≡ false
  pub at_less_than : kind_of ≡ Some (kind.Delim less_than) → begins_bang_dashes old ≡ false → begins_bang_dashes new ≡ false
  pub at_plus_or_minus : (c : ℕ) → kind_of ≡ Some (kind.Delim c) → is_plus_or_minus c ≡ true → decimal old ≡ 0 → decimal new ≡ 0
  pub at_dash : kind_of ≡ Some (kind.Delim dash) → name_start (dash ∷ old) ≡ 0 → name_start (dash ∷ new) ≡ 0
  pub at_dot : kind_of ≡ Some (kind.Delim dot) → digit_unit old ≡ 0 → digit_unit new ≡ 0
  pub at_hash : kind_of ≡ Some (kind.Delim hash) → name_unit old ≡ 0 → name_unit new ≡ 0
  pub at_at_sign : kind_of ≡ Some (kind.Delim at_sign) → name_start old ≡ 0 → name_start new ≡ 0
  pub at_dashes : kind_of ≡ Some kind.Ident → bytes ≡ dash ∷ dash ∷ [] → begins greater_than old ≡ false → begins greater_than new ≡ false
  pub at_url : KeepsString kind_of bytes old new
  -- a unit that ends in `e`
  pub at_exponent : (front : List ℕ) (e : ℕ) → kind_of ≡ Some kind.Dimension → bytes ≡ front ++ e ∷ [] → is_exponent e ≡ true
      → signed_digits old ≡ 0 → signed_digits new ≡ 0

-- What a token lets the one before it look at behind itself: `!` lets `<` see `--`, and white space lets
-- `url(` see a quote.
pub record LooksThrough (kind_of : Option TokenKind) (old new : List ℕ) : Type 0 where
  pub at_bang : kind_of ≡ Some (kind.Delim 33) → begins_dashes old ≡ false → begins_dashes new ≡ false
  pub at_white : kind_of ≡ Some kind.White → first_passes is_quote old ≡ true → first_passes is_quote new ≡ true

-- all of this of one part
pub record EndsAlike (p : Part) (old new : List ℕ) : Type 0 where
  pub alike : ends_itself p.kind ≡ false → Alike old new
  pub looks : LooksAlike p.kind p.bytes old new
  pub through : LooksThrough p.kind old new

-- A token or a comment that ends before one rest ends before any other in which nothing begins that it could
-- go on with, and that did not begin in the first.
abbrev pub PartsEndAlike : Type 0
PartsEndAlike = (v old new : List ℕ) (k : Option TokenKind) → (ends_itself k ≡ false → Alike old new) → LooksAlike k v old new
    → part_at (v ++ old) ≡ Ok (k, length v) → part_at (v ++ new) ≡ Ok (k, length v)

-- Parts that are read where they stand, before others, are so before any others, if the last of them ends alike.
abbrev pub RowsEndAlike : Type 0
RowsEndAlike = (ps : List Part) (last : Part) (old new : List Part) → IsLexed (ps ++ last ∷ old) → IsLexed new
    → EndsAlike last (text_of old) (text_of new) → IsLexed (ps ++ last ∷ new)
