-- What texts are tokens, by their kinds (CSS Syntax 3, sections 4.1 and 4.3.1 to 4.3.6).
use Rattle.std.specs.Prelude.{ℕ, ◌≡◌, ◌<◌, ◌==◌, true, false, List, [], ◌∷◌, ◌++◌, length, codes}
use Rattle.std.specs.Char.{is_ascii_digit}
use Rattle.css_model.specs.declared.token.TokenKind.{TokenKind}
use Rattle.css_model.specs.declared.token.TokenKind.TheVariants as kind
use Rattle.css_model.specs.Positions.Notation.{has_close}
use Rattle.css_model.specs.Text.Characters.{at_sign, backslash, close_round, hash, open_round, percent, first_passes, is_bad_in_url, is_newline, is_sign, is_start, is_white}
use Rattle.css_model.specs.Text.TokenAt.{is_quote}
use Rattle.token_grammar.specs.Escapes.{IsEscape}
use Rattle.token_grammar.specs.Names.{IsIdent, IsNamePart, IsUrlName}
use Rattle.token_grammar.specs.Numbers.{IsNumber, IsWholeNumber}
use Rattle.token_grammar.specs.Rows.{AreWhite, IsNewline, IsRowOf}

-- a comment: the first `*/` in it ends it (section 4.3.2)
pub data IsCommentText (text : List ℕ) : Type 0 where
  closed : (inside : List ℕ) → text ≡ codes "/*" ++ (inside ++ codes "*/") → has_close inside ≡ false → IsCommentText text

-- inside a string of this quote: a code point that is no quote, backslash or newline, an escape, or a backslash and a
-- newline (section 4.3.5)
pub data IsStringPart (quote : ℕ) (text rest : List ℕ) : Type 0 where
  code_point : (c : ℕ) → text ≡ c ∷ [] → (c == quote) ≡ false → (c == backslash) ≡ false → is_newline c ≡ false → IsStringPart quote text rest
  escape : (said : List ℕ) → IsEscape said text rest → IsStringPart quote text rest
  newline : (line : List ℕ) → text ≡ backslash ∷ line → IsNewline line rest → IsStringPart quote text rest

-- inside a url: an escape, or a code point that is no white space, `)`, backslash, quote, `(` or non-printable one
-- (section 4.3.6)
pub data IsUrlPart (text rest : List ℕ) : Type 0 where
  code_point : (c : ℕ) → text ≡ c ∷ [] → is_white c ≡ false → (c == close_round) ≡ false → (c == backslash) ≡ false → is_bad_in_url c ≡ false → IsUrlPart text rest
  escape : (said : List ℕ) → IsEscape said text rest → IsUrlPart text rest

-- a url so far: `url`, `(` and white space, and what is inside
pub record IsUrlFront (text inside rest : List ℕ) : Type 0 where
  pub name : List ℕ
  pub before : List ℕ
  pub joined : text ≡ name ++ open_round ∷ (before ++ inside)
  pub named : IsUrlName name (open_round ∷ (before ++ (inside ++ rest)))
  pub blank : AreWhite before
  pub row : IsRowOf IsUrlPart rest inside

-- white space and a quote follow
pub data IsBeforeQuote (rest : List ℕ) : Type 0 where
  quoted : (blank more : List ℕ) (c : ℕ) → rest ≡ blank ++ c ∷ more → AreWhite blank → is_quote c ≡ true → IsBeforeQuote rest

-- a code point by itself: none that is a token of another kind, and a backslash only before a newline
pub record IsDelim (c : ℕ) (rest : List ℕ) : Type 0 where
  pub no_white : is_white c ≡ false
  pub no_quote : is_quote c ≡ false
  pub no_sign : is_sign c ≡ false
  pub no_digit : is_ascii_digit c ≡ false
  pub no_start : is_start c ≡ false
  pub lone : c ≡ backslash → first_passes is_newline rest ≡ true

pub data IsTokenText (rest : List ℕ) : TokenKind → List ℕ → Type 0 where
  white : (text : List ℕ) → 0 < length text → AreWhite text → IsTokenText rest kind.White text
  string : (quote : ℕ) (inside : List ℕ) → is_quote quote ≡ true → IsRowOf (IsStringPart quote) (quote ∷ rest) inside
      → IsTokenText rest kind.Str (quote ∷ (inside ++ quote ∷ []))
  id_hash : (name : List ℕ) → IsIdent name rest → IsTokenText rest kind.IdHash (hash ∷ name)
  other_hash : (name : List ℕ) → 0 < length name → IsRowOf IsNamePart rest name → (IsIdent name rest → ⊥) → IsTokenText rest kind.Hash (hash ∷ name)
  number : (text : List ℕ) → IsNumber text → IsTokenText rest kind.Number text
  percentage : (number : List ℕ) → IsNumber number → IsTokenText rest kind.Percentage (number ++ percent ∷ [])
  dimension : (number unit : List ℕ) → IsNumber number → IsIdent unit rest → IsWholeNumber number unit → IsTokenText rest kind.Dimension (number ++ unit)
  comment_open : IsTokenText rest kind.CommentOpen (codes "<!--")
  comment_close : IsTokenText rest kind.CommentClose (codes "-->")
  at_keyword : (name : List ℕ) → IsIdent name rest → IsTokenText rest kind.AtKeyword (at_sign ∷ name)
  ident : (text : List ℕ) → IsIdent text rest → IsTokenText rest kind.Ident text
  function : (name : List ℕ) → IsIdent name (open_round ∷ rest) → (IsUrlName name (open_round ∷ rest) → IsBeforeQuote rest) → IsTokenText rest kind.Function (name ++ open_round ∷ [])
  url : (front inside after : List ℕ) → IsUrlFront front inside (after ++ close_round ∷ rest) → AreWhite after
      → IsTokenText rest kind.Url (front ++ (after ++ close_round ∷ []))
  sign : (c : ℕ) → is_sign c ≡ true → IsTokenText rest (kind.Sign c) (c ∷ [])
  delim : (c : ℕ) → IsDelim c rest → IsTokenText rest (kind.Delim c) (c ∷ [])
