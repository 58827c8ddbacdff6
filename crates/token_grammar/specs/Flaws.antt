-- What is wrong where the standard makes a bad token or meets the end inside one (CSS Syntax 3, sections 4.3.2 and
-- 4.3.5 to 4.3.7). This program reads no sheet that has one of these.
use Rattle.std.specs.Prelude.{ℕ, ◌≡◌, ◌<◌, ◌==◌, true, false, List, [], ◌∷◌, ◌++◌, length, codes}
use Rattle.css_model.specs.Positions.Notation.{has_close}
use Rattle.css_model.specs.Text.Characters.{at_sign, backslash, close_round, dash, hash, is_bad_in_url, is_newline, is_white}
use Rattle.css_model.specs.Text.TokenAt.{is_quote}
use Rattle.token_grammar.specs.Names.{IsIdent, IsNamePart}
use Rattle.token_grammar.specs.Numbers.{IsNumber, IsWholeNumber}
use Rattle.token_grammar.specs.Rows.{AreWhite, IsRowOf}
use Rattle.token_grammar.specs.TokenTexts.{IsStringPart, IsUrlFront}

-- a string up to a newline that is part of no escape (section 4.3.5)
pub data IsBadString (text rest : List ℕ) : Type 0 where
  broken : (quote : ℕ) (inside : List ℕ) (c : ℕ) → text ≡ quote ∷ (inside ++ c ∷ []) → is_quote quote ≡ true
      → IsRowOf (IsStringPart quote) (c ∷ rest) inside → is_newline c ≡ true → IsBadString text rest

-- a url up to a code point that it may not hold, where a quote right after its `(` and white space makes it a function;
-- up to any but `)` after other white space; or up to a backslash and a newline (section 4.3.6)
pub data IsBadUrl (text rest : List ℕ) : Type 0 where
  forbidden : (front inside : List ℕ) (c : ℕ) → text ≡ front ++ c ∷ [] → IsUrlFront front inside (c ∷ rest) → is_bad_in_url c ≡ true
      → (inside ≡ [] → is_quote c ≡ false) → IsBadUrl text rest
  parted : (front inside after : List ℕ) (c : ℕ) → text ≡ front ++ (after ++ c ∷ []) → IsUrlFront front inside (after ++ c ∷ rest) → 0 < length inside
      → 0 < length after → AreWhite after → is_white c ≡ false → (c == close_round) ≡ false → IsBadUrl text rest
  escape : (front inside : List ℕ) (c : ℕ) → text ≡ front ++ backslash ∷ c ∷ [] → IsUrlFront front inside (backslash ∷ c ∷ rest) → is_newline c ≡ true → IsBadUrl text rest

-- an ident sequence that ends in a backslash at the end
pub data IsCutIdent (text : List ℕ) : Type 0 where
  alone : text ≡ backslash ∷ [] → IsCutIdent text
  dashed : text ≡ dash ∷ backslash ∷ [] → IsCutIdent text
  longer : (name : List ℕ) → text ≡ name ++ backslash ∷ [] → IsIdent name (backslash ∷ []) → IsCutIdent text

-- what lacks, at the end, the end of a comment, a string or a url, or the code point that its last backslash escapes
pub data IsCut (text : List ℕ) : Type 0 where
  in_comment : (inside : List ℕ) → text ≡ codes "/*" ++ inside → has_close inside ≡ false → IsCut text
  in_string : (quote : ℕ) (inside : List ℕ) → text ≡ quote ∷ inside → is_quote quote ≡ true → IsRowOf (IsStringPart quote) [] inside → IsCut text
  in_string_escape : (quote : ℕ) (inside : List ℕ) → text ≡ quote ∷ (inside ++ backslash ∷ []) → is_quote quote ≡ true
      → IsRowOf (IsStringPart quote) (backslash ∷ []) inside → IsCut text
  in_url : (front inside after : List ℕ) → text ≡ front ++ after → IsUrlFront front inside after → AreWhite after → IsCut text
  in_url_escape : (front inside : List ℕ) → text ≡ front ++ backslash ∷ [] → IsUrlFront front inside (backslash ∷ []) → IsCut text
  in_hash : (row : List ℕ) → text ≡ hash ∷ (row ++ backslash ∷ []) → IsRowOf IsNamePart (backslash ∷ []) row → IsCut text
  in_at_keyword : (name : List ℕ) → text ≡ at_sign ∷ name → IsCutIdent name → IsCut text
  in_ident : IsCutIdent text → IsCut text
  in_dimension : (number unit : List ℕ) → text ≡ number ++ unit → IsNumber number → IsCutIdent unit → IsWholeNumber number unit → IsCut text
