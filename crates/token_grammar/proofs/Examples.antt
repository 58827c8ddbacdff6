-- Texts of each kind, with each branch of the railroad diagrams of CSS Syntax 3, section 4.1, once.
use Rattle.std.specs.Prelude.{ℕ, ◌≡◌, ◌<◌, ◌≤◌, true, List, [], ◌∷◌, ◌++◌, length, codes, map}
use Rattle.std.specs.Char.{encode_utf8, is_ascii_digit, to_ascii_lowercase}
use Rattle.std.specs.List.{list_all}
use Rattle.std.proofs.Common.{ap, arith, inl, inr, refl, ◌∙◌}
use Rattle.std.proofs.lemmas.Bool.{and_parts}
use Rattle.css_model.specs.declared.token.TokenKind.TheVariants as kind
use Rattle.css_model.specs.Text.Characters.{backslash, is_name, is_start}
use Rattle.css_model.specs.Text.Names.{unescaped}
use Rattle.css_model.specs.Text.Units.{number_len}
use Rattle.token_grammar.specs.Escapes.{IsEscape, Says}
use Rattle.token_grammar.specs.Escapes.IsEscape.{of_digits, of_code_point}
use Rattle.token_grammar.specs.Flaws.{IsBadString, IsBadUrl, IsCut}
use Rattle.token_grammar.specs.Flaws.IsBadString.{broken}
use Rattle.token_grammar.specs.Flaws.IsBadUrl.{forbidden, parted, escape as bad_escape}
use Rattle.token_grammar.specs.Flaws.IsCut.{in_comment, in_string, in_string_escape, in_url, in_url_escape, in_ident, in_hash, in_at_keyword, in_dimension}
use Rattle.token_grammar.specs.Flaws.IsCutIdent.{alone, dashed as cut_dashed, longer as cut_longer}
use Rattle.token_grammar.specs.Names.{IsIdent, IsNamePart, IsUrlName}
use Rattle.token_grammar.specs.Names.IsIdent.{plain, dashed, dashes}
use Rattle.token_grammar.specs.Names.IsNamePart.{code_point as name_point}
use Rattle.token_grammar.specs.Names.IsNameStart.{code_point as start_point, escape as start_escape}
use Rattle.token_grammar.specs.Numbers.{IsNumber, IsWholeNumber}
use Rattle.token_grammar.specs.Numbers.IsDecimal.{integer, fraction, both}
use Rattle.token_grammar.specs.Numbers.IsExponent.{nothing as no_exponent, one as an_exponent}
use Rattle.token_grammar.specs.Numbers.IsSign.{nothing as no_sign, one as a_sign}
use Rattle.token_grammar.specs.Rows.{AreDigits, IsRowOf}
use Rattle.token_grammar.specs.Rows.IsNewline.{both as two_lines}
use Rattle.token_grammar.specs.Rows.IsRowOf.{nothing, more}
use Rattle.token_grammar.specs.Rows.IsTheWhite.{none, blank as one_blank}
use Rattle.token_grammar.specs.TokenTexts.{IsCommentText, IsTokenText, IsUrlFront}
use Rattle.token_grammar.specs.TokenTexts.IsBeforeQuote.{quoted}
use Rattle.token_grammar.specs.TokenTexts.IsCommentText.{closed}
use Rattle.token_grammar.specs.TokenTexts.IsStringPart.{code_point as string_point, escape as string_escape, newline as string_line}
use Rattle.token_grammar.specs.TokenTexts.IsTokenText.{white, string, id_hash, number, percentage, comment_open, comment_close, at_keyword, ident, function, url, sign, delim}
use Rattle.token_grammar.specs.TokenTexts.IsUrlPart.{code_point as url_point}
use Rattle.token_grammar.proofs.Numbers.{number_le}
use Rattle.token_grammar.proofs.Unescaped.{says_is, says_unescaped}

-- `/**/`, `/* * */` and `/***/`
empty_comment : IsCommentText (codes "/**/")
empty_comment = closed [] refl refl

starred_comment : IsCommentText (codes "/***/")
starred_comment = closed (codes "*") refl refl

-- a space, a tab, a line feed, CR LF and a form feed
all_white : IsTokenText [] kind.White (32 ∷ 9 ∷ 10 ∷ 13 ∷ 10 ∷ 12 ∷ [])
all_white = white (32 ∷ 9 ∷ 10 ∷ 13 ∷ 10 ∷ 12 ∷ []) (omega arith) refl

-- escapes: `\41` before nothing, before a space that is its own, and `\000041` before another digit; and `\-`
short_escape : IsEscape (codes "A") (codes "\\41") []
unfolding encode_utf8
short_escape = of_digits (codes "41") [] refl (record { some = omega arith; few = omega arith; each = refl; all = inr refl }) (none refl refl) refl

spaced_escape : IsEscape (codes "A") (codes "\\41 ") (codes "b")
unfolding encode_utf8
spaced_escape = of_digits (codes "41") (codes " ") refl (record { some = omega arith; few = omega arith; each = refl; all = inr refl }) (one_blank 32 refl refl refl) refl

long_escape : IsEscape (codes "A") (codes "\\000041") (codes "1")
unfolding encode_utf8
long_escape = of_digits (codes "000041") [] refl (record { some = omega arith; few = omega arith; each = refl; all = inl refl }) (none refl refl) refl

dash_escape : IsEscape (codes "-") (codes "\\-") (codes "a")
dash_escape = of_code_point 45 refl refl refl refl

-- `\d800`, a surrogate, says U+FFFD
surrogate : IsEscape (0xEF ∷ 0xBF ∷ 0xBD ∷ []) (codes "\\d800") []
unfolding encode_utf8
surrogate = of_digits (codes "d800") [] refl (record { some = omega arith; few = omega arith; each = refl; all = inr refl }) (none refl refl) refl

-- names of code points alone
name_row : (text rest : List ℕ) → list_all is_name text ≡ true → IsRowOf IsNamePart rest text
name_row [] rest all = nothing
name_row (c ∷ cs) rest all =
    let two = and_parts (is_name c) (list_all is_name cs) all in
    more (c ∷ []) cs (name_point c refl two.0) (name_row cs rest two.1)

-- `ab`, `-a`, `--`, `--5` and `\41`
plain_ident : IsTokenText (codes " ") kind.Ident (codes "ab")
plain_ident = ident (codes "ab") (plain (codes "a") (codes "b") refl (start_point 97 refl refl) (name_row (codes "b") (codes " ") refl))

dashed_ident : IsTokenText [] kind.Ident (codes "-a")
dashed_ident = ident (codes "-a") (dashed (codes "a") [] refl (start_point 97 refl refl) nothing)

dashes_ident : IsTokenText [] kind.Ident (codes "--5")
dashes_ident = ident (codes "--5") (dashes (codes "5") refl (name_row (codes "5") [] refl))

escaped_ident : IsTokenText [] kind.Ident (codes "\\41")
escaped_ident = ident (codes "\\41") (plain (codes "\\41") [] refl (start_escape (codes "A") short_escape) nothing)

-- `f(`, and `URL(` before white space and a quote
letter_ident : (c : ℕ) (rest : List ℕ) → is_start c ≡ true → IsIdent (c ∷ []) rest
letter_ident c rest is = plain (c ∷ []) [] refl (start_point c refl is) nothing

not_url : (rest : List ℕ) → IsUrlName (codes "f") rest → ⊥
not_url rest u =
    let says : unescaped (codes "f") ≡ u.said = says_unescaped (codes "f") u.said u.says in
    let sizes : 1 ≡ 3 = ap (λ (t : List ℕ). length (map to_ascii_lowercase t)) says ∙ ap (λ (t : List ℕ). length t) u.is in
    omega (arith, sizes)

a_function : IsTokenText [] kind.Function (codes "f(")
a_function = function (codes "f") (letter_ident 102 (codes "(") refl) (λ u. absurd (not_url (codes "(") u))

url_ident : (rest : List ℕ) → IsIdent (codes "URL") rest
url_ident rest = plain (codes "U") (codes "RL") refl (start_point 85 refl refl) (name_row (codes "RL") rest refl)

url_name : (rest : List ℕ) → IsUrlName (codes "URL") rest
url_name rest = record { ident = url_ident rest; said = codes "URL"; says = says_is (codes "URL") (codes "URL") refl; is = refl }

a_url_function : IsTokenText (codes " 'a')") kind.Function (codes "URL(")
a_url_function = function (codes "URL") (url_ident (codes "( 'a')")) (λ u. quoted (codes " ") (codes "a')") 39 refl refl refl)

-- `@a`, `#a` and `#1`
an_at_keyword : IsTokenText [] kind.AtKeyword (codes "@a")
an_at_keyword = at_keyword (codes "a") (letter_ident 97 [] refl)

an_id : IsTokenText [] kind.IdHash (codes "#a")
an_id = id_hash (codes "a") (letter_ident 97 [] refl)

-- `"a\"b"`, and a string with a backslash and CR LF in it
a_string : IsTokenText [] kind.Str (codes "\"a\\\"b\"")
a_string =
    string 34 (codes "a\\\"b") refl
    (more (codes "a") (codes "\\\"b") (string_point 97 refl refl refl refl)
    (more (codes "\\\"") (codes "b") (string_escape (codes "\"") (of_code_point 34 refl refl refl refl)) (more (codes "b") [] (string_point 98 refl refl refl refl) nothing)))

a_long_string : IsTokenText [] kind.Str (39 ∷ backslash ∷ 13 ∷ 10 ∷ 39 ∷ [])
a_long_string = string 39 (backslash ∷ 13 ∷ 10 ∷ []) refl (more (backslash ∷ 13 ∷ 10 ∷ []) [] (string_line (13 ∷ 10 ∷ []) refl (two_lines refl)) nothing)

-- `URL( a )`
url_front : (rest : List ℕ) → IsUrlFront (codes "URL( a") (codes "a") rest
url_front rest = record {
  name = codes "URL";
  before = codes " ";
  joined = refl;
  named = url_name (codes "( a" ++ rest);
  blank = refl;
  row = more (codes "a") [] (url_point 97 refl refl refl refl refl) nothing;
}

a_url : IsTokenText [] kind.Url (codes "URL( a )")
a_url = url (codes "URL( a") (codes "a") (codes " ") (url_front (codes " )")) refl

-- numbers: `1`, `+.5`, `-1.5e+3`, `1E2`; a percentage, and a dimension; `1e3` is none
digits : (text : List ℕ) → 0 < length text → list_all is_ascii_digit text ≡ true → AreDigits text
digits text some all = record { some = some; each = all }

one_number : IsNumber (codes "1")
one_number = record {
  sign = [];
  decimal = codes "1";
  exponent = [];
  joined = refl;
  is_sign = no_sign refl;
  is_decimal = integer (digits (codes "1") (omega arith) refl);
  is_exponent = no_exponent refl;
}

a_fraction : IsTokenText [] kind.Number (codes "+.5")
a_fraction = number (codes "+.5") (record {
  sign = codes "+";
  decimal = codes ".5";
  exponent = [];
  joined = refl;
  is_sign = a_sign 43 refl refl;
  is_decimal = fraction (codes "5") refl (digits (codes "5") (omega arith) refl);
  is_exponent = no_exponent refl;
})

a_long_number : IsTokenText [] kind.Number (codes "-1.5e+3")
a_long_number = number (codes "-1.5e+3") (record {
  sign = codes "-";
  decimal = codes "1.5";
  exponent = codes "e+3";
  joined = refl;
  is_sign = a_sign 45 refl refl;
  is_decimal = both (codes "1") (codes "5") refl (digits (codes "1") (omega arith) refl) (digits (codes "5") (omega arith) refl);
  is_exponent = an_exponent 101 (codes "+") (codes "3") refl (inl refl) (a_sign 43 refl refl) (digits (codes "3") (omega arith) refl);
})

scientific : IsNumber (codes "1E2")
scientific = record {
  sign = [];
  decimal = codes "1";
  exponent = codes "E2";
  joined = refl;
  is_sign = no_sign refl;
  is_decimal = integer (digits (codes "1") (omega arith) refl);
  is_exponent = an_exponent 69 [] (codes "2") refl (inr refl) (no_sign refl) (digits (codes "2") (omega arith) refl);
}

a_percentage : IsTokenText [] kind.Percentage (codes "1%")
a_percentage = percentage (codes "1") one_number

no_dimension : IsWholeNumber (codes "1") (codes "E2") → ⊥
no_dimension whole = let short : 3 ≤ 1 = whole (codes "1E2") [] refl scientific in omega (arith, short)

-- `<!--`, `-->`, a sign, and what is by itself: a backslash only before a newline
opens : IsTokenText (codes "a") kind.CommentOpen (codes "<!--")
opens = comment_open

closes : IsTokenText (codes "a") kind.CommentClose (codes "-->")
closes = comment_close

a_sign_token : IsTokenText (codes "a") (kind.Sign 123) (codes "{")
a_sign_token = sign 123 refl

a_star : IsTokenText (codes "a") (kind.Delim 42) (codes "*")
a_star = delim 42 (record { no_white = refl; no_quote = refl; no_sign = refl; no_digit = refl; no_start = refl; lone = λ (e : 42 ≡ backslash). absurd (omega (arith, e)) })

a_backslash : IsTokenText (10 ∷ []) (kind.Delim 92) (codes "\\")
a_backslash = delim 92 (record { no_white = refl; no_quote = refl; no_sign = refl; no_digit = refl; no_start = refl; lone = λ _. refl })

-- a string that a newline breaks, and urls that hold what they may not: `URL( a b`, `URL( a(`, and a backslash and a newline
bad_string : IsBadString (34 ∷ 97 ∷ 10 ∷ []) (codes "b")
bad_string = broken 34 (codes "a") 10 refl refl (more (codes "a") [] (string_point 97 refl refl refl refl) nothing) refl

parted_url : IsBadUrl (codes "URL( a b") (codes ")")
parted_url = parted (codes "URL( a") (codes "a") (codes " ") 98 refl (url_front (codes " b)")) (omega arith) (omega arith) refl refl refl

forbidden_url : IsBadUrl (codes "URL( a(") (codes ")")
forbidden_url = forbidden (codes "URL( a") (codes "a") 40 refl (url_front (codes "()")) refl (λ (e : codes "a" ≡ []). absurd (cc (e)))

escaped_url : IsBadUrl (codes "URL( a" ++ backslash ∷ 10 ∷ []) []
escaped_url = bad_escape (codes "URL( a") (codes "a") 10 refl (url_front (backslash ∷ 10 ∷ [])) refl

-- the end in a comment, in a string, in a url, after a backslash in either, and in a name, a hash, an at-keyword and a dimension
cut_comment : IsCut (codes "/*/")
cut_comment = in_comment (codes "/") refl refl

cut_string : IsCut (codes "'a")
cut_string = in_string 39 (codes "a") refl refl (more (codes "a") [] (string_point 97 refl refl refl refl) nothing)

cut_string_escape : IsCut (codes "'a\\")
cut_string_escape = in_string_escape 39 (codes "a") refl refl (more (codes "a") [] (string_point 97 refl refl refl refl) nothing)

cut_url : IsCut (codes "URL( a ")
cut_url = in_url (codes "URL( a") (codes "a") (codes " ") refl (url_front (codes " ")) refl

cut_url_escape : IsCut (codes "URL( a\\")
cut_url_escape = in_url_escape (codes "URL( a") (codes "a") refl (url_front (codes "\\"))

cut_ident : IsCut (codes "a\\")
cut_ident = in_ident (cut_longer (codes "a") refl (letter_ident 97 (codes "\\") refl))

cut_hash : IsCut (codes "#\\")
cut_hash = in_hash [] refl nothing

cut_at_keyword : IsCut (codes "@-\\")
cut_at_keyword = in_at_keyword (codes "-\\") refl (cut_dashed refl)

cut_dimension : IsCut (codes "1\\")
cut_dimension = in_dimension (codes "1") (codes "\\") refl one_number (alone refl) whole
  where
    whole : IsWholeNumber (codes "1") (codes "\\")
    whole longer rest e is =
        let one : number_len (codes "1\\") ≡ 1 = refl in
        omega (arith, (number_le longer rest is).0, ap number_len e, one)

-- of `1e3-5\` the number is `1e3`
no_cut_dimension : IsWholeNumber (codes "1") (codes "E2-5\\") → ⊥
no_cut_dimension whole = let short : 3 ≤ 1 = whole (codes "1E2") (codes "-5\\") refl scientific in omega (arith, short)

-- what an escaped name says: `\75 rl` is `url`; a backslash before a newline says nothing, and U+0000 is U+FFFD
says_url : Says (codes "\\75 rl") (codes "url")
unfolding encode_utf8
says_url = says_is (codes "\\75 rl") (codes "url") refl

says_joined : Says (97 ∷ backslash ∷ 10 ∷ 98 ∷ []) (codes "ab")
says_joined = says_is (97 ∷ backslash ∷ 10 ∷ 98 ∷ []) (codes "ab") refl

says_replaced : Says (0 ∷ []) (0xEF ∷ 0xBF ∷ 0xBD ∷ [])
unfolding encode_utf8
says_replaced = says_is (0 ∷ []) (0xEF ∷ 0xBF ∷ 0xBD ∷ []) refl
