-- With which bytes texts of each kind begin.
use Rattle.std.proofs.Common.{ℕ, ◌<◌, ◌≡◌, ◌⊎◌, inl, inr, Bool, true, false, not, ◌&&◌, ◌||◌, ◌==◌, List, [], ◌∷◌, ◌++◌, length, refl, sym, ap, ◌∙◌, arith}
use Rattle.std.specs.Char.{is_ascii_digit}
use Rattle.std.specs.List.{list_all}
use Rattle.std.proofs.lemmas.Bool.{and_parts, or_left, or_right}
use Rattle.css_model.specs.declared.token.TokenKind.{TokenKind}
use Rattle.css_model.specs.declared.token.TokenKind.TheVariants as kind
use Rattle.css_model.specs.Positions.Notation.{has_close}
use Rattle.css_model.specs.Text.Characters.{at_sign, backslash, dash, dot, hash, less_than, open_round, slash, star, is_plus_or_minus, is_sign, is_start, is_white}
use Rattle.css_model.specs.Text.TokenAt.{is_quote}
use Rattle.token_grammar.specs.Escapes.{IsEscape}
use Rattle.token_grammar.specs.Escapes.IsEscape.{of_digits, of_code_point}
use Rattle.token_grammar.specs.Flaws.{IsBadString, IsBadUrl, IsCut, IsCutIdent}
use Rattle.token_grammar.specs.Flaws.IsBadString.{broken}
use Rattle.token_grammar.specs.Flaws.IsBadUrl.{forbidden, parted, escape as bad_escape}
use Rattle.token_grammar.specs.Flaws.IsCut.{in_comment, in_string, in_string_escape, in_url, in_url_escape, in_hash, in_at_keyword, in_ident, in_dimension}
use Rattle.token_grammar.specs.Flaws.IsCutIdent.{alone, dashed as cut_dashed, longer}
use Rattle.token_grammar.specs.Longest.{Answer, IsTaken}
use Rattle.token_grammar.specs.Longest.IsTaken.{token, comment, bad_string, bad_url, cut}
use Rattle.token_grammar.specs.Names.{IsIdent, IsNameStart}
use Rattle.token_grammar.specs.Names.IsIdent.{plain, dashed, dashes}
use Rattle.token_grammar.specs.Names.IsNameStart.{code_point, escape}
use Rattle.token_grammar.specs.Numbers.{IsDecimal, IsNumber, IsSign}
use Rattle.token_grammar.specs.Numbers.IsDecimal.{integer, fraction, both}
use Rattle.token_grammar.specs.Numbers.IsSign.{nothing, one}
use Rattle.token_grammar.specs.Rows.{AreDigits, AreWhite}
use Rattle.token_grammar.specs.TokenTexts.{IsDelim, IsTokenText, IsUrlFront}
use Rattle.token_grammar.specs.TokenTexts.IsCommentText.{closed}
use Rattle.token_grammar.specs.TokenTexts.IsTokenText.{white, string, id_hash, other_hash, number, percentage, dimension, comment_open, comment_close, at_keyword, ident, function, url, sign, delim}

abbrev pub begins_number : ℕ → Bool
begins_number c = is_plus_or_minus c || (is_ascii_digit c || c == dot)

abbrev pub begins_ident : ℕ → Bool
begins_ident c = is_start c || (c == backslash || c == dash)

abbrev pub begins_delim : ℕ → Bool
begins_delim c = not (is_white c) && (not (is_quote c) && (not (is_sign c) && (not (is_ascii_digit c) && not (is_start c))))

-- with what a token begins
abbrev pub kind_begins : TokenKind → ℕ → Bool
kind_begins kind.White c = is_white c
kind_begins kind.Str c = is_quote c
kind_begins kind.IdHash c = c == hash
kind_begins kind.Hash c = c == hash
kind_begins kind.Number c = begins_number c
kind_begins kind.Percentage c = begins_number c
kind_begins kind.Dimension c = begins_number c
kind_begins kind.CommentOpen c = c == less_than
kind_begins kind.CommentClose c = c == dash
kind_begins kind.AtKeyword c = c == at_sign
kind_begins kind.Ident c = begins_ident c
kind_begins kind.Function c = begins_ident c
kind_begins kind.Url c = begins_ident c
kind_begins (kind.Sign d) c = is_sign c
kind_begins (kind.Delim d) c = begins_delim c

-- with what a text that lacks its end begins, but for a comment
abbrev pub cut_begins : ℕ → Bool
cut_begins c = is_quote c || (begins_number c || (begins_ident c || (c == hash || c == at_sign)))

-- a text has a first byte, which passes a test
pub record FirstIs (test : ℕ → Bool) (text : List ℕ) : Type 0 where
  pub first : ℕ
  pub later : List ℕ
  pub is : text ≡ first ∷ later
  pub passes : test first ≡ true

pub first_at : (test : ℕ → Bool) (text : List ℕ) (c : ℕ) (cs : List ℕ) → FirstIs test text → text ≡ c ∷ cs → test c ≡ true
first_at test text c cs f e =
    let lists : f.first ∷ f.later ≡ c ∷ cs = sym f.is ∙ e in
    let same : f.first ≡ c = cc (lists) in
    ap test (sym same) ∙ f.passes

pub first_front : (test : ℕ → Bool) (front rest text : List ℕ) → text ≡ front ++ rest → FirstIs test front → FirstIs test text
first_front test front rest text e f = record { first = f.first; later = f.later ++ rest; is = e ∙ ap (λ (t : List ℕ). t ++ rest) f.is; passes = f.passes }

pub first_with : (p q : ℕ → Bool) (text : List ℕ) → ((c : ℕ) → p c ≡ true → q c ≡ true) → FirstIs p text → FirstIs q text
first_with p q text h f = record { first = f.first; later = f.later; is = f.is; passes = h f.first f.passes }

-- a text that is written out from its first byte
pub first_of : (test : ℕ → Bool) (c : ℕ) (cs text : List ℕ) → text ≡ c ∷ cs → test c ≡ true → FirstIs test text
first_of test c cs text e passes = record { first = c; later = cs; is = e; passes = passes }

pub escape_first : (said text rest : List ℕ) → IsEscape said text rest → FirstIs (λ c. c == backslash) text
escape_first said text rest (of_digits digits blank e are is says) = first_of (λ c. c == backslash) backslash (digits ++ blank) text e refl
escape_first said text rest (of_code_point c e line hex says) = first_of (λ c. c == backslash) backslash (c ∷ []) text e refl

start_ident : (c : ℕ) → is_start c ≡ true → begins_ident c ≡ true
start_ident c is = or_left (is_start c) (c == backslash || c == dash) is

backslash_ident : (c : ℕ) → (c == backslash) ≡ true → begins_ident c ≡ true
backslash_ident c is = or_right (is_start c) (c == backslash || c == dash) (or_left (c == backslash) (c == dash) is)

start_first : (text rest : List ℕ) → IsNameStart text rest → FirstIs begins_ident text
start_first text rest (code_point c e is) = first_of begins_ident c [] text e (start_ident c is)
start_first text rest (escape said is) = first_with (λ c. c == backslash) begins_ident text backslash_ident (escape_first said text rest is)

pub ident_first : (text rest : List ℕ) → IsIdent text rest → FirstIs begins_ident text
ident_first text rest (plain start others e is row) = first_front begins_ident start others text e (start_first start (others ++ rest) is)
ident_first text rest (dashed start others e is row) = first_of begins_ident dash (start ++ others) text e refl
ident_first text rest (dashes others e row) = first_of begins_ident dash (dash ∷ others) text e refl

digits_first : (text : List ℕ) → AreDigits text → FirstIs begins_number text
digits_first [] are = absurd (omega (arith, are.some))
digits_first (c ∷ cs) are =
    let digit = (and_parts (is_ascii_digit c) (list_all is_ascii_digit cs) are.each).0 in
    first_of begins_number c cs (c ∷ cs) refl (or_right (is_plus_or_minus c) (is_ascii_digit c || c == dot) (or_left (is_ascii_digit c) (c == dot) digit))

decimal_first : (text : List ℕ) → IsDecimal text → FirstIs begins_number text
decimal_first text (integer are) = digits_first text are
decimal_first text (fraction digits e are) = first_of begins_number dot digits text e refl
decimal_first text (both whole digits e are more) = first_front begins_number whole (dot ∷ digits) text e (digits_first whole are)

pub number_first : (text : List ℕ) → IsNumber text → FirstIs begins_number text
number_first text n = by n.sign n.is_sign n.joined
  where
    by : (front : List ℕ) → IsSign front → text ≡ front ++ (n.decimal ++ n.exponent) → FirstIs begins_number text
    by front (nothing e) joined =
        first_front begins_number n.decimal n.exponent text (joined ∙ ap (λ (s : List ℕ). s ++ (n.decimal ++ n.exponent)) e) (decimal_first n.decimal n.is_decimal)
    by front (one c e is) joined =
        first_of begins_number c (n.decimal ++ n.exponent) text (joined ∙ ap (λ (s : List ℕ). s ++ (n.decimal ++ n.exponent)) e) (or_left (is_plus_or_minus c) (is_ascii_digit c || c == dot) is)

pub url_first : (front inside rest : List ℕ) → IsUrlFront front inside rest → FirstIs begins_ident front
url_first front inside rest u =
    first_front begins_ident u.name (open_round ∷ (u.before ++ inside)) front u.joined (ident_first u.name (open_round ∷ (u.before ++ (inside ++ rest))) u.named.ident)

white_first : (text : List ℕ) → 0 < length text → AreWhite text → FirstIs is_white text
white_first [] some all = absurd (omega (arith, some))
white_first (c ∷ cs) some all = first_of is_white c cs (c ∷ cs) refl (and_parts (is_white c) (list_all is_white cs) all).0

delim_first : (c : ℕ) (rest : List ℕ) → IsDelim c rest → begins_delim c ≡ true
delim_first c rest is = rw (is.no_white, is.no_quote, is.no_sign, is.no_digit, is.no_start) refl

pub token_first : (rest : List ℕ) (k : TokenKind) (text : List ℕ) → IsTokenText rest k text → FirstIs (kind_begins k) text
token_first rest k text (white front some all) = white_first front some all
token_first rest k text (string quote inside is row) = first_of is_quote quote (inside ++ quote ∷ []) (quote ∷ (inside ++ quote ∷ [])) refl is
token_first rest k text (id_hash name is) = first_of (λ c. c == hash) hash name (hash ∷ name) refl refl
token_first rest k text (other_hash name some row none) = first_of (λ c. c == hash) hash name (hash ∷ name) refl refl
token_first rest k text (number front is) = number_first front is
token_first rest k text (percentage front is) = first_front begins_number front (37 ∷ []) (front ++ 37 ∷ []) refl (number_first front is)
token_first rest k text (dimension front unit is named whole) = first_front begins_number front unit (front ++ unit) refl (number_first front is)
token_first rest k text comment_open = first_of (λ c. c == less_than) less_than (33 ∷ 45 ∷ 45 ∷ []) (60 ∷ 33 ∷ 45 ∷ 45 ∷ []) refl refl
token_first rest k text comment_close = first_of (λ c. c == dash) dash (45 ∷ 62 ∷ []) (45 ∷ 45 ∷ 62 ∷ []) refl refl
token_first rest k text (at_keyword name is) = first_of (λ c. c == at_sign) at_sign name (at_sign ∷ name) refl refl
token_first rest k text (ident front is) = ident_first front rest is
token_first rest k text (function name is no_url) =
    first_front begins_ident name (open_round ∷ []) (name ++ open_round ∷ []) refl (ident_first name (open_round ∷ rest) is)
token_first rest k text (url front inside after u all) =
    first_front begins_ident front (after ++ 41 ∷ []) (front ++ (after ++ 41 ∷ [])) refl (url_first front inside (after ++ 41 ∷ rest) u)
token_first rest k text (sign c is) = first_of is_sign c [] (c ∷ []) refl is
token_first rest k text (delim c is) = first_of begins_delim c [] (c ∷ []) refl (delim_first c rest is)

pub bad_string_first : (text rest : List ℕ) → IsBadString text rest → FirstIs is_quote text
bad_string_first text rest (broken quote inside c e is row line) = first_of is_quote quote (inside ++ c ∷ []) text e is

pub bad_url_first : (text rest : List ℕ) → IsBadUrl text rest → FirstIs begins_ident text
bad_url_first text rest (forbidden front inside c e u is open_first) = first_front begins_ident front (c ∷ []) text e (url_first front inside (c ∷ rest) u)
bad_url_first text rest (parted front inside after c e u some apart all other last) =
    first_front begins_ident front (after ++ c ∷ []) text e (url_first front inside (after ++ c ∷ rest) u)
bad_url_first text rest (bad_escape front inside c e u line) =
    first_front begins_ident front (backslash ∷ c ∷ []) text e (url_first front inside (backslash ∷ c ∷ rest) u)

pub cut_ident_first : (text : List ℕ) → IsCutIdent text → FirstIs begins_ident text
cut_ident_first text (alone e) = first_of begins_ident backslash [] text e refl
cut_ident_first text (cut_dashed e) = first_of begins_ident dash (backslash ∷ []) text e refl
cut_ident_first text (longer name e is) = first_front begins_ident name (backslash ∷ []) text e (ident_first name (backslash ∷ []) is)

-- a comment that lacks its end
pub record IsCutComment (text : List ℕ) : Type 0 where
  pub inside : List ℕ
  pub joined : text ≡ slash ∷ star ∷ inside
  pub open_ended : has_close inside ≡ false

quote_cut : (c : ℕ) → is_quote c ≡ true → cut_begins c ≡ true
quote_cut c is = or_left (is_quote c) (begins_number c || (begins_ident c || (c == hash || c == at_sign))) is

number_cut : (c : ℕ) → begins_number c ≡ true → cut_begins c ≡ true
number_cut c is =
    or_right (is_quote c) (begins_number c || (begins_ident c || (c == hash || c == at_sign)))
    (or_left (begins_number c) (begins_ident c || (c == hash || c == at_sign)) is)

ident_cut : (c : ℕ) → begins_ident c ≡ true → cut_begins c ≡ true
ident_cut c is =
    or_right (is_quote c) (begins_number c || (begins_ident c || (c == hash || c == at_sign)))
    (or_right (begins_number c) (begins_ident c || (c == hash || c == at_sign)) (or_left (begins_ident c) (c == hash || c == at_sign) is))

pub cut_first : (text : List ℕ) → IsCut text → IsCutComment text ⊎ FirstIs cut_begins text
cut_first text (in_comment inside e none) = inl (record { inside = inside; joined = e; open_ended = none })
cut_first text (in_string quote inside e is row) = inr (first_of cut_begins quote inside text e (quote_cut quote is))
cut_first text (in_string_escape quote inside e is row) = inr (first_of cut_begins quote (inside ++ backslash ∷ []) text e (quote_cut quote is))
cut_first text (in_url front inside after e u all) =
    inr (first_with begins_ident cut_begins text ident_cut (first_front begins_ident front after text e (url_first front inside after u)))
cut_first text (in_url_escape front inside e u) =
    inr (first_with begins_ident cut_begins text ident_cut (first_front begins_ident front (backslash ∷ []) text e (url_first front inside (backslash ∷ []) u)))
cut_first text (in_hash row e are) = inr (first_of cut_begins hash (row ++ backslash ∷ []) text e refl)
cut_first text (in_at_keyword name e is) = inr (first_of cut_begins at_sign name text e refl)
cut_first text (in_ident is) = inr (first_with begins_ident cut_begins text ident_cut (cut_ident_first text is))
cut_first text (in_dimension front unit e is named whole) =
    inr (first_with begins_number cut_begins text number_cut (first_front begins_number front unit text e (number_first front is)))

pub some_of : (test : ℕ → Bool) (text : List ℕ) → FirstIs test text → 0 < length text
some_of test text f = omega (arith, ap (λ (t : List ℕ). length t) f.is)

-- what can be taken has a byte
pub taken_some : (text rest : List ℕ) (answer : Answer) → IsTaken text rest answer → 0 < length text
taken_some text rest answer (token k is) = some_of (kind_begins k) text (token_first rest k text is)
taken_some text rest answer (comment (closed inside e none)) = omega (arith, ap (λ (t : List ℕ). length t) e)
taken_some text rest answer (bad_string is) = some_of is_quote text (bad_string_first text rest is)
taken_some text rest answer (bad_url is) = some_of begins_ident text (bad_url_first text rest is)
taken_some text rest answer (cut is end) = by (cut_first text is)
  where
    by : IsCutComment text ⊎ FirstIs cut_begins text → 0 < length text
    by (inl c) = omega (arith, ap (λ (t : List ℕ). length t) c.joined)
    by (inr f) = some_of cut_begins text f
