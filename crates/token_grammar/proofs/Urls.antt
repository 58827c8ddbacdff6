-- Texts that begin with the name `url` and `(`: a url, what is wrong with one, or a function.
use Rattle.std.proofs.Common.{ℕ, suc, ◌+◌, ◌<◌, ◌≤◌, ◌≡◌, ◌⊎◌, inl, inr, Bool, true, false, cond, ◌&&◌, ◌||◌, ◌==◌, List, [], ◌∷◌, ◌++◌, Result, Ok, Err, Some, length, drop, refl, sym, ap, ◌∙◌, subst, arith, append_assoc}
use Rattle.std.specs.Prelude.{codes, map}
use Rattle.std.specs.Char.{is_ascii_hexdigit, to_ascii_lowercase}
use Rattle.std.specs.List.{list_all}
use Rattle.std.proofs.lemmas.Bool.{and_parts, and_right, cond-false, eqb-true, false≢true, false_from_ne_true, ne_eqb, or_from, or_parts, or_right, true≢false}
use Rattle.std.proofs.lemmas.List.{append-nil, drop_all, drop_at, length-append}
use Rattle.std.proofs.lemmas.Slice.Eq.{bytes_eq-Decides}
use Rattle.css_model.specs.declared.token.TokenFlaw.{TokenFlaw}
use Rattle.css_model.specs.declared.token.TokenFlaw.TheVariants as flaw
use Rattle.css_model.specs.declared.token.TokenKind.TheVariants as kind
use Rattle.css_model.specs.Text.Characters.{backslash, close_round, open_round, begins, first_passes, is_bad_in_url, is_newline, is_non_printable, is_white}
use Rattle.css_model.specs.Text.Names.{is_url, unescaped}
use Rattle.css_model.specs.Text.Runs.{run}
use Rattle.css_model.specs.Text.TokenAt.{Shape, after_white, done, is_quote, opened_shape, rule_at, url_end, url_shape, within}
use Rattle.css_model.specs.Text.Units.{escape_after, hex_rest, name_start, url_unit, white_unit}
use Rattle.css_tokens.proofs.ForCallers.{run_none}
use Rattle.token_laws.proofs.ForCallers.{quote_is, white_is}
use Rattle.token_grammar.specs.Flaws.IsBadUrl.{forbidden, parted, escape as bad_escape}
use Rattle.token_grammar.specs.Flaws.IsCut.{in_url, in_url_escape}
use Rattle.token_grammar.proofs.ReadRight.{IsReadRight, answer_of}
use Rattle.token_grammar.specs.Longest.{Answer, IsTaken}
use Rattle.token_grammar.specs.Longest.IsTaken.{token, bad_url, cut}
use Rattle.token_grammar.specs.Names.{IsIdent, IsUrlName}
use Rattle.token_grammar.specs.Rows.{AreWhite, IsRowOf}
use Rattle.token_grammar.specs.Rows.IsRowOf.{nothing, more as one_more}
use Rattle.token_grammar.specs.TokenTexts.{IsBeforeQuote, IsUrlFront, IsUrlPart}
use Rattle.token_grammar.specs.TokenTexts.IsBeforeQuote.{quoted}
use Rattle.token_grammar.specs.TokenTexts.IsTokenText.{url}
use Rattle.token_grammar.specs.TokenTexts.IsUrlPart.{code_point, escape}
use Rattle.token_grammar.proofs.Decided.{Decides, IsWorse, read_right, same_parts, within_fits}
use Rattle.token_grammar.proofs.Idents.{IdentHere, escape_byte, escape_fits, escape_piece}
use Rattle.token_grammar.proofs.OtherTexts.{UrlEnd, UrlText}
use Rattle.token_grammar.proofs.OtherTexts.UrlEnd.{closes, ends, ends_escape, spoils, parts, breaks}
use Rattle.token_grammar.proofs.Pieces.{Matches, PieceHere, PieceLen, RowHere, row_here, row_len, row_stops}
use Rattle.token_grammar.proofs.Unescaped.{EscapeHere, escape_len, says_is, says_unescaped}
use Rattle.token_grammar.proofs.WhiteSpace.{FrontWhite, front_white, run_white}
use Rattle.token_grammar.proofs.Words.{Word, WordText, delim_short, function_opened, function_right, name_same, close_absent, no_cut, opened_rule, name_no_longer, taken_case, url_opened}
use Rattle.token_grammar.proofs.Words.WordText.{w_close, w_ident, w_function, w_url, w_cut, w_delim}

-- ---- the name `url`

pub url_named : (name rest : List ℕ) → IsIdent name rest → is_url name ≡ true → IsUrlName name rest
url_named name rest ident is = record {
  ident = ident;
  said = unescaped name;
  says = says_is name (unescaped name) refl;
  is = (bytes_eq-Decides (map to_ascii_lowercase (unescaped name)) (map to_ascii_lowercase (codes "url"))).0 is;
}

pub named_url : (name rest : List ℕ) → IsUrlName name rest → is_url name ≡ true
named_url name rest u =
    let said : unescaped name ≡ u.said = says_unescaped name u.said u.says in
    let same : map to_ascii_lowercase (unescaped name) ≡ map to_ascii_lowercase (codes "url") = ap (λ (t : List ℕ). map to_ascii_lowercase t) said ∙ u.is in
    (bytes_eq-Decides (map to_ascii_lowercase (unescaped name)) (map to_ascii_lowercase (codes "url"))).1 same

-- ---- white space and a quote

white_stops : (rest : List ℕ) → first_passes is_white rest ≡ false → white_unit rest ≡ 0
white_stops [] other = refl
white_stops (c ∷ cs) other = rw other refl

white_run : (blank rest : List ℕ) → AreWhite blank → first_passes is_white rest ≡ false → run white_unit (blank ++ rest) ≡ length blank
white_run [] rest all other = run_none white_unit rest (white_stops rest other)
white_run (c ∷ cs) rest all other =
    let two = and_parts (is_white c) (list_all is_white cs) all in
    run_white c (cs ++ rest) two.0 ∙ ap suc (white_run cs rest two.1 other)

white_tail : (blank rest : List ℕ) → AreWhite blank → first_passes is_white rest ≡ false → after_white (blank ++ rest) ≡ rest
white_tail blank rest all other = drop_at blank rest (run white_unit (blank ++ rest)) (sym (white_run blank rest all other))

-- a quote follows white space
pub before_quote : (rest : List ℕ) → first_passes is_quote (after_white rest) ≡ true → IsBeforeQuote rest
before_quote rest is = of (front_white rest)
  where
    of : FrontWhite rest → IsBeforeQuote rest
    of f = by f.rest f.joined (ap (first_passes is_quote) (sym tail) ∙ is)
      where
        tail : after_white rest ≡ f.rest
        tail = ap after_white f.joined ∙ white_tail f.front f.rest f.all f.ends

        by : (more : List ℕ) → rest ≡ f.front ++ more → first_passes is_quote more ≡ true → IsBeforeQuote rest
        by [] joined passes = absurd (false≢true passes)
        by (c ∷ cs) joined passes = quoted f.front cs c joined f.all passes

pub quote_before : (rest : List ℕ) → IsBeforeQuote rest → first_passes is_quote (after_white rest) ≡ true
quote_before rest (quoted blank more c e all is) =
    let other : is_white c ≡ false = quote_is (λ (c : ℕ). is_white c ≡ false) refl refl c is in
    ap (first_passes is_quote) (ap after_white e ∙ white_tail blank (c ∷ more) all other) ∙ is

-- ---- the parts of urls

-- a byte at which no part of a url begins, but for a backslash
abbrev stops : ℕ → Bool
stops c = is_white c || c == close_round || is_bad_in_url c

escape_stops : (d : ℕ) (ds : List ℕ) → is_newline d ≡ true → url_unit (backslash ∷ d ∷ ds) ≡ 0
escape_stops d ds line = rw line refl

stop_none : (c : ℕ) (cs : List ℕ) → stops c ≡ true → url_unit (c ∷ cs) ≡ 0
stop_none c cs is = rw is refl

url_lens : (piece rest : List ℕ) → IsUrlPart piece rest → PieceLen url_unit piece rest
url_lens piece rest (code_point c e no_white no_close no_slash no_bad) = rw e (record { some = omega arith; len = one })
  where
    one : url_unit (c ∷ rest) ≡ 1
    one =
        let go : stops c ≡ false = or_from (is_white c || c == close_round) (is_bad_in_url c) (or_from (is_white c) (c == close_round) no_white no_close) no_bad in
        rw (go, no_slash) refl
url_lens piece rest (escape said is) = let len = escape_len said piece rest is in rw len.is (record { some = omega arith; len = len.len })

url_here : (text : List ℕ) → 0 < url_unit text → url_unit text ≤ length text → PieceHere IsUrlPart text
url_here [] some fits = absurd (omega (arith, some))
url_here (c ∷ cs) some fits = choose (stops c) refl (c == backslash) refl
  where
    of : (cs : List ℕ) → EscapeHere (backslash ∷ cs) → PieceHere IsUrlPart (backslash ∷ cs)
    of cs f = record { piece = f.front; rest = f.rest; joined = f.joined; is = escape f.said f.is; some = escape_byte (backslash ∷ cs) f }

    choose : (b : Bool) → stops c ≡ b → (s : Bool) → (c == backslash) ≡ s → PieceHere IsUrlPart (c ∷ cs)
    choose true is s slashed = absurd (omega (arith, some, stop_none c cs is))
    choose false is true slashed =
        let same = eqb-true c backslash slashed in
        let unit : url_unit (c ∷ cs) ≡ escape_after cs = rw (is, slashed) refl in
        subst (λ (c : ℕ). PieceHere IsUrlPart (c ∷ cs)) (sym same) (of cs (escape_piece cs (omega (arith, some, unit)) (omega (arith, fits, unit))))
    choose false is false slashed =
        let last = or_parts (is_white c || c == close_round) (is_bad_in_url c) is in
        let first = or_parts (is_white c) (c == close_round) last.0 in
        record { piece = c ∷ []; rest = cs; joined = refl; is = code_point c refl first.0 first.1 slashed last.1; some = omega arith }

urls : Matches url_unit IsUrlPart
urls = record { none = refl; lens = url_lens; here = url_here }

-- only a backslash at the end is a part of a url that is longer than what is left
long_url : (rest : List ℕ) → length rest < url_unit rest → rest ≡ backslash ∷ []
long_url [] long = absurd (omega (arith, long))
long_url (c ∷ cs) long = choose (stops c) refl (c == backslash) refl
  where
    at_backslash : (cs : List ℕ) → length (backslash ∷ cs) < escape_after cs → backslash ∷ cs ≡ backslash ∷ []
    at_backslash [] long = refl
    at_backslash (d ∷ ds) long = absurd (omega (arith, long, escape_fits d ds))

    choose : (b : Bool) → stops c ≡ b → (s : Bool) → (c == backslash) ≡ s → c ∷ cs ≡ backslash ∷ []
    choose true is s slashed = absurd (omega (arith, long, stop_none c cs is))
    choose false is true slashed =
        let same = eqb-true c backslash slashed in
        let unit : url_unit (c ∷ cs) ≡ escape_after cs = rw (is, slashed) refl in
        ap (λ (c : ℕ). c ∷ cs) same ∙ at_backslash cs (omega (arith, long, unit))
    choose false is false slashed = let unit : url_unit (c ∷ cs) ≡ 1 = rw (is, slashed) refl in absurd (omega (arith, long, unit))

-- where a backslash begins no part of a url, a newline follows it
no_escape_line : (cs : List ℕ) → url_unit (backslash ∷ cs) ≡ 0 → first_passes is_newline cs ≡ true
no_escape_line [] none = absurd (omega (arith, none))
no_escape_line (d ∷ ds) none = by (is_newline d) refl
  where
    two : (b : Bool) (n : ℕ) → cond b (2 + n) 2 ≡ 0 → ⊥
    two true n e = omega (arith, e)
    two false n e = omega (arith, e)

    by : (b : Bool) → is_newline d ≡ b → is_newline d ≡ true
    by true line = line
    by false line = absurd (two (is_ascii_hexdigit d) (hex_rest 5 ds) (rw line at none))

-- with what the inside of a url begins
record UrlFirst (inside : List ℕ) : Type 0 where
  first : ℕ
  later : List ℕ
  is : inside ≡ first ∷ later
  no_white : is_white first ≡ false
  no_quote : is_quote first ≡ false

part_first : (piece rest : List ℕ) → IsUrlPart piece rest → UrlFirst piece
part_first piece rest (code_point c e no_white no_close no_slash no_bad) = record {
  first = c;
  later = [];
  is = e;
  no_white = no_white;
  no_quote = (or_parts (is_quote c) (c == open_round) (or_parts (is_quote c || c == open_round) (is_non_printable c) no_bad).0).0;
}
part_first piece rest (escape said is) =
    let len = escape_len said piece rest is in
    record { first = backslash; later = len.first ∷ len.more; is = len.is; no_white = refl; no_quote = refl }

row_first : (rest inside : List ℕ) → IsRowOf IsUrlPart rest inside → (inside ≡ []) ⊎ UrlFirst inside
row_first rest inside nothing = inl refl
row_first rest inside (one_more piece others is row) = inr (of (part_first piece (others ++ rest) is))
  where
    of : UrlFirst piece → UrlFirst (piece ++ others)
    of f = record { first = f.first; later = f.later ++ others; is = ap (λ (t : List ℕ). t ++ others) f.is; no_white = f.no_white; no_quote = f.no_quote }

-- what ends a url is no white space
bad_no_white : (c : ℕ) → is_bad_in_url c ≡ true → is_white c ≡ false
bad_no_white c bad = false_from_ne_true _ (λ is. true≢false (sym bad ∙ white_is (λ (c : ℕ). is_bad_in_url c ≡ false) refl refl refl refl refl c is))

end_no_white : (inside after more tail : List ℕ) (another : Answer) (bytes : ℕ) → UrlEnd inside after more tail another bytes → first_passes is_white tail ≡ false
end_no_white inside after more tail another bytes closes = refl
end_no_white inside after more tail another bytes (ends end) = refl
end_no_white inside after more tail another bytes (ends_escape e end) = refl
end_no_white inside after more tail another bytes (spoils c e bad first) = bad_no_white c bad
end_no_white inside after more tail another bytes (parts c some apart no_white no_close) = no_white
end_no_white inside after more tail another bytes (breaks c e line) = refl

-- nor, where nothing is inside, a quote
end_no_quote : (after more tail : List ℕ) (another : Answer) (bytes : ℕ) → UrlEnd [] after more tail another bytes → first_passes is_quote tail ≡ false
end_no_quote after more tail another bytes closes = refl
end_no_quote after more tail another bytes (ends end) = refl
end_no_quote after more tail another bytes (ends_escape e end) = refl
end_no_quote after more tail another bytes (spoils c e bad first) = first refl
end_no_quote after more tail another bytes (parts c some apart no_white no_close) = absurd (omega (arith, some))
end_no_quote after more tail another bytes (breaks c e line) = refl

-- the inside and what follows it begin with neither
body_first : (inside after more tail : List ℕ) (another : Answer) (bytes : ℕ) → IsRowOf IsUrlPart (after ++ tail) inside → (inside ≡ [] → after ≡ [])
    → UrlEnd inside after more tail another bytes → (first_passes is_white (inside ++ (after ++ tail)) ≡ false) × (first_passes is_quote (inside ++ (after ++ tail)) ≡ false)
body_first inside after more tail another bytes row none ending = by (row_first (after ++ tail) inside row)
  where
    by : (inside ≡ []) ⊎ UrlFirst inside → (first_passes is_white (inside ++ (after ++ tail)) ≡ false) × (first_passes is_quote (inside ++ (after ++ tail)) ≡ false)
    by (inl e) =
        let whole : inside ++ (after ++ tail) ≡ tail = ap (λ (t : List ℕ). t ++ (after ++ tail)) e ∙ ap (λ (t : List ℕ). t ++ tail) (none e) in
        let there = subst (λ (t : List ℕ). UrlEnd t after more tail another bytes) e ending in
        (ap (first_passes is_white) whole ∙ end_no_white inside after more tail another bytes ending, ap (first_passes is_quote) whole ∙ end_no_quote after more tail another bytes there)
    by (inr f) =
        let whole : inside ++ (after ++ tail) ≡ f.first ∷ (f.later ++ (after ++ tail)) = ap (λ (t : List ℕ). t ++ (after ++ tail)) f.is in
        (ap (first_passes is_white) whole ∙ f.no_white, ap (first_passes is_quote) whole ∙ f.no_quote)

-- ---- what the rule of urls reads

-- what follows the parts, and how many bytes come before what ends a url
abbrev behind_parts : List ℕ → List ℕ
behind_parts inner = drop (run url_unit (after_white inner)) (after_white inner)

abbrev url_len : ℕ → List ℕ → ℕ
url_len n inner = n + run white_unit inner + run url_unit (after_white inner) + run white_unit (behind_parts inner)

abbrev url_read : ℕ → List ℕ → Result Shape TokenFlaw
url_read n inner = url_shape (n + run white_unit inner) (after_white inner)

url_read_is : (n : ℕ) (inner : List ℕ) → url_read n inner ≡ url_end (url_len n inner) (after_white (behind_parts inner))
url_read_is n inner = refl

-- how many bytes what is wrong takes
abbrev bad_bytes : ℕ → List ℕ → ℕ
bad_bytes white rest = cond (begins backslash rest && white == 0) 2 1

-- how many bytes the text takes that this is read of
abbrev url_size : ℕ → ℕ → List ℕ → Result Shape TokenFlaw → ℕ
url_size n total inner (Ok s) = s.1
url_size n total inner (Err flaw.BadString) = 0
url_size n total inner (Err flaw.BadUrl) = url_len n inner + bad_bytes (run white_unit (behind_parts inner)) (after_white (behind_parts inner))
url_size n total inner (Err flaw.EndInside) = total

record AsUrl (n total : ℕ) (inner other : List ℕ) (another : Answer) : Type 0 where
  answer : another ≡ answer_of (url_read n inner)
  size : length other ≡ url_size n total inner (url_read n inner)

as_shape : (n total : ℕ) (inner other : List ℕ) (r : Result Shape TokenFlaw) → url_read n inner ≡ r → length other ≡ url_size n total inner r → AsUrl n total inner other (answer_of r)
as_shape n total inner other r is size = record { answer = ap answer_of (sym is); size = size ∙ ap (url_size n total inner) (sym is) }

-- the lengths of the parts of a url
record UrlParts (n : ℕ) (inner before inside after tail : List ℕ) : Type 0 where
  len : url_len n inner ≡ n + (length before + (length inside + length after))
  white : run white_unit (behind_parts inner) ≡ length after
  last : after_white (behind_parts inner) ≡ tail

url_parts : (n : ℕ) (inner before inside after tail : List ℕ) → inner ≡ before ++ (inside ++ (after ++ tail)) → AreWhite before → IsRowOf IsUrlPart (after ++ tail) inside → AreWhite after
    → first_passes is_white (inside ++ (after ++ tail)) ≡ false → url_unit (after ++ tail) ≡ 0 → first_passes is_white tail ≡ false → UrlParts n inner before inside after tail
url_parts n inner before inside after tail joined blank row blank_after no_white none no_more =
    let body = inside ++ (after ++ tail) in
    let white : run white_unit inner ≡ length before = ap (λ (t : List ℕ). run white_unit t) joined ∙ white_run before body blank no_white in
    let there : after_white inner ≡ body = ap after_white joined ∙ white_tail before body blank no_white in
    let units : run url_unit (after_white inner) ≡ length inside = ap (λ (t : List ℕ). run url_unit t) there ∙ row_stops url_unit IsUrlPart urls (after ++ tail) inside row none in
    let behind : behind_parts inner ≡ after ++ tail =
    ap (λ (t : List ℕ). drop (run url_unit (after_white inner)) t) there ∙ drop_at inside (after ++ tail) (run url_unit (after_white inner)) (sym units) in
    let last_white : run white_unit (behind_parts inner) ≡ length after = ap (λ (t : List ℕ). run white_unit t) behind ∙ white_run after tail blank_after no_more in
    record {
      len = omega (arith, white, units, last_white);
      white = last_white;
      last = ap after_white behind ∙ white_tail after tail blank_after no_more;
    }

-- no part begins at what ends a url, unless a backslash comes before the end
end_stops : (inside after more tail : List ℕ) (another : Answer) (bytes : ℕ) → AreWhite after → UrlEnd inside after more tail another bytes
    → (url_unit (after ++ tail) ≡ 0) ⊎ ((after ≡ []) × (tail ≡ backslash ∷ []) × (more ≡ []) × (another ≡ Err flaw.EndInside))
end_stops inside (c ∷ cs) more tail another bytes all ending =
    let white = (and_parts (is_white c) (list_all is_white cs) all).0 in
    let stop : stops c ≡ true = rw white refl in
    inl (stop_none c (cs ++ tail) stop)
end_stops inside [] more tail another bytes all closes = inl refl
end_stops inside [] more tail another bytes all (ends end) = inl refl
end_stops inside [] more tail another bytes all (ends_escape e end) = inr (refl, refl, end, refl)
end_stops inside [] more tail another bytes all (spoils c e bad first) = inl (stop_none c more (or_right (is_white c || c == close_round) (is_bad_in_url c) bad))
end_stops inside [] more tail another bytes all (parts c some apart no_white no_close) = absurd (omega (arith, apart))
end_stops inside [] more tail another bytes all (breaks c e line) = inl (escape_stops c more line)

-- what ends no url is wrong
bad_end : (k c : ℕ) (more : List ℕ) → (c == close_round) ≡ false → url_end k (c ∷ more) ≡ Err flaw.BadUrl
bad_end k c more other =
    cond-false {A = Result Shape TokenFlaw} (c == close_round) (done kind.Url (k + 1)) (cond (suc (length more) == 0) (Err flaw.EndInside) (Err flaw.BadUrl)) other
    ∙ cond-false {A = Result Shape TokenFlaw} (suc (length more) == 0) (Err flaw.EndInside) (Err flaw.BadUrl) (ne_eqb (suc (length more)) 0 (λ e. absurd (omega (arith, e))))

bad_no_close : (c : ℕ) → is_bad_in_url c ≡ true → (c == close_round) ≡ false
bad_no_close c bad = ne_eqb c close_round (λ e. absurd (false≢true (ap is_bad_in_url (sym e) ∙ bad)))

bad_no_backslash : (c : ℕ) → is_bad_in_url c ≡ true → (c == backslash) ≡ false
bad_no_backslash c bad = ne_eqb c backslash (λ e. absurd (false≢true (ap is_bad_in_url (sym e) ∙ bad)))

-- a url that ends is read so
ended_as : (n total : ℕ) (inner other before inside after more tail : List ℕ) (another : Answer) (bytes : ℕ) → UrlEnd inside after more tail another bytes → UrlParts n inner before inside after tail
    → url_unit (after ++ tail) ≡ 0 → (more ≡ [] → length other ≡ total) → length other ≡ n + (length before + (length inside + (length after + bytes)))
    → AsUrl n total inner other another
ended_as n total inner other before inside after more tail another bytes closes p none whole size =
    let shape : url_read n inner ≡ done kind.Url (url_len n inner + 1) = ap (λ (t : List ℕ). url_end (url_len n inner) t) p.last in
    as_shape n total inner other (done kind.Url (url_len n inner + 1)) shape (omega (arith, size, p.len))
ended_as n total inner other before inside after more tail another bytes (ends end) p none whole size =
    let shape : url_read n inner ≡ Err flaw.EndInside = ap (λ (t : List ℕ). url_end (url_len n inner) t) p.last in
    as_shape n total inner other (Err flaw.EndInside) shape (whole end)
ended_as n total inner other before inside after more tail another bytes (ends_escape e end) p none whole size =
    let two : url_unit (after ++ backslash ∷ []) ≡ 2 = ap (λ (t : List ℕ). url_unit (t ++ backslash ∷ [])) e in
    absurd (omega (arith, none, two))
ended_as n total inner other before inside after more tail another bytes (spoils c e bad first) p none whole size =
    let shape : url_read n inner ≡ Err flaw.BadUrl = ap (λ (t : List ℕ). url_end (url_len n inner) t) p.last ∙ bad_end (url_len n inner) c more (bad_no_close c bad) in
    let blank : run white_unit (behind_parts inner) ≡ 0 = p.white ∙ ap (λ (t : List ℕ). length t) e in
    let apart = bad_no_backslash c bad in
    let one : bad_bytes 0 (c ∷ more) ≡ 1 = rw apart refl in
    let here : bad_bytes (run white_unit (behind_parts inner)) (after_white (behind_parts inner)) ≡ 1 =
    ap (λ (k : ℕ). bad_bytes k (after_white (behind_parts inner))) blank ∙ (ap (λ (t : List ℕ). bad_bytes 0 t) p.last ∙ one) in
    as_shape n total inner other (Err flaw.BadUrl) shape (omega (arith, size, p.len, here))
ended_as n total inner other before inside after more tail another bytes (parts c some apart no_white no_close) p none whole size =
    let shape : url_read n inner ≡ Err flaw.BadUrl = ap (λ (t : List ℕ). url_end (url_len n inner) t) p.last ∙ bad_end (url_len n inner) c more no_close in
    let blank : (run white_unit (behind_parts inner) == 0) ≡ false = ne_eqb (run white_unit (behind_parts inner)) 0 (λ e. absurd (omega (arith, e, p.white, apart))) in
    let here : bad_bytes (run white_unit (behind_parts inner)) (after_white (behind_parts inner)) ≡ 1 =
    cond-false {A = ℕ} (begins backslash (after_white (behind_parts inner)) && run white_unit (behind_parts inner) == 0) 2 1
    (and_right (begins backslash (after_white (behind_parts inner))) (run white_unit (behind_parts inner) == 0) blank) in
    as_shape n total inner other (Err flaw.BadUrl) shape (omega (arith, size, p.len, here))
ended_as n total inner other before inside after more tail another bytes (breaks c e line) p none whole size =
    let shape : url_read n inner ≡ Err flaw.BadUrl = ap (λ (t : List ℕ). url_end (url_len n inner) t) p.last ∙ bad_end (url_len n inner) backslash (c ∷ more) refl in
    let blank : run white_unit (behind_parts inner) ≡ 0 = p.white ∙ ap (λ (t : List ℕ). length t) e in
    let here : bad_bytes (run white_unit (behind_parts inner)) (after_white (behind_parts inner)) ≡ 2 =
    ap (λ (k : ℕ). bad_bytes k (after_white (behind_parts inner))) blank ∙ ap (λ (t : List ℕ). bad_bytes 0 t) p.last in
    as_shape n total inner other (Err flaw.BadUrl) shape (omega (arith, size, p.len, here))

-- a backslash at the end
escape_as : (n total : ℕ) (inner other before inside : List ℕ) → inner ≡ before ++ (inside ++ backslash ∷ []) → AreWhite before → IsRowOf IsUrlPart (backslash ∷ []) inside
    → first_passes is_white (inside ++ backslash ∷ []) ≡ false → length other ≡ total → AsUrl n total inner other (Err flaw.EndInside)
escape_as n total inner other before inside joined blank row no_white whole =
    let body = inside ++ backslash ∷ [] in
    let there : after_white inner ≡ body = ap after_white joined ∙ white_tail before body blank no_white in
    let two : run url_unit (backslash ∷ []) ≡ 2 = refl in
    let units : run url_unit (after_white inner) ≡ length inside + 2 =
    ap (λ (t : List ℕ). run url_unit t) there ∙ (row_len url_unit IsUrlPart urls (backslash ∷ []) inside row ∙ ap (λ (k : ℕ). length inside + k) two) in
    let long : length (after_white inner) ≡ length inside + 1 = ap (λ (t : List ℕ). length t) there ∙ length-append inside (backslash ∷ []) in
    let gone : behind_parts inner ≡ [] = drop_all (run url_unit (after_white inner)) (after_white inner) (omega (arith, units, long)) in
    let shape : url_read n inner ≡ Err flaw.EndInside = ap (λ (t : List ℕ). url_end (url_len n inner) (after_white t)) gone in
    as_shape n total inner other (Err flaw.EndInside) shape whole

-- every url text is what the rule of urls reads, and begins with no quote
url_as : (n : ℕ) (text inner other more : List ℕ) (another : Answer) (u : UrlText text other more another) → text ≡ other ++ more → suc (length u.name) ≡ n
    → inner ≡ u.before ++ (u.inside ++ (u.after ++ u.tail)) → AsUrl n (length text) inner other another
url_as n text inner other more another u joined start is =
    by (end_stops u.inside u.after more u.tail another u.bytes u.blank_after u.ending)
  where
    no_white : first_passes is_white (u.inside ++ (u.after ++ u.tail)) ≡ false
    no_white = (body_first u.inside u.after more u.tail another u.bytes u.row u.some u.ending).0

    whole : more ≡ [] → length other ≡ length text
    whole end = sym (ap (λ (t : List ℕ). length t) (joined ∙ (ap (λ (t : List ℕ). other ++ t) end ∙ append-nil other)))

    by : (url_unit (u.after ++ u.tail) ≡ 0) ⊎ ((u.after ≡ []) × (u.tail ≡ backslash ∷ []) × (more ≡ []) × (another ≡ Err flaw.EndInside)) → AsUrl n (length text) inner other another
    by (inl none) =
        ended_as n (length text) inner other u.before u.inside u.after more u.tail another u.bytes u.ending
        (url_parts n inner u.before u.inside u.after u.tail is u.blank u.row u.blank_after no_white none (end_no_white u.inside u.after more u.tail another u.bytes u.ending)) none whole
        (omega (arith, u.size, start))
    by (inr (no_after, slashed, end, answer)) =
        let last : u.after ++ u.tail ≡ backslash ∷ [] = ap (λ (t : List ℕ). t ++ u.tail) no_after ∙ slashed in
        let read =
        escape_as n (length text) inner other u.before u.inside (is ∙ ap (λ (t : List ℕ). u.before ++ (u.inside ++ t)) last) u.blank
        (subst (λ (t : List ℕ). IsRowOf IsUrlPart t u.inside) last u.row) (ap (λ (t : List ℕ). first_passes is_white (u.inside ++ t)) (sym last) ∙ no_white) (whole end) in
        subst (λ (a : Answer). AsUrl n (length text) inner other a) (sym answer) read

url_no_quote : (text inner other more : List ℕ) (another : Answer) (u : UrlText text other more another) → inner ≡ u.before ++ (u.inside ++ (u.after ++ u.tail))
    → first_passes is_quote (after_white inner) ≡ false
url_no_quote text inner other more another u is =
    let first = body_first u.inside u.after more u.tail another u.bytes u.row u.some u.ending in
    ap (first_passes is_quote) (ap after_white is ∙ white_tail u.before (u.inside ++ (u.after ++ u.tail)) u.blank first.0) ∙ first.1

-- ---- there is such a text

record SomeUrl (text : List ℕ) : Type 0 where
  other : List ℕ
  more : List ℕ
  another : Answer
  joined : text ≡ other ++ more
  taken : IsTaken other more another
  url_text : UrlText text other more another

module _ (text name inner : List ℕ) (opened : text ≡ name ++ open_round ∷ inner) (named : IsUrlName name (open_round ∷ inner)) where
  -- the name, the white space and the parts
  front_here : (before inside rest : List ℕ) → inner ≡ before ++ (inside ++ rest) → AreWhite before → IsRowOf IsUrlPart rest inside
      → IsUrlFront (name ++ open_round ∷ (before ++ inside)) inside rest
  front_here before inside rest joined blank row = record {
    name = name;
    before = before;
    joined = refl;
    named = subst (λ (t : List ℕ). IsUrlName name (open_round ∷ t)) joined named;
    blank = blank;
    row = row;
  }

  front_joined : (before inside rest : List ℕ) → inner ≡ before ++ (inside ++ rest) → text ≡ (name ++ open_round ∷ (before ++ inside)) ++ rest
  front_joined before inside rest joined =
      opened
      ∙ (ap (λ (t : List ℕ). name ++ open_round ∷ t) (joined ∙ sym (append_assoc before inside rest)) ∙ sym (append_assoc name (open_round ∷ (before ++ inside)) rest))

  -- a url text from what ends it
  text_here : (before inside after tail other more : List ℕ) (another : Answer) (bytes : ℕ) → inner ≡ before ++ (inside ++ (after ++ tail)) → AreWhite before
      → IsRowOf IsUrlPart (after ++ tail) inside → AreWhite after → (inside ≡ [] → after ≡ []) → UrlEnd inside after more tail another bytes
      → length other ≡ length (name ++ open_round ∷ (before ++ inside)) + (length after + bytes) → UrlText text other more another
  text_here before inside after tail other more another bytes joined blank row blank_after some ending size = record {
    name = name;
    before = before;
    inside = inside;
    after = after;
    tail = tail;
    bytes = bytes;
    joined = opened ∙ ap (λ (t : List ℕ). name ++ open_round ∷ t) joined;
    named = subst (λ (t : List ℕ). IsUrlName name (open_round ∷ t)) joined named;
    blank = blank;
    row = row;
    blank_after = blank_after;
    some = some;
    ending = ending;
    size = omega (arith, size, length-append name (open_round ∷ (before ++ inside)), length-append before inside);
  }

  -- a backslash at the end
  escaped_url : (before inside : List ℕ) → inner ≡ before ++ (inside ++ backslash ∷ []) → AreWhite before → IsRowOf IsUrlPart (backslash ∷ []) inside → SomeUrl text
  escaped_url before inside joined blank row =
      let front = name ++ open_round ∷ (before ++ inside) in
      record {
        other = front ++ backslash ∷ [];
        more = [];
        another = Err flaw.EndInside;
        joined = front_joined before inside (backslash ∷ []) joined ∙ sym (append-nil (front ++ backslash ∷ []));
        taken = cut (in_url_escape front inside refl (front_here before inside (backslash ∷ []) joined blank row)) refl;
        url_text = text_here before inside [] (backslash ∷ []) (front ++ backslash ∷ []) [] (Err flaw.EndInside) 1 joined blank row refl (λ e. refl) (ends_escape refl refl)
            (length-append front (backslash ∷ []));
      }

  -- what follows the parts and the white space after them
  ended_url : (before inside after tail : List ℕ) → inner ≡ before ++ (inside ++ (after ++ tail)) → AreWhite before → IsRowOf IsUrlPart (after ++ tail) inside → AreWhite after
      → (inside ≡ [] → after ≡ []) → first_passes is_white tail ≡ false → url_unit (after ++ tail) ≡ 0 → (inside ≡ [] → first_passes is_quote tail ≡ false) → SomeUrl text
  ended_url before inside after [] joined blank row blank_after some no_white none no_quote =
      let front = name ++ open_round ∷ (before ++ inside) in
      let here : inner ≡ before ++ (inside ++ after) = joined ∙ ap (λ (t : List ℕ). before ++ (inside ++ t)) (append-nil after) in
      let row_there = subst (λ (t : List ℕ). IsRowOf IsUrlPart t inside) (append-nil after) row in
      record {
        other = front ++ after;
        more = [];
        another = Err flaw.EndInside;
        joined = front_joined before inside after here ∙ sym (append-nil (front ++ after));
        taken = cut (in_url front inside after refl (front_here before inside after here blank row_there) blank_after) refl;
        url_text = text_here before inside after [] (front ++ after) [] (Err flaw.EndInside) 0 joined blank row blank_after some (ends refl)
            (length-append front after ∙ omega arith);
      }
  ended_url before inside after (c ∷ more) joined blank row blank_after some no_white none no_quote = choose (c == close_round) refl after refl
    where
      -- `after` and the byte that follows it
      whole : (bytes : List ℕ) (rest : List ℕ) → after ++ c ∷ more ≡ (after ++ bytes) ++ rest
          → text ≡ ((name ++ open_round ∷ (before ++ inside)) ++ (after ++ bytes)) ++ rest
      whole bytes rest e =
          front_joined before inside (after ++ c ∷ more) joined
          ∙ (ap (λ (t : List ℕ). (name ++ open_round ∷ (before ++ inside)) ++ t) e ∙ sym (append_assoc (name ++ open_round ∷ (before ++ inside)) (after ++ bytes) rest))

      size : (bytes : List ℕ) → length ((name ++ open_round ∷ (before ++ inside)) ++ (after ++ bytes)) ≡ length (name ++ open_round ∷ (before ++ inside)) + (length after + length bytes)
      size bytes = length-append (name ++ open_round ∷ (before ++ inside)) (after ++ bytes) ∙ ap (λ (k : ℕ). length (name ++ open_round ∷ (before ++ inside)) + k) (length-append after bytes)

      closed : (c == close_round) ≡ true → SomeUrl text
      closed same =
          let is = eqb-true c close_round same in
          let there : inner ≡ before ++ (inside ++ (after ++ close_round ∷ more)) = joined ∙ ap (λ (c : ℕ). before ++ (inside ++ (after ++ c ∷ more))) is in
          let row_there = subst (λ (c : ℕ). IsRowOf IsUrlPart (after ++ c ∷ more) inside) is row in
          record {
            other = (name ++ open_round ∷ (before ++ inside)) ++ (after ++ close_round ∷ []);
            more = more;
            another = Ok (Some kind.Url);
            joined = whole (close_round ∷ []) more (ap (λ (c : ℕ). after ++ c ∷ more) is ∙ sym (append_assoc after (close_round ∷ []) more));
            taken = token kind.Url
                (url (name ++ open_round ∷ (before ++ inside)) inside after (front_here before inside (after ++ close_round ∷ more) there blank row_there) blank_after);
            url_text = text_here before inside after (close_round ∷ more) ((name ++ open_round ∷ (before ++ inside)) ++ (after ++ close_round ∷ [])) more (Ok (Some kind.Url)) 1
                there blank row_there blank_after some closes (size (close_round ∷ []));
          }

      parted_url : 0 < length after → (c == close_round) ≡ false → 0 < length inside → SomeUrl text
      parted_url apart other some_inside = record {
        other = (name ++ open_round ∷ (before ++ inside)) ++ (after ++ c ∷ []);
        more = more;
        another = Err flaw.BadUrl;
        joined = whole (c ∷ []) more (sym (append_assoc after (c ∷ []) more));
        taken = bad_url
            (parted (name ++ open_round ∷ (before ++ inside)) inside after c refl (front_here before inside (after ++ c ∷ more) joined blank row) some_inside apart blank_after no_white other);
        url_text = text_here before inside after (c ∷ more) ((name ++ open_round ∷ (before ++ inside)) ++ (after ++ c ∷ [])) more (Err flaw.BadUrl) 1 joined blank row blank_after some
            (parts c some_inside apart no_white other) (size (c ∷ []));
      }

      spoiled : after ≡ [] → (c == close_round) ≡ false → is_bad_in_url c ≡ true → SomeUrl text
      spoiled e other bad =
          let there : inner ≡ before ++ (inside ++ c ∷ more) = joined ∙ ap (λ (t : List ℕ). before ++ (inside ++ (t ++ c ∷ more))) e in
          let row_there = subst (λ (t : List ℕ). IsRowOf IsUrlPart (t ++ c ∷ more) inside) e row in
          record {
            other = (name ++ open_round ∷ (before ++ inside)) ++ c ∷ [];
            more = more;
            another = Err flaw.BadUrl;
            joined = front_joined before inside (c ∷ more) there ∙ sym (append_assoc (name ++ open_round ∷ (before ++ inside)) (c ∷ []) more);
            taken = bad_url (forbidden (name ++ open_round ∷ (before ++ inside)) inside c refl (front_here before inside (c ∷ more) there blank row_there) bad no_quote);
            url_text = text_here before inside [] (c ∷ more) ((name ++ open_round ∷ (before ++ inside)) ++ c ∷ []) more (Err flaw.BadUrl) 1 there blank row_there refl (λ e. refl)
                (spoils c refl bad no_quote) (length-append (name ++ open_round ∷ (before ++ inside)) (c ∷ []));
          }

      -- a backslash and a newline
      broken : after ≡ [] → (c ≡ backslash) → (ds : List ℕ) → more ≡ ds → first_passes is_newline ds ≡ true → SomeUrl text
      broken e is [] rest line = absurd (false≢true line)
      broken e is (d ∷ ds) rest line =
          let tails : after ++ c ∷ more ≡ backslash ∷ d ∷ ds = ap (λ (t : List ℕ). t ++ c ∷ more) e ∙ (ap (λ (c : ℕ). c ∷ more) is ∙ ap (λ (t : List ℕ). backslash ∷ t) rest) in
          let there : inner ≡ before ++ (inside ++ backslash ∷ d ∷ ds) = joined ∙ ap (λ (t : List ℕ). before ++ (inside ++ t)) tails in
          let row_there = subst (λ (t : List ℕ). IsRowOf IsUrlPart t inside) tails row in
          record {
            other = (name ++ open_round ∷ (before ++ inside)) ++ backslash ∷ d ∷ [];
            more = ds;
            another = Err flaw.BadUrl;
            joined = front_joined before inside (backslash ∷ d ∷ ds) there ∙ sym (append_assoc (name ++ open_round ∷ (before ++ inside)) (backslash ∷ d ∷ []) ds);
            taken = bad_url (bad_escape (name ++ open_round ∷ (before ++ inside)) inside d refl (front_here before inside (backslash ∷ d ∷ ds) there blank row_there) line);
            url_text = text_here before inside [] (backslash ∷ d ∷ ds) ((name ++ open_round ∷ (before ++ inside)) ++ backslash ∷ d ∷ []) ds (Err flaw.BadUrl) 2 there blank row_there refl
                (λ e. refl) (breaks d refl line) (length-append (name ++ open_round ∷ (before ++ inside)) (backslash ∷ d ∷ []));
          }

      stopped : after ≡ [] → (c == close_round) ≡ false → (b : Bool) → is_bad_in_url c ≡ b → (s : Bool) → (c == backslash) ≡ s → SomeUrl text
      stopped e other true bad s slashed = spoiled e other bad
      stopped e other false bad true slashed =
          let is = eqb-true c backslash slashed in
          let unit : url_unit (backslash ∷ more) ≡ 0 = ap (λ (c : ℕ). url_unit (c ∷ more)) (sym is) ∙ (ap (λ (t : List ℕ). url_unit (t ++ c ∷ more)) (sym e) ∙ none) in
          broken e is more refl (no_escape_line more unit)
      stopped e other false bad false slashed =
          let go : stops c ≡ false = or_from (is_white c || c == close_round) (is_bad_in_url c) (or_from (is_white c) (c == close_round) no_white other) bad in
          let one : url_unit (c ∷ more) ≡ 1 = rw (go, slashed) refl in
          let unit : url_unit (c ∷ more) ≡ 0 = ap (λ (t : List ℕ). url_unit (t ++ c ∷ more)) (sym e) ∙ none in
          absurd (omega (arith, one, unit))

      some_inside : (a : ℕ) (es : List ℕ) → after ≡ a ∷ es → (t : List ℕ) → inside ≡ t → 0 < length inside
      some_inside a es e [] nothing_there = let wrong : a ∷ es ≡ [] = sym e ∙ some nothing_there in absurd (cc (wrong))
      some_inside a es e (d ∷ ds) is = omega (arith, ap (λ (t : List ℕ). length t) is)

      choose : (b : Bool) → (c == close_round) ≡ b → (after_is : List ℕ) → after ≡ after_is → SomeUrl text
      choose true same after_is e = closed same
      choose false other [] e = stopped e other (is_bad_in_url c) refl (c == backslash) refl
      choose false other (a ∷ es) e = parted_url (omega (arith, ap (λ (t : List ℕ). length t) e)) other (some_inside a es e inside refl)

  some_url : first_passes is_quote (after_white inner) ≡ false → SomeUrl text
  some_url no_quote = of (front_white inner)
    where
      of : FrontWhite inner → SomeUrl text
      of b = with_row (row_here url_unit IsUrlPart urls b.rest)
        where
          body : after_white inner ≡ b.rest
          body = ap after_white b.joined ∙ white_tail b.front b.rest b.all b.ends

          with_row : RowHere url_unit IsUrlPart b.rest → SomeUrl text
          with_row r = ending r.ends
            where
              joined : inner ≡ b.front ++ (r.front ++ r.rest)
              joined = b.joined ∙ ap (λ (t : List ℕ). b.front ++ t) r.joined

              -- where nothing is inside
              same : r.front ≡ [] → b.rest ≡ r.rest
              same e = r.joined ∙ ap (λ (t : List ℕ). t ++ r.rest) e

              no_after : (after tail : List ℕ) → r.rest ≡ after ++ tail → AreWhite after → r.front ≡ [] → after ≡ []
              no_after [] tail e all nothing_inside = refl
              no_after (a ∷ es) tail e all nothing_inside =
                  let white = (and_parts (is_white a) (list_all is_white es) all).0 in
                  let there : first_passes is_white b.rest ≡ true = ap (first_passes is_white) (same nothing_inside ∙ e) ∙ white in
                  absurd (true≢false (sym there ∙ b.ends))

              with_white : url_unit r.rest ≡ 0 → FrontWhite r.rest → SomeUrl text
              with_white none a =
                  ended_url b.front r.front a.front a.rest (joined ∙ ap (λ (t : List ℕ). b.front ++ (r.front ++ t)) a.joined) b.all
                  (subst (λ (t : List ℕ). IsRowOf IsUrlPart t r.front) a.joined r.row) a.all (no_after a.front a.rest a.joined a.all) a.ends
                  (ap url_unit (sym a.joined) ∙ none) no_quote_there
                where
                  no_quote_there : r.front ≡ [] → first_passes is_quote a.rest ≡ false
                  no_quote_there e =
                      let none_after = no_after a.front a.rest a.joined a.all e in
                      let tail : b.rest ≡ a.rest = same e ∙ (a.joined ∙ ap (λ (t : List ℕ). t ++ a.rest) none_after) in
                      ap (first_passes is_quote) (sym tail) ∙ (ap (first_passes is_quote) (sym body) ∙ no_quote)

              ending : (url_unit r.rest ≡ 0) ⊎ (length r.rest < url_unit r.rest) → SomeUrl text
              ending (inl none) = with_white none (front_white r.rest)
              ending (inr long) =
                  let last = long_url r.rest long in
                  escaped_url b.front r.front (joined ∙ ap (λ (t : List ℕ). b.front ++ (r.front ++ t)) last) b.all (subst (λ (t : List ℕ). IsRowOf IsUrlPart t r.front) last r.row)

-- ---- texts at a name and `(`

module _ (c : ℕ) (cs : List ℕ) (w : Word c cs) (starts : 0 < name_start (c ∷ cs)) (f : IdentHere (c ∷ cs)) (inner : List ℕ) (e : f.rest ≡ open_round ∷ inner) where
  opened : c ∷ cs ≡ f.front ++ open_round ∷ inner
  opened = f.joined ∙ ap (λ (t : List ℕ). f.front ++ t) e

  url_place : (other more : List ℕ) (another : Answer) (u : UrlText (c ∷ cs) other more another) → (length u.name ≡ length f.front) × (inner ≡ u.before ++ (u.inside ++ (u.after ++ u.tail)))
  url_place other more another u =
      let two = name_same c cs w starts f u.name (u.before ++ (u.inside ++ (u.after ++ u.tail))) (url_opened (c ∷ cs) other more another u) in
      let lists : open_round ∷ inner ≡ open_round ∷ (u.before ++ (u.inside ++ (u.after ++ u.tail))) = sym e ∙ two.1 in
      let rest : inner ≡ u.before ++ (u.inside ++ (u.after ++ u.tail)) = cc (lists) in
      (two.0, rest)

  -- a name that is not `url`
  no_url : is_url f.front ≡ false → IsReadRight (c ∷ cs)
  no_url other_name =
      let shape : opened_shape f.front (length f.front + 1) inner ≡ done kind.Function (length f.front + 1) = rw other_name refl in
      function_right c cs w starts f inner e (opened_rule c cs w starts f inner e ∙ shape) (λ u. absurd (true≢false (sym (named_url f.front (open_round ∷ inner) u) ∙ other_name))) no_text
    where
      no_text : (other more : List ℕ) (another : Answer) → UrlText (c ∷ cs) other more another → ⊥
      no_text other more another u =
          let two = name_same c cs w starts f u.name (u.before ++ (u.inside ++ (u.after ++ u.tail))) (url_opened (c ∷ cs) other more another u) in
          let same = same_parts u.name (open_round ∷ (u.before ++ (u.inside ++ (u.after ++ u.tail)))) f.front f.rest (sym u.joined ∙ f.joined) two.0 in
          let is = ap is_url (sym same.0) ∙ named_url u.name (open_round ∷ (u.before ++ (u.inside ++ (u.after ++ u.tail)))) u.named in
          true≢false (sym is ∙ other_name)

  -- `url`, and a quote after white space
  url_function : is_url f.front ≡ true → first_passes is_quote (after_white inner) ≡ true → IsReadRight (c ∷ cs)
  url_function is quote_there =
      let shape : opened_shape f.front (length f.front + 1) inner ≡ done kind.Function (length f.front + 1) = rw (is, quote_there) refl in
      function_right c cs w starts f inner e (opened_rule c cs w starts f inner e ∙ shape) (λ u. before_quote inner quote_there) no_text
    where
      no_text : (other more : List ℕ) (another : Answer) → UrlText (c ∷ cs) other more another → ⊥
      no_text other more another u = true≢false (sym quote_there ∙ url_no_quote (c ∷ cs) inner other more another u (url_place other more another u).1)

  -- a url, or what is wrong with one
  url_right : is_url f.front ≡ true → first_passes is_quote (after_white inner) ≡ false → IsReadRight (c ∷ cs)
  url_right is no_quote = of (some_url (c ∷ cs) f.front inner opened (url_named f.front (open_round ∷ inner) (subst (λ (t : List ℕ). IsIdent f.front t) e f.ident) is) no_quote)
    where
      as_read : (other more : List ℕ) (another : Answer) → c ∷ cs ≡ other ++ more → UrlText (c ∷ cs) other more another → AsUrl (length f.front + 1) (suc (length cs)) inner other another
      as_read other more another joined u =
          let place = url_place other more another u in
          url_as (length f.front + 1) (c ∷ cs) inner other more another u joined (omega (arith, place.0)) place.1

      -- a url is longer than its name
      longer : (other more : List ℕ) (another : Answer) → UrlText (c ∷ cs) other more another → length f.front < length other
      longer other more another u = omega (arith, u.size, (url_place other more another u).0)

      rule : rule_at (c ∷ cs) ≡ url_read (length f.front + 1) inner
      rule =
          let shape : opened_shape f.front (length f.front + 1) inner ≡ url_read (length f.front + 1) inner = rw (is, no_quote) refl in
          opened_rule c cs w starts f inner e ∙ shape

      of : SomeUrl (c ∷ cs) → IsReadRight (c ∷ cs)
      of s =
          let r = url_read (length f.front + 1) inner in
          let here = as_read s.other s.more s.another s.joined s.url_text in
          let sizes = length-append s.other s.more in
          let len : (shape : Shape) → r ≡ Ok shape → shape.1 ≡ length s.other = λ shape is. sym (here.size ∙ ap (url_size (length f.front + 1) (suc (length cs)) inner) is) in
          let fits : (shape : Shape) → r ≡ Ok shape → shape.1 ≤ suc (length cs) = λ shape is. omega (arith, len shape is, sizes, ap (λ (t : List ℕ). length t) s.joined) in
          read_right (c ∷ cs) r (length s.other) (ap (within (c ∷ cs)) rule ∙ within_fits (c ∷ cs) r fits) (record {
            front = s.other;
            rest = s.more;
            joined = s.joined;
            len = refl;
            taken = subst (λ (a : Answer). IsTaken s.other s.more a) here.answer s.taken;
            best = λ other more another joined taken. best s here.answer here.size other more another joined (taken_case c cs w other more another joined taken);
          })
          len
        where
          best : (s : SomeUrl (c ∷ cs)) → s.another ≡ answer_of (url_read (length f.front + 1) inner)
              → length s.other ≡ url_size (length f.front + 1) (suc (length cs)) inner (url_read (length f.front + 1) inner)
              → (other more : List ℕ) (another : Answer) → c ∷ cs ≡ other ++ more → WordText (c ∷ cs) other more another
              → IsWorse other another s.other (answer_of (url_read (length f.front + 1) inner))
          best s answer size other more another joined (w_close there) = absurd (close_absent c cs other more w joined there)
          best s answer size other more another joined (w_ident name) =
              inl (omega (arith, name_no_longer c cs w starts f other more joined name, longer s.other s.more s.another s.url_text))
          best s answer size other more another joined (w_function name there ident quotes) =
              let two = name_same c cs w starts f name more (function_opened (c ∷ cs) other more name joined there ident) in
              let same = same_parts name (open_round ∷ more) f.front f.rest
              (sym (joined ∙ (ap (λ (t : List ℕ). t ++ more) there ∙ append_assoc name (open_round ∷ []) more)) ∙ f.joined) two.0 in
              let behind : open_round ∷ more ≡ open_round ∷ inner = same.1 ∙ e in
              let rest : more ≡ inner = cc (behind) in
              let is_name : is_url name ≡ true = ap is_url same.0 ∙ is in
              let quoted_there = quote_before more (quotes (url_named name (open_round ∷ more) ident is_name)) in
              absurd (true≢false (sym quoted_there ∙ (ap (λ (t : List ℕ). first_passes is_quote (after_white t)) rest ∙ no_quote)))
          best s answer size other more another joined (w_url found u) =
              let there = as_read other more found joined u in
              inr (there.size ∙ sym size, there.answer)
          best s answer size other more another joined (w_cut seq whole) = absurd (no_cut c cs w starts f seq)
          best s answer size other more another joined (w_delim d there delim) =
              inl (omega (arith, delim_short (c ∷ cs) other more d f joined there delim, longer s.other s.more s.another s.url_text))

  pub opened_right : IsReadRight (c ∷ cs)
  opened_right = by (is_url f.front) refl (first_passes is_quote (after_white inner)) refl
    where
      by : (b : Bool) → is_url f.front ≡ b → (q : Bool) → first_passes is_quote (after_white inner) ≡ q → IsReadRight (c ∷ cs)
      by false other q quotes = no_url other
      by true is true quotes = url_function is quotes
      by true is false quotes = url_right is quotes
