-- Texts that begin with a quote: a string, one that a newline breaks, or one that lacks its end.
use Rattle.std.proofs.Common.{ℕ, suc, ◌+◌, ◌<◌, ◌≤◌, ◌≡◌, ◌⊎◌, inl, inr, Bool, true, false, cond, ◌||◌, ◌==◌, List, [], ◌∷◌, ◌++◌, Result, Ok, Err, Some, length, drop, refl, sym, ap, ◌∙◌, subst, arith, append_assoc}
use Rattle.std.proofs.lemmas.Bool.{eq-eqb, or_left, or_right, eqb-true, false≢true, true≢false}
use Rattle.std.proofs.lemmas.List.{append-nil, drop_all, drop_at, length-append}
use Rattle.css_model.specs.declared.token.TokenFlaw.{TokenFlaw}
use Rattle.css_model.specs.declared.token.TokenFlaw.TheVariants as flaw
use Rattle.css_model.specs.declared.token.TokenKind.{TokenKind}
use Rattle.css_model.specs.declared.token.TokenKind.TheVariants as kind
use Rattle.css_model.specs.Text.Characters.{backslash, slash, begins, first_passes, is_newline, is_white}
use Rattle.css_model.specs.Text.Runs.{run}
use Rattle.css_model.specs.Text.TokenAt.{Shape, part_at, done, is_quote, string_shape, within}
use Rattle.css_model.specs.Text.Units.{escape_after, string_escape, string_unit, white_unit}
use Rattle.token_laws.proofs.ForCallers.{quote_is}
use Rattle.token_grammar.specs.Flaws.{IsBadString, IsCut}
use Rattle.token_grammar.specs.Flaws.IsBadString.{broken}
use Rattle.token_grammar.specs.Flaws.IsCut.{in_comment, in_string, in_string_escape, in_url, in_url_escape, in_hash, in_at_keyword, in_ident, in_dimension}
use Rattle.token_grammar.proofs.ReadRight.{AreReadRight, IsReadRight, answer_of}
use Rattle.token_grammar.specs.Longest.{Answer, IsTaken}
use Rattle.token_grammar.specs.Longest.IsTaken.{token, comment, bad_string, bad_url, cut}
use Rattle.token_grammar.specs.Rows.{IsNewline, IsRowOf}
use Rattle.token_grammar.specs.TokenTexts.{IsStringPart, IsTokenText}
use Rattle.token_grammar.specs.TokenTexts.IsCommentText.{closed}
use Rattle.token_grammar.specs.TokenTexts.IsStringPart.{code_point, escape, newline}
use Rattle.token_grammar.specs.TokenTexts.IsTokenText.{string}
use Rattle.token_grammar.proofs.Decided.{Decides, read_right, within_fits}
use Rattle.token_grammar.proofs.FirstBytes.{FirstIs, bad_url_first, begins_ident, begins_number, first_with, kind_begins, first_of, cut_ident_first, number_first, url_first, first_front, token_first}
use Rattle.token_grammar.proofs.Pieces.{Matches, PieceHere, PieceLen, RowHere, row_here, row_len, row_stops}
use Rattle.token_grammar.proofs.Unescaped.{EscapeHere, FrontLine, escape_here, escape_len, front_line, line_first, line_some, line_unit}

-- neither quote is a backslash or a newline
record IsQuote (q : ℕ) : Type 0 where
  no_backslash : (backslash == q) ≡ false
  no_newline : is_newline q ≡ false
  no_slash : (q == slash) ≡ false
  no_white : is_white q ≡ false
  quote : is_quote q ≡ true

quote_of : (q : ℕ) → is_quote q ≡ true → IsQuote q
quote_of q is = quote_is IsQuote here there q is
  where
    here : IsQuote 34
    here = record { no_backslash = refl; no_newline = refl; no_slash = refl; no_white = refl; quote = refl }

    there : IsQuote 39
    there = record { no_backslash = refl; no_newline = refl; no_slash = refl; no_white = refl; quote = refl }

-- a backslash in a string
escape_unit : (q c : ℕ) (cs : List ℕ) → IsQuote q → is_newline c ≡ false → string_unit q (backslash ∷ c ∷ cs) ≡ escape_after (c ∷ cs)
escape_unit q c cs q_is line = let apart = q_is.no_backslash in rw (apart, line) refl

newline_unit : (q c : ℕ) (cs : List ℕ) → IsQuote q → is_newline c ≡ true → string_unit q (backslash ∷ c ∷ cs) ≡ suc (white_unit (c ∷ cs))
newline_unit q c cs q_is line = let apart = q_is.no_backslash in rw (apart, line) (omega arith)

plain_unit : (q c : ℕ) (cs : List ℕ) → (c == q) ≡ false → (c == backslash) ≡ false → is_newline c ≡ false → string_unit q (c ∷ cs) ≡ 1
plain_unit q c cs no_quote no_slash no_line = rw (no_quote, no_line, no_slash) refl

escape_some : (c : ℕ) (cs : List ℕ) → is_newline c ≡ false → escape_after (c ∷ cs) ≡ 0 → ⊥
escape_some c cs line none =
    let here = escape_here c cs line in
    let len = escape_len here.said here.front here.rest here.is in
    let lists : backslash ∷ c ∷ cs ≡ backslash ∷ len.first ∷ (len.more ++ here.rest) = here.joined ∙ ap (λ (t : List ℕ). t ++ here.rest) len.is in
    let same : c ∷ cs ≡ len.first ∷ (len.more ++ here.rest) = cc (lists) in
    let size = ap escape_after same in
    omega (arith, size, len.len, none)

lens : (q : ℕ) → IsQuote q → (piece rest : List ℕ) → IsStringPart q piece rest → PieceLen (string_unit q) piece rest
lens q q_is piece rest (code_point c e no_quote no_slash no_line) = rw e (record { some = omega arith; len = plain_unit q c rest no_quote no_slash no_line })
lens q q_is piece rest (escape said is) =
    let len = escape_len said piece rest is in
    rw len.is (record { some = omega arith; len = escape_unit q len.first (len.more ++ rest) q_is len.no_line ∙ len.len })
lens q q_is piece rest (newline line e is) = rw e (by line is (line_unit line rest is))
  where
    by : (line : List ℕ) → IsNewline line rest → white_unit (line ++ rest) ≡ length line → PieceLen (string_unit q) (backslash ∷ line) rest
    by [] is size = absurd (line_some rest is)
    by (c ∷ cs) is size =
        record { some = omega arith; len = newline_unit q c (cs ++ rest) q_is (line_first c cs rest is) ∙ ap suc size }

pieces : (q : ℕ) → IsQuote q → Matches (string_unit q) (IsStringPart q)
pieces q q_is = record { none = refl; lens = lens q q_is; here = here }
  where
    of_line : (ds : List ℕ) → FrontLine ds → PieceHere (IsStringPart q) (backslash ∷ ds)
    of_line ds f = record {
      piece = backslash ∷ f.line;
      rest = f.rest;
      joined = ap (λ (t : List ℕ). backslash ∷ t) f.joined;
      is = newline f.line refl f.whole;
      some = omega arith;
    }

    of_escape : (ds : List ℕ) → EscapeHere (backslash ∷ ds) → PieceHere (IsStringPart q) (backslash ∷ ds)
    of_escape ds f =
        let len = escape_len f.said f.front f.rest f.is in
        record { piece = f.front; rest = f.rest; joined = f.joined; is = escape f.said f.is; some = omega (arith, ap length len.is) }

    at_backslash : (cs : List ℕ) → string_unit q (backslash ∷ cs) ≤ suc (length cs) → PieceHere (IsStringPart q) (backslash ∷ cs)
    at_backslash [] fits =
        let apart = q_is.no_backslash in
        let two : string_unit q (backslash ∷ []) ≡ 2 = rw apart refl in
        absurd (omega (arith, fits, two))
    at_backslash (d ∷ ds) fits = choose (is_newline d) refl
      where
        choose : (b : Bool) → is_newline d ≡ b → PieceHere (IsStringPart q) (backslash ∷ d ∷ ds)
        choose true line = of_line (d ∷ ds) (front_line d ds line)
        choose false line = of_escape (d ∷ ds) (escape_here d ds line)

    here : (text : List ℕ) → 0 < string_unit q text → string_unit q text ≤ length text → PieceHere (IsStringPart q) text
    here [] some fits = absurd (omega (arith, some))
    here (c ∷ cs) some fits = by (c == q) refl (is_newline c) refl (c == backslash) refl
      where
        by : (b : Bool) → (c == q) ≡ b → (l : Bool) → is_newline c ≡ l → (s : Bool) → (c == backslash) ≡ s → PieceHere (IsStringPart q) (c ∷ cs)
        by true same l line s slashed =
            let none : string_unit q (c ∷ cs) ≡ 0 = rw same refl in
            absurd (omega (arith, some, none))
        by false same true line s slashed =
            let none : string_unit q (c ∷ cs) ≡ 0 = rw (same, line) refl in
            absurd (omega (arith, some, none))
        by false same false line true slashed =
            let is = eqb-true c backslash slashed in
            let fits_there : string_unit q (backslash ∷ cs) ≤ suc (length cs) = subst (λ (c : ℕ). string_unit q (c ∷ cs) ≤ suc (length cs)) is fits in
            subst (λ (c : ℕ). PieceHere (IsStringPart q) (c ∷ cs)) (sym is) (at_backslash cs fits_there)
        by false same false line false slashed =
            record { piece = c ∷ []; rest = cs; joined = refl; is = code_point c refl same slashed line; some = omega arith }

-- a unit of a string that begins with a backslash
slash_fits : (q d : ℕ) (ds : List ℕ) → IsQuote q → string_unit q (backslash ∷ d ∷ ds) ≤ length (backslash ∷ d ∷ ds)
slash_fits q d ds q_is = choose (is_newline d) refl
  where
    of_line : is_newline d ≡ true → FrontLine (d ∷ ds) → string_unit q (backslash ∷ d ∷ ds) ≤ length (backslash ∷ d ∷ ds)
    of_line line f =
        let unit = line_unit f.line f.rest f.whole in
        let same : white_unit (d ∷ ds) ≡ white_unit (f.line ++ f.rest) = ap white_unit f.joined in
        let sizes = length-append f.line f.rest in
        let long : length (d ∷ ds) ≡ length (f.line ++ f.rest) = ap length f.joined in
        omega (arith, newline_unit q d ds q_is line, unit, same, sizes, long)

    of_escape : is_newline d ≡ false → EscapeHere (backslash ∷ d ∷ ds) → string_unit q (backslash ∷ d ∷ ds) ≤ length (backslash ∷ d ∷ ds)
    of_escape line f =
        let len = escape_len f.said f.front f.rest f.is in
        let lists : backslash ∷ d ∷ ds ≡ backslash ∷ len.first ∷ (len.more ++ f.rest) = f.joined ∙ ap (λ (t : List ℕ). t ++ f.rest) len.is in
        let same : d ∷ ds ≡ len.first ∷ (len.more ++ f.rest) = cc (lists) in
        let size : escape_after (d ∷ ds) ≡ escape_after (len.first ∷ (len.more ++ f.rest)) = ap escape_after same in
        let long : length (d ∷ ds) ≡ length (len.first ∷ (len.more ++ f.rest)) = ap length same in
        let sizes = length-append len.more f.rest in
        omega (arith, escape_unit q d ds q_is line, len.len, size, long, sizes)

    choose : (b : Bool) → is_newline d ≡ b → string_unit q (backslash ∷ d ∷ ds) ≤ length (backslash ∷ d ∷ ds)
    choose true line = of_line line (front_line d ds line)
    choose false line = of_escape line (escape_here d ds line)

slash_some : (q : ℕ) (cs : List ℕ) → IsQuote q → string_unit q (backslash ∷ cs) ≡ 0 → ⊥
slash_some q [] q_is none = let apart = q_is.no_backslash in let two : string_unit q (backslash ∷ []) ≡ 2 = rw apart refl in omega (arith, none, two)
slash_some q (d ∷ ds) q_is none = choose (is_newline d) refl
  where
    choose : (b : Bool) → is_newline d ≡ b → ⊥
    choose true line = omega (arith, newline_unit q d ds q_is line, none)
    choose false line = escape_some d ds line (sym (escape_unit q d ds q_is line) ∙ none)

-- where no unit of a string begins, a quote or a newline is
plain_stop : (q c : ℕ) (cs : List ℕ) → IsQuote q → string_unit q (c ∷ cs) ≡ 0 → (c == q) ≡ false → is_newline c ≡ false → ⊥
plain_stop q c cs q_is none other line = choose (c == backslash) refl
  where
    choose : (b : Bool) → (c == backslash) ≡ b → ⊥
    choose true same = slash_some q cs q_is (subst (λ (c : ℕ). string_unit q (c ∷ cs) ≡ 0) (eqb-true c backslash same) none)
    choose false apart = omega (arith, plain_unit q c cs other apart line, none)

-- only a backslash at the end is a unit that is longer than what is left
long_unit : (q c : ℕ) (cs : List ℕ) → IsQuote q → length (c ∷ cs) < string_unit q (c ∷ cs) → c ∷ cs ≡ backslash ∷ []
long_unit q c cs q_is long = choose (c == q) refl (is_newline c) refl (c == backslash) refl
  where
    at_backslash : (cs : List ℕ) → length (backslash ∷ cs) < string_unit q (backslash ∷ cs) → backslash ∷ cs ≡ backslash ∷ []
    at_backslash [] long = refl
    at_backslash (d ∷ ds) long = absurd (omega (arith, long, slash_fits q d ds q_is))

    choose : (b : Bool) → (c == q) ≡ b → (l : Bool) → is_newline c ≡ l → (s : Bool) → (c == backslash) ≡ s → c ∷ cs ≡ backslash ∷ []
    choose true same l line s slashed =
        let none : string_unit q (c ∷ cs) ≡ 0 = rw same refl in
        absurd (omega (arith, long, none))
    choose false other true line s slashed =
        let none : string_unit q (c ∷ cs) ≡ 0 = rw (other, line) refl in
        absurd (omega (arith, long, none))
    choose false other false line true slashed =
        let is = eqb-true c backslash slashed in
        let there = subst (λ (c : ℕ). length (c ∷ cs) < string_unit q (c ∷ cs)) is long in
        ap (λ (c : ℕ). c ∷ cs) is ∙ at_backslash cs there
    choose false other false line false slashed = absurd (omega (arith, long, plain_unit q c cs other slashed line))

-- how many bytes the text takes that this is read of
abbrev size_of : ℕ → List ℕ → Result Shape TokenFlaw → ℕ
size_of q cs (Ok s) = s.1
size_of q cs (Err flaw.BadString) = 2 + run (string_unit q) cs
size_of q cs (Err flaw.BadUrl) = 0
size_of q cs (Err flaw.EndInside) = suc (length cs)

-- a text is taken for what the rule of strings reads, and has its length
record AsRead (q : ℕ) (cs other : List ℕ) (another : Answer) : Type 0 where
  answer : another ≡ answer_of (string_shape q cs)
  size : length other ≡ size_of q cs (string_shape q cs)

as_shape : (q : ℕ) (cs other : List ℕ) (r : Result Shape TokenFlaw) → string_shape q cs ≡ r → length other ≡ size_of q cs r → AsRead q cs other (answer_of r)
as_shape q cs other r is size = record { answer = ap answer_of (sym is); size = size ∙ ap (size_of q cs) (sym is) }

quote_stops : (q : ℕ) (more : List ℕ) → string_unit q (q ∷ more) ≡ 0
quote_stops q more = let same : (q == q) ≡ true = eq-eqb q q refl in rw same refl

line_stops : (q c : ℕ) (more : List ℕ) → is_newline c ≡ true → string_unit q (c ∷ more) ≡ 0
line_stops q c more line = by (c == q)
  where
    by : (b : Bool) → cond (b || is_newline c) 0 (cond (c == backslash) (string_escape more) 1) ≡ 0
    by true = refl
    by false = rw line refl

line_no_quote : (q c : ℕ) → IsQuote q → is_newline c ≡ true → (c == q) ≡ false
line_no_quote q c q_is line = by (c == q) refl
  where
    by : (b : Bool) → (c == q) ≡ b → (c == q) ≡ false
    by true same = absurd (true≢false (sym line ∙ (ap is_newline (eqb-true c q same) ∙ q_is.no_newline)))
    by false other = other

as_string : (q : ℕ) (cs inside more other : List ℕ) → IsQuote q → cs ≡ inside ++ q ∷ more → IsRowOf (IsStringPart q) (q ∷ more) inside → other ≡ q ∷ (inside ++ q ∷ [])
    → AsRead q cs other (Ok (Some kind.Str))
as_string q cs inside more other q_is e row is =
    let n : run (string_unit q) cs ≡ length inside = ap (λ (t : List ℕ). run (string_unit q) t) e ∙ row_stops (string_unit q) (IsStringPart q) (pieces q q_is) (q ∷ more) inside row (quote_stops q more) in
    let tail : drop (length inside) cs ≡ q ∷ more = ap (λ (t : List ℕ). drop (length inside) t) e ∙ drop_at inside (q ∷ more) (length inside) refl in
    let here : begins q (drop (length inside) cs) ≡ true = ap (begins q) tail ∙ eq-eqb q q refl in
    let shape : string_shape q cs ≡ done kind.Str (2 + length inside) = rw (n, here) refl in
    let sizes = length-append inside (q ∷ []) in
    as_shape q cs other (done kind.Str (2 + length inside)) shape (omega (arith, sizes, ap length is))

as_broken : (q c : ℕ) (cs inside more other : List ℕ) → IsQuote q → cs ≡ inside ++ c ∷ more → IsRowOf (IsStringPart q) (c ∷ more) inside → is_newline c ≡ true
    → other ≡ q ∷ (inside ++ c ∷ []) → AsRead q cs other (Err flaw.BadString)
as_broken q c cs inside more other q_is e row line is =
    let n : run (string_unit q) cs ≡ length inside = ap (λ (t : List ℕ). run (string_unit q) t) e ∙ row_stops (string_unit q) (IsStringPart q) (pieces q q_is) (c ∷ more) inside row (line_stops q c more line) in
    let tail : drop (length inside) cs ≡ c ∷ more = ap (λ (t : List ℕ). drop (length inside) t) e ∙ drop_at inside (c ∷ more) (length inside) refl in
    let none : begins q (drop (length inside) cs) ≡ false = ap (begins q) tail ∙ line_no_quote q c q_is line in
    let here : first_passes is_newline (drop (length inside) cs) ≡ true = ap (first_passes is_newline) tail ∙ line in
    let shape : string_shape q cs ≡ Err flaw.BadString = rw (n, none, here) refl in
    let sizes = length-append inside (c ∷ []) in
    as_shape q cs other (Err flaw.BadString) shape (omega (arith, sizes, ap length is, n))

as_endless : (q : ℕ) (cs other : List ℕ) → drop (run (string_unit q) cs) cs ≡ [] → length other ≡ suc (length cs) → AsRead q cs other (Err flaw.EndInside)
as_endless q cs other tail size =
    let none : begins q (drop (run (string_unit q) cs) cs) ≡ false = ap (begins q) tail in
    let no_line : first_passes is_newline (drop (run (string_unit q) cs) cs) ≡ false = ap (first_passes is_newline) tail in
    let shape : string_shape q cs ≡ Err flaw.EndInside = rw (none, no_line) refl in
    as_shape q cs other (Err flaw.EndInside) shape size

as_cut : (q : ℕ) (cs other : List ℕ) → IsQuote q → IsRowOf (IsStringPart q) [] cs → other ≡ q ∷ cs → AsRead q cs other (Err flaw.EndInside)
as_cut q cs other q_is row is =
    let n : run (string_unit q) (cs ++ []) ≡ length cs = row_stops (string_unit q) (IsStringPart q) (pieces q q_is) [] cs row refl in
    let same : run (string_unit q) (cs ++ []) ≡ run (string_unit q) cs = ap (λ (t : List ℕ). run (string_unit q) t) (append-nil cs) in
    as_endless q cs other (drop_all (run (string_unit q) cs) cs (omega (arith, n, same))) (ap length is)

as_cut_escape : (q : ℕ) (cs inside other : List ℕ) → IsQuote q → cs ≡ inside ++ backslash ∷ [] → IsRowOf (IsStringPart q) (backslash ∷ []) inside
    → other ≡ q ∷ (inside ++ backslash ∷ []) → AsRead q cs other (Err flaw.EndInside)
as_cut_escape q cs inside other q_is e row is =
    let apart = q_is.no_backslash in
    let unit : string_unit q (backslash ∷ []) ≡ 2 = rw apart refl in
    let two : run (string_unit q) (backslash ∷ []) ≡ 2 = rw unit refl in
    let n = row_len (string_unit q) (IsStringPart q) (pieces q q_is) (backslash ∷ []) inside row in
    let same : run (string_unit q) cs ≡ run (string_unit q) (inside ++ backslash ∷ []) = ap (λ (t : List ℕ). run (string_unit q) t) e in
    let sizes = length-append inside (backslash ∷ []) in
    as_endless q cs other (drop_all (run (string_unit q) cs) cs (omega (arith, n, two, same, sizes, ap length e))) (omega (arith, ap length is, ap length e))

-- of the tokens only a string begins with a quote
string_kind : (q : ℕ) → is_quote q ≡ true → (k : TokenKind) → kind_begins k q ≡ true → k ≡ kind.Str
string_kind q is = quote_is (λ (q : ℕ). (k : TokenKind) → kind_begins k q ≡ true → k ≡ kind.Str) at_double at_single q is
  where
    at_double : (k : TokenKind) → kind_begins k 34 ≡ true → k ≡ kind.Str
    at_double kind.Str h = refl
    at_double _ h = absurd (false≢true h)

    at_single : (k : TokenKind) → kind_begins k 39 ≡ true → k ≡ kind.Str
    at_single kind.Str h = refl
    at_single _ h = absurd (false≢true h)

record StringText (rest text : List ℕ) : Type 0 where
  quote : ℕ
  inside : List ℕ
  is : text ≡ quote ∷ (inside ++ quote ∷ [])
  row : IsRowOf (IsStringPart quote) (quote ∷ rest) inside

string_text : (rest : List ℕ) (k : TokenKind) (text : List ℕ) → IsTokenText rest k text → k ≡ kind.Str → StringText rest text
string_text rest k text (string quote inside is row) e = record { quote = quote; inside = inside; is = refl; row = row }
string_text rest k text _ e = absurd (cc (e))

-- with what a text that lacks its end begins, if it is no string
abbrev other_begins : ℕ → Bool
other_begins c = begins_number c || (begins_ident c || (c == slash || (c == 35 || c == 64)))

data CutString (text : List ℕ) : Type 0 where
  open_ended : (quote : ℕ) (inside : List ℕ) → text ≡ quote ∷ inside → IsRowOf (IsStringPart quote) [] inside → CutString text
  escaped : (quote : ℕ) (inside : List ℕ) → text ≡ quote ∷ (inside ++ backslash ∷ []) → IsRowOf (IsStringPart quote) (backslash ∷ []) inside → CutString text

number_other : (c : ℕ) → begins_number c ≡ true → other_begins c ≡ true
number_other c is = or_left (begins_number c) (begins_ident c || (c == slash || (c == 35 || c == 64))) is

ident_other : (c : ℕ) → begins_ident c ≡ true → other_begins c ≡ true
ident_other c is = or_right (begins_number c) (begins_ident c || (c == slash || (c == 35 || c == 64))) (or_left (begins_ident c) (c == slash || (c == 35 || c == 64)) is)

cut_string : (text : List ℕ) → IsCut text → CutString text ⊎ FirstIs other_begins text
cut_string text (in_comment inside e none) = inr (first_of other_begins slash (42 ∷ inside) text e refl)
cut_string text (in_string quote inside e is row) = inl (open_ended quote inside e row)
cut_string text (in_string_escape quote inside e is row) = inl (escaped quote inside e row)
cut_string text (in_url front inside after e u all) =
    inr (first_with begins_ident other_begins text ident_other (first_front begins_ident front after text e (url_first front inside after u)))
cut_string text (in_url_escape front inside e u) =
    inr (first_with begins_ident other_begins text ident_other (first_front begins_ident front (backslash ∷ []) text e (url_first front inside (backslash ∷ []) u)))
cut_string text (in_hash row e are) = inr (first_of other_begins 35 (row ++ backslash ∷ []) text e refl)
cut_string text (in_at_keyword name e is) = inr (first_of other_begins 64 name text e refl)
cut_string text (in_ident is) = inr (first_with begins_ident other_begins text ident_other (cut_ident_first text is))
cut_string text (in_dimension front unit e is named whole) = inr (first_with begins_number other_begins text number_other (first_front begins_number front unit text e (number_first front is)))

quote_no_other : (q : ℕ) → is_quote q ≡ true → other_begins q ≡ false
quote_no_other q is = quote_is (λ (q : ℕ). other_begins q ≡ false) refl refl q is

quote_no_ident : (q : ℕ) → is_quote q ≡ true → begins_ident q ≡ false
quote_no_ident q is = quote_is (λ (q : ℕ). begins_ident q ≡ false) refl refl q is

-- something can be taken
record SomeTaken (text : List ℕ) : Type 0 where
  front : List ℕ
  rest : List ℕ
  answer : Answer
  joined : text ≡ front ++ rest
  taken : IsTaken front rest answer

-- what begins with a quote is taken for what is read
module _ (q : ℕ) (cs : List ℕ) (q_is : IsQuote q) where
  byte : (test : ℕ → Bool) (other more : List ℕ) → q ∷ cs ≡ other ++ more → FirstIs test other → test q ≡ true
  byte test other more joined f =
      let lists : q ∷ cs ≡ f.first ∷ (f.later ++ more) = joined ∙ ap (λ (t : List ℕ). t ++ more) f.is in
      let same : f.first ≡ q = cc (lists) in
      ap test (sym same) ∙ f.passes

  -- the quote of a text is this one, and what follows it
  behind_quote : (other more : List ℕ) (quote : ℕ) (inside : List ℕ) → q ∷ cs ≡ other ++ more → other ≡ quote ∷ inside → (quote ≡ q) × (cs ≡ inside ++ more)
  behind_quote other more quote inside joined e =
      let lists : q ∷ cs ≡ quote ∷ (inside ++ more) = joined ∙ ap (λ (t : List ℕ). t ++ more) e in
      let same : quote ≡ q = cc (lists) in
      let rest : cs ≡ inside ++ more = cc (lists) in
      (same, rest)

  taken_token : (other more : List ℕ) → q ∷ cs ≡ other ++ more → StringText more other → AsRead q cs other (Ok (Some kind.Str))
  taken_token other more joined t =
      let two = behind_quote other more t.quote (t.inside ++ t.quote ∷ []) joined t.is in
      let rest : cs ≡ t.inside ++ q ∷ more = two.1 ∙ (append_assoc t.inside (t.quote ∷ []) more ∙ ap (λ (c : ℕ). t.inside ++ c ∷ more) two.0) in
      let row = subst (λ (c : ℕ). IsRowOf (IsStringPart c) (c ∷ more) t.inside) two.0 t.row in
      as_string q cs t.inside more other q_is rest row (t.is ∙ ap (λ (c : ℕ). c ∷ (t.inside ++ c ∷ [])) two.0)

  taken_broken : (other more : List ℕ) → q ∷ cs ≡ other ++ more → IsBadString other more → AsRead q cs other (Err flaw.BadString)
  taken_broken other more joined (broken quote inside c e is row line) =
      let two = behind_quote other more quote (inside ++ c ∷ []) joined e in
      let rest : cs ≡ inside ++ c ∷ more = two.1 ∙ append_assoc inside (c ∷ []) more in
      let row_there = subst (λ (q : ℕ). IsRowOf (IsStringPart q) (c ∷ more) inside) two.0 row in
      as_broken q c cs inside more other q_is rest row_there line (e ∙ ap (λ (q : ℕ). q ∷ (inside ++ c ∷ [])) two.0)

  taken_cut : (other more : List ℕ) → q ∷ cs ≡ other ++ more → more ≡ [] → CutString other → AsRead q cs other (Err flaw.EndInside)
  taken_cut other more joined end (open_ended quote inside e row) =
      let two = behind_quote other more quote inside joined e in
      let whole : inside ≡ cs = sym (two.1 ∙ (ap (λ (t : List ℕ). inside ++ t) end ∙ append-nil inside)) in
      let row_there = subst (λ (q : ℕ). IsRowOf (IsStringPart q) [] inside) two.0 row in
      as_cut q cs other q_is (subst (λ (t : List ℕ). IsRowOf (IsStringPart q) [] t) whole row_there) (e ∙ (ap (λ (q : ℕ). q ∷ inside) two.0 ∙ ap (λ (t : List ℕ). q ∷ t) whole))
  taken_cut other more joined end (escaped quote inside e row) =
      let two = behind_quote other more quote (inside ++ backslash ∷ []) joined e in
      let whole : cs ≡ inside ++ backslash ∷ [] = two.1 ∙ (ap (λ (t : List ℕ). (inside ++ backslash ∷ []) ++ t) end ∙ append-nil (inside ++ backslash ∷ [])) in
      let row_there = subst (λ (q : ℕ). IsRowOf (IsStringPart q) (backslash ∷ []) inside) two.0 row in
      as_cut_escape q cs inside other q_is whole row_there (e ∙ ap (λ (q : ℕ). q ∷ (inside ++ backslash ∷ [])) two.0)

  taken_as_read : (other more : List ℕ) (another : Answer) → q ∷ cs ≡ other ++ more → IsTaken other more another → AsRead q cs other another
  taken_as_read other more another joined (token k is) =
      let same = string_kind q q_is.quote k (byte (kind_begins k) other more joined (token_first more k other is)) in
      subst (λ (k : TokenKind). AsRead q cs other (Ok (Some k))) (sym same) (taken_token other more joined (string_text more k other is same))
  taken_as_read other more another joined (comment (closed inside e none)) =
      let two = behind_quote other more slash (42 ∷ (inside ++ (42 ∷ 47 ∷ []))) joined e in
      absurd (true≢false (sym (eq-eqb q slash (sym two.0)) ∙ q_is.no_slash))
  taken_as_read other more another joined (bad_string is) = taken_broken other more joined is
  taken_as_read other more another joined (bad_url is) = absurd (true≢false (sym (byte begins_ident other more joined (bad_url_first other more is)) ∙ quote_no_ident q q_is.quote))
  taken_as_read other more another joined (cut is end) = by (cut_string other is)
    where
      by : CutString other ⊎ FirstIs other_begins other → AsRead q cs other (Err flaw.EndInside)
      by (inl c) = taken_cut other more joined end c
      by (inr f) = absurd (true≢false (sym (byte other_begins other more joined f) ∙ quote_no_other q q_is.quote))

  some_taken : RowHere (string_unit q) (IsStringPart q) cs → SomeTaken (q ∷ cs)
  some_taken r = by r.rest r.joined r.row r.ends
    where
      stopped : (c : ℕ) (more : List ℕ) → cs ≡ r.front ++ c ∷ more → IsRowOf (IsStringPart q) (c ∷ more) r.front → string_unit q (c ∷ more) ≡ 0 → SomeTaken (q ∷ cs)
      stopped c more joined row none = choose (c == q) refl (is_newline c) refl
        where
          choose : (b : Bool) → (c == q) ≡ b → (l : Bool) → is_newline c ≡ l → SomeTaken (q ∷ cs)
          choose true same l line =
              let is = eqb-true c q same in
              let row_there = subst (λ (c : ℕ). IsRowOf (IsStringPart q) (c ∷ more) r.front) is row in
              record {
                front = q ∷ (r.front ++ q ∷ []);
                rest = more;
                answer = Ok (Some kind.Str);
                joined = ap (λ (t : List ℕ). q ∷ t) (joined ∙ (ap (λ (c : ℕ). r.front ++ c ∷ more) is ∙ sym (append_assoc r.front (q ∷ []) more)));
                taken = token kind.Str (string q r.front q_is.quote row_there);
              }
          choose false other true line = record {
            front = q ∷ (r.front ++ c ∷ []);
            rest = more;
            answer = Err flaw.BadString;
            joined = ap (λ (t : List ℕ). q ∷ t) (joined ∙ sym (append_assoc r.front (c ∷ []) more));
            taken = bad_string (broken q r.front c refl q_is.quote row line);
          }
          choose false other false line = absurd (plain_stop q c more q_is none other line)

      by : (rest : List ℕ) → cs ≡ r.front ++ rest → IsRowOf (IsStringPart q) rest r.front → (string_unit q rest ≡ 0) ⊎ (length rest < string_unit q rest) → SomeTaken (q ∷ cs)
      by [] joined row ends = record {
        front = q ∷ r.front;
        rest = [];
        answer = Err flaw.EndInside;
        joined = ap (λ (t : List ℕ). q ∷ t) joined;
        taken = cut (in_string q r.front refl q_is.quote row) refl;
      }
      by (c ∷ more) joined row (inl none) = stopped c more joined row none
      by (c ∷ more) joined row (inr long) =
          let rest : c ∷ more ≡ backslash ∷ [] = long_unit q c more q_is long in
          record {
            front = q ∷ (r.front ++ backslash ∷ []);
            rest = [];
            answer = Err flaw.EndInside;
            joined = ap (λ (t : List ℕ). q ∷ t) (joined ∙ (ap (λ (t : List ℕ). r.front ++ t) rest ∙ sym (append-nil (r.front ++ backslash ∷ []))));
            taken = cut (in_string_escape q r.front refl q_is.quote (subst (λ (t : List ℕ). IsRowOf (IsStringPart q) t r.front) rest row)) refl;
          }

  string_right : IsReadRight (q ∷ cs)
  string_right = of (some_taken (row_here (string_unit q) (IsStringPart q) (pieces q q_is) cs))
    where
      of : SomeTaken (q ∷ cs) → IsReadRight (q ∷ cs)
      of some =
          let here = taken_as_read some.front some.rest some.answer some.joined some.taken in
          let sizes = length-append some.front some.rest in
          let len : (s : Shape) → string_shape q cs ≡ Ok s → s.1 ≡ length some.front = λ s e. sym (here.size ∙ ap (size_of q cs) e) in
          let fits : (s : Shape) → string_shape q cs ≡ Ok s → s.1 ≤ length (q ∷ cs) = λ s e. omega (arith, len s e, sizes, ap length some.joined) in
          let none = q_is.no_slash in
          let other = q_is.no_white in
          let quoted = q_is.quote in
          let rule : part_at (q ∷ cs) ≡ within (q ∷ cs) (string_shape q cs) = rw (none, other, quoted) refl in
          let decides : Decides (q ∷ cs) (answer_of (string_shape q cs)) (length some.front) = record {
            front = some.front;
            rest = some.rest;
            joined = some.joined;
            len = refl;
            taken = subst (λ (a : Answer). IsTaken some.front some.rest a) here.answer some.taken;
            best = λ other more another e taken. let there = taken_as_read other more another e taken in inr (there.size ∙ sym here.size, there.answer);
          } in
          read_right (q ∷ cs) (string_shape q cs) (length some.front) (rule ∙ within_fits (q ∷ cs) (string_shape q cs) fits) decides len

pub strings_are_read_right : AreReadRight is_quote
strings_are_read_right [] is = absurd (false≢true is)
strings_are_read_right (q ∷ cs) is = string_right q cs (quote_of q is)
