-- Names and ident sequences, and the rows and starts that compute them.
use Rattle.std.proofs.Common.{ℕ, zero, suc, ◌+◌, ◌<◌, ◌≤◌, ◌≡◌, ◌⊎◌, inl, inr, Bool, true, false, cond, ◌||◌, ◌==◌, List, [], ◌∷◌, ◌++◌, length, refl, sym, ap, ◌∙◌, subst, arith, append_assoc}
use Rattle.std.specs.Char.{is_ascii_digit}
use Rattle.std.proofs.lemmas.Bool.{eqb-true, false≢true, or_left}
use Rattle.std.proofs.lemmas.List.{length-append}
use Rattle.css_model.specs.Text.Characters.{backslash, dash, begins, is_name, is_newline, is_start}
use Rattle.css_model.specs.Text.Runs.{run}
use Rattle.css_model.specs.Text.Units.{escape_after, name_start, name_unit, one_and, start_unit}
use Rattle.token_grammar.specs.Flaws.{IsCutIdent}
use Rattle.token_grammar.specs.Flaws.IsCutIdent.{alone, dashed as cut_dashed, longer}
use Rattle.token_grammar.specs.Names.{IsIdent, IsNamePart, IsNameStart}
use Rattle.token_grammar.specs.Names.IsIdent.{plain, dashed, dashes}
use Rattle.token_grammar.specs.Names.IsNamePart.{code_point, escape}
use Rattle.token_grammar.specs.Names.IsNameStart.{code_point as start_point, escape as start_escape}
use Rattle.token_grammar.specs.Rows.{IsRowOf}
use Rattle.token_grammar.specs.Rows.IsRowOf.{more}
use Rattle.token_grammar.proofs.Pieces.{Matches, PieceHere, PieceLen, RowHere, row_here, row_len, row_stops}
use Rattle.token_grammar.proofs.Unescaped.{EscapeHere, escape_here, escape_len}

-- an escape is no longer than its text
pub escape_fits : (d : ℕ) (ds : List ℕ) → escape_after (d ∷ ds) ≤ suc (length (d ∷ ds))
escape_fits d ds = choose (is_newline d) refl
  where
    of_escape : EscapeHere (backslash ∷ d ∷ ds) → escape_after (d ∷ ds) ≤ suc (length (d ∷ ds))
    of_escape f =
        let len = escape_len f.said f.front f.rest f.is in
        let lists : backslash ∷ d ∷ ds ≡ backslash ∷ len.first ∷ (len.more ++ f.rest) = f.joined ∙ ap (λ (t : List ℕ). t ++ f.rest) len.is in
        let same : d ∷ ds ≡ len.first ∷ (len.more ++ f.rest) = cc (lists) in
        let size : escape_after (d ∷ ds) ≡ escape_after (len.first ∷ (len.more ++ f.rest)) = ap escape_after same in
        let long : length (d ∷ ds) ≡ length (len.first ∷ (len.more ++ f.rest)) = ap length same in
        omega (arith, len.len, size, long, length-append len.more f.rest)

    choose : (b : Bool) → is_newline d ≡ b → escape_after (d ∷ ds) ≤ suc (length (d ∷ ds))
    choose true line = let none : escape_after (d ∷ ds) ≡ 0 = rw line refl in omega (arith, none)
    choose false line = of_escape (escape_here d ds line)

no_escape : (d : ℕ) (ds : List ℕ) → is_newline d ≡ true → escape_after (d ∷ ds) ≡ 0
no_escape d ds line = rw line refl

-- the parts of names
name_lens : (piece rest : List ℕ) → IsNamePart piece rest → PieceLen name_unit piece rest
name_lens piece rest (code_point c e is) = rw e (record { some = omega arith; len = rw is refl })
name_lens piece rest (escape said is) = let len = escape_len said piece rest is in rw len.is (record { some = omega arith; len = len.len })

-- an escape that begins here and fits
pub escape_piece : (cs : List ℕ) → 0 < escape_after cs → escape_after cs ≤ suc (length cs) → EscapeHere (backslash ∷ cs)
escape_piece [] some fits = absurd (omega (arith, fits))
escape_piece (d ∷ ds) some fits = choose (is_newline d) refl
  where
    choose : (b : Bool) → is_newline d ≡ b → EscapeHere (backslash ∷ d ∷ ds)
    choose true line = absurd (omega (arith, some, no_escape d ds line))
    choose false line = escape_here d ds line

pub escape_byte : (text : List ℕ) (f : EscapeHere text) → 0 < length f.front
escape_byte text f = let len = escape_len f.said f.front f.rest f.is in omega (arith, ap (λ (t : List ℕ). length t) len.is)

name_here : (text : List ℕ) → 0 < name_unit text → name_unit text ≤ length text → PieceHere IsNamePart text
name_here [] some fits = absurd (omega (arith, some))
name_here (c ∷ cs) some fits = choose (is_name c) refl (c == backslash) refl
  where
    of : (cs : List ℕ) → EscapeHere (backslash ∷ cs) → PieceHere IsNamePart (backslash ∷ cs)
    of cs f = record { piece = f.front; rest = f.rest; joined = f.joined; is = escape f.said f.is; some = escape_byte (backslash ∷ cs) f }

    choose : (b : Bool) → is_name c ≡ b → (s : Bool) → (c == backslash) ≡ s → PieceHere IsNamePart (c ∷ cs)
    choose true is s slashed = record { piece = c ∷ []; rest = cs; joined = refl; is = code_point c refl is; some = omega arith }
    choose false is true slashed =
        let same = eqb-true c backslash slashed in
        let unit : name_unit (c ∷ cs) ≡ escape_after cs = rw (is, slashed) refl in
        subst (λ (c : ℕ). PieceHere IsNamePart (c ∷ cs)) (sym same) (of cs (escape_piece cs (omega (arith, some, unit)) (omega (arith, fits, unit))))
    choose false is false slashed = let unit : name_unit (c ∷ cs) ≡ 0 = rw (is, slashed) refl in absurd (omega (arith, some, unit))

pub names : Matches name_unit IsNamePart
names = record { none = refl; lens = name_lens; here = name_here }

-- only a backslash at the end is a part of a name that is longer than what is left
pub long_name : (rest : List ℕ) → length rest < name_unit rest → rest ≡ backslash ∷ []
long_name [] long = absurd (omega (arith, long))
long_name (c ∷ cs) long = choose (is_name c) refl (c == backslash) refl
  where
    at_backslash : (cs : List ℕ) → length (backslash ∷ cs) < escape_after cs → backslash ∷ cs ≡ backslash ∷ []
    at_backslash [] long = refl
    at_backslash (d ∷ ds) long = absurd (omega (arith, long, escape_fits d ds))

    choose : (b : Bool) → is_name c ≡ b → (s : Bool) → (c == backslash) ≡ s → c ∷ cs ≡ backslash ∷ []
    choose true is s slashed = let unit : name_unit (c ∷ cs) ≡ 1 = rw is refl in absurd (omega (arith, long, unit))
    choose false is true slashed =
        let same = eqb-true c backslash slashed in
        let unit : name_unit (c ∷ cs) ≡ escape_after cs = rw (is, slashed) refl in
        ap (λ (c : ℕ). c ∷ cs) same ∙ at_backslash cs (omega (arith, long, unit))
    choose false is false slashed = let unit : name_unit (c ∷ cs) ≡ 0 = rw (is, slashed) refl in absurd (omega (arith, long, unit))

-- the start of an ident sequence
start_is_part : (text rest : List ℕ) → IsNameStart text rest → IsNamePart text rest
start_is_part text rest (start_point c e is) = code_point c e (or_left (is_start c || is_ascii_digit c) (c == dash) (or_left (is_start c) (is_ascii_digit c) is))
start_is_part text rest (start_escape said is) = escape said is

record StartBegins (start rest : List ℕ) : Type 0 where
  first : ℕ
  later : List ℕ
  is : start ≡ first ∷ later
  no_dash : (first == dash) ≡ false
  some : 0 < start_unit (first ∷ (later ++ rest))

start_begins : (start rest : List ℕ) → IsNameStart start rest → StartBegins start rest
start_begins start rest (start_point c e is) = record { first = c; later = []; is = e; no_dash = no_dash (c == dash) refl; some = rw is (omega arith) }
  where
    no_dash : (b : Bool) → (c == dash) ≡ b → (c == dash) ≡ false
    no_dash true same = absurd (false≢true (ap is_start (sym (eqb-true c dash same)) ∙ is))
    no_dash false other = other
start_begins start rest (start_escape said is) =
    let len = escape_len said start rest is in
    record { first = backslash; later = len.first ∷ len.more; is = len.is; no_dash = refl; some = omega (arith, len.len) }

pub start_byte : (start rest : List ℕ) → IsNameStart start rest → 0 < length start
start_byte start rest is = let s = start_begins start rest is in omega (arith, ap (λ (t : List ℕ). length t) s.is)

one_and_some : (n : ℕ) → 0 < n → 0 < one_and n
one_and_some zero some = absurd (omega (arith, some))
one_and_some (suc n) some = omega arith

some_one_and : (n : ℕ) → 0 < one_and n → 0 < n
some_one_and zero some = absurd (omega (arith, some))
some_one_and (suc n) some = omega arith

-- an ident sequence begins where the text starts one
pub ident_start : (text rest : List ℕ) → IsIdent text rest → 0 < name_start (text ++ rest)
ident_start text rest (plain start others e is row) = at (start_begins start (others ++ rest) is)
  where
    at : StartBegins start (others ++ rest) → 0 < name_start (text ++ rest)
    at s =
        let joined : text ++ rest ≡ s.first ∷ (s.later ++ (others ++ rest)) =
        ap (λ (t : List ℕ). t ++ rest) (e ∙ ap (λ (t : List ℕ). t ++ others) s.is) ∙ ap (λ (t : List ℕ). s.first ∷ t) (append_assoc s.later others rest) in
        let none = s.no_dash in
        let start : name_start (s.first ∷ (s.later ++ (others ++ rest))) ≡ start_unit (s.first ∷ (s.later ++ (others ++ rest))) = rw none refl in
        let size : name_start (text ++ rest) ≡ name_start (s.first ∷ (s.later ++ (others ++ rest))) = ap name_start joined in
        omega (arith, s.some, start, size)
ident_start text rest (dashed start others e is row) = at (start_begins start (others ++ rest) is)
  where
    at : StartBegins start (others ++ rest) → 0 < name_start (text ++ rest)
    at s =
        let joined : text ++ rest ≡ dash ∷ s.first ∷ (s.later ++ (others ++ rest)) =
        ap (λ (t : List ℕ). t ++ rest) (e ∙ ap (λ (t : List ℕ). dash ∷ (t ++ others)) s.is) ∙ ap (λ (t : List ℕ). dash ∷ s.first ∷ t) (append_assoc s.later others rest) in
        let none = s.no_dash in
        let start : name_start (dash ∷ s.first ∷ (s.later ++ (others ++ rest))) ≡ one_and (start_unit (s.first ∷ (s.later ++ (others ++ rest)))) = rw none refl in
        let size : name_start (text ++ rest) ≡ name_start (dash ∷ s.first ∷ (s.later ++ (others ++ rest))) = ap name_start joined in
        omega (arith, one_and_some (start_unit (s.first ∷ (s.later ++ (others ++ rest)))) s.some, start, size)
ident_start text rest (dashes others e row) =
    let joined : name_start (text ++ rest) ≡ 2 = ap (λ (t : List ℕ). name_start (t ++ rest)) e in
    omega (arith, joined)

-- an ident sequence is a row of parts of names
pub ident_row : (text rest : List ℕ) → IsIdent text rest → IsRowOf IsNamePart rest text
ident_row text rest (plain start others e is row) =
    subst (λ (t : List ℕ). IsRowOf IsNamePart rest t) (sym e) (more start others (start_is_part start (others ++ rest) is) row)
ident_row text rest (dashed start others e is row) =
    subst (λ (t : List ℕ). IsRowOf IsNamePart rest t) (sym e)
    (more (dash ∷ []) (start ++ others) (code_point dash refl refl) (more start others (start_is_part start (others ++ rest) is) row))
ident_row text rest (dashes others e row) =
    subst (λ (t : List ℕ). IsRowOf IsNamePart rest t) (sym e)
    (more (dash ∷ []) (dash ∷ others) (code_point dash refl refl) (more (dash ∷ []) others (code_point dash refl refl) row))

-- the longest ident sequence at the front of a text
pub record IdentHere (text : List ℕ) : Type 0 where
  pub front : List ℕ
  pub rest : List ℕ
  pub joined : text ≡ front ++ rest
  pub ident : IsIdent front rest
  pub stops : name_unit rest ≡ 0

record StartHere (text : List ℕ) : Type 0 where
  piece : List ℕ
  rest : List ℕ
  joined : text ≡ piece ++ rest
  is : IsNameStart piece rest

start_here : (text : List ℕ) → 0 < start_unit text → StartHere text ⊎ (text ≡ backslash ∷ [])
start_here [] some = absurd (omega (arith, some))
start_here (c ∷ cs) some = choose (is_start c) refl (c == backslash) refl
  where
    at_backslash : (cs : List ℕ) → 0 < escape_after cs → StartHere (backslash ∷ cs) ⊎ (backslash ∷ cs ≡ backslash ∷ [])
    at_backslash [] some = inr refl
    at_backslash (d ∷ ds) some =
        let f = escape_piece (d ∷ ds) some (escape_fits d ds) in
        inl (record { piece = f.front; rest = f.rest; joined = f.joined; is = start_escape f.said f.is })

    choose : (b : Bool) → is_start c ≡ b → (s : Bool) → (c == backslash) ≡ s → StartHere (c ∷ cs) ⊎ (c ∷ cs ≡ backslash ∷ [])
    choose true is s slashed = inl (record { piece = c ∷ []; rest = cs; joined = refl; is = start_point c refl is })
    choose false is true slashed =
        let same = eqb-true c backslash slashed in
        let unit : start_unit (c ∷ cs) ≡ escape_after cs = rw (is, slashed) refl in
        subst (λ (c : ℕ). StartHere (c ∷ cs) ⊎ (c ∷ cs ≡ backslash ∷ [])) (sym same) (at_backslash cs (omega (arith, some, unit)))
    choose false is false slashed = let unit : start_unit (c ∷ cs) ≡ 0 = rw (is, slashed) refl in absurd (omega (arith, some, unit))

-- the front of a text, if it is known what makes an ident sequence of the row after it
finish : (text front after : List ℕ) → text ≡ front ++ after → ((others rest : List ℕ) → after ≡ others ++ rest → IsRowOf IsNamePart rest others → IsIdent (front ++ others) rest)
    → RowHere name_unit IsNamePart after → IdentHere text ⊎ IsCutIdent text
finish text front after joined ident r = by r.ends
  where
    whole : text ≡ (front ++ r.front) ++ r.rest
    whole = joined ∙ (ap (λ (t : List ℕ). front ++ t) r.joined ∙ sym (append_assoc front r.front r.rest))

    by : (name_unit r.rest ≡ 0) ⊎ (length r.rest < name_unit r.rest) → IdentHere text ⊎ IsCutIdent text
    by (inl none) = inl (record { front = front ++ r.front; rest = r.rest; joined = whole; ident = ident r.front r.rest r.joined r.row; stops = none })
    by (inr long) =
        let last = long_name r.rest long in
        let row = subst (λ (t : List ℕ). IsRowOf IsNamePart t r.front) last r.row in
        inr (longer (front ++ r.front) (whole ∙ ap (λ (t : List ℕ). (front ++ r.front) ++ t) last) (ident r.front (backslash ∷ []) (r.joined ∙ ap (λ (t : List ℕ). r.front ++ t) last) row))

pub ident_here : (text : List ℕ) → 0 < name_start text → IdentHere text ⊎ IsCutIdent text
ident_here [] some = absurd (omega (arith, some))
ident_here (c ∷ cs) some = choose (c == dash) refl
  where
    after_start : (text : List ℕ) → StartHere text → IdentHere text ⊎ IsCutIdent text
    after_start text s =
        finish text s.piece s.rest s.joined
        (λ others rest e row. plain s.piece others refl (subst (λ (t : List ℕ). IsNameStart s.piece t) e s.is) row)
        (row_here name_unit IsNamePart names s.rest)

    after_dash : (ds : List ℕ) → StartHere ds → IdentHere (dash ∷ ds) ⊎ IsCutIdent (dash ∷ ds)
    after_dash ds s =
        finish (dash ∷ ds) (dash ∷ s.piece) s.rest (ap (λ (t : List ℕ). dash ∷ t) s.joined)
        (λ others rest e row. dashed s.piece others refl (subst (λ (t : List ℕ). IsNameStart s.piece t) e s.is) row)
        (row_here name_unit IsNamePart names s.rest)

    after_dashes : (ds : List ℕ) → IdentHere (dash ∷ dash ∷ ds) ⊎ IsCutIdent (dash ∷ dash ∷ ds)
    after_dashes ds = finish (dash ∷ dash ∷ ds) (dash ∷ dash ∷ []) ds refl (λ others rest e row. dashes others refl row) (row_here name_unit IsNamePart names ds)

    at_start : (text : List ℕ) → StartHere text ⊎ (text ≡ backslash ∷ []) → IdentHere text ⊎ IsCutIdent text
    at_start text (inl s) = after_start text s
    at_start text (inr e) = inr (alone e)

    at_dash_start : (ds : List ℕ) → StartHere ds ⊎ (ds ≡ backslash ∷ []) → IdentHere (dash ∷ ds) ⊎ IsCutIdent (dash ∷ ds)
    at_dash_start ds (inl s) = after_dash ds s
    at_dash_start ds (inr e) = inr (cut_dashed (ap (λ (t : List ℕ). dash ∷ t) e))

    at_dash : (ds : List ℕ) → 0 < cond (begins dash ds) 2 (one_and (start_unit ds)) → (b : Bool) → begins dash ds ≡ b → IdentHere (dash ∷ ds) ⊎ IsCutIdent (dash ∷ ds)
    at_dash [] some b is = absurd (omega (arith, some))
    at_dash (d ∷ ds) some true is = subst (λ (d : ℕ). IdentHere (dash ∷ d ∷ ds) ⊎ IsCutIdent (dash ∷ d ∷ ds)) (sym (eqb-true d dash is)) (after_dashes ds)
    at_dash (d ∷ ds) some false is =
        let one : 0 < one_and (start_unit (d ∷ ds)) = rw is at some in
        at_dash_start (d ∷ ds) (start_here (d ∷ ds) (some_one_and (start_unit (d ∷ ds)) one))

    choose : (b : Bool) → (c == dash) ≡ b → IdentHere (c ∷ cs) ⊎ IsCutIdent (c ∷ cs)
    choose true is =
        let there = rw is at some in
        subst (λ (c : ℕ). IdentHere (c ∷ cs) ⊎ IsCutIdent (c ∷ cs)) (sym (eqb-true c dash is)) (at_dash cs there (begins dash cs) refl)
    choose false is = at_start (c ∷ cs) (start_here (c ∷ cs) (rw is at some))

-- how long they are
pub ident_len : (text : List ℕ) (f : IdentHere text) → run name_unit text ≡ length f.front
ident_len text f = ap (λ (t : List ℕ). run name_unit t) f.joined ∙ row_stops name_unit IsNamePart names f.rest f.front (ident_row f.front f.rest f.ident) f.stops

-- a row of parts of names before a rest, at the front of a text
pub name_le : (text name rest : List ℕ) → text ≡ name ++ rest → IsRowOf IsNamePart rest name → run name_unit text ≡ length name + run name_unit rest
name_le text name rest joined row = ap (λ (t : List ℕ). run name_unit t) joined ∙ row_len name_unit IsNamePart names rest name row

-- what lacks what its last backslash escapes
pub cut_row : (row : List ℕ) → IsRowOf IsNamePart (backslash ∷ []) row → run name_unit (row ++ backslash ∷ []) ≡ suc (length (row ++ backslash ∷ []))
cut_row row is =
    let two : run name_unit (backslash ∷ []) ≡ 2 = refl in
    omega (arith, row_len name_unit IsNamePart names (backslash ∷ []) row is, two, length-append row (backslash ∷ []))

pub cut_ident_len : (text : List ℕ) → IsCutIdent text → run name_unit text ≡ suc (length text)
cut_ident_len text (alone e) = rw e refl
cut_ident_len text (cut_dashed e) = rw e refl
cut_ident_len text (longer name e is) = rw e (cut_row name (ident_row name (backslash ∷ []) is))

pub cut_ident_start : (text : List ℕ) → IsCutIdent text → 0 < name_start text
cut_ident_start text (alone e) = rw e (omega arith)
cut_ident_start text (cut_dashed e) = rw e (omega arith)
cut_ident_start text (longer name e is) = rw e (ident_start name (backslash ∷ []) is)
