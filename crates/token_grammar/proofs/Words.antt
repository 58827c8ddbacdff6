-- Texts that begin with a name, with `-->`, or with a character by itself.
use Rattle.std.proofs.Common.{ℕ, suc, ◌+◌, ◌<◌, ◌≤◌, ◌≡◌, ◌⊎◌, inl, inr, ltb, Bool, true, false, cond, ◌&&◌, ◌==◌, List, [], ◌∷◌, ◌++◌, Ok, Err, Some, length, drop, take, refl, sym, ap, ◌∙◌, subst, arith, append_assoc}
use Rattle.std.specs.Prelude.{codes}
use Rattle.std.specs.Char.{is_ascii_digit, is_ascii_hexdigit}
use Rattle.std.proofs.lemmas.Bool.{and_parts, eqb-true, false≢true, false_from_ne_true, le-ltb, lt-ltb, true≢false}
use Rattle.std.proofs.lemmas.List.{append-nil, drop_all, drop_at, length-append, take_at}
use Rattle.css_model.specs.declared.token.TokenFlaw.TheVariants as flaw
use Rattle.css_model.specs.declared.token.TokenKind.TheVariants as kind
use Rattle.css_model.specs.Text.Characters.{backslash, dash, greater_than, open_round, begins, first_passes, is_newline, is_start}
use Rattle.css_model.specs.Text.Runs.{run}
use Rattle.css_model.specs.Text.TokenAt.{done, named_shape, opened_shape, part_at, rule_at, within, word_at}
use Rattle.css_model.specs.Text.Units.{escape_after, hex_rest, name_start, name_unit, signed_decimal}
use Rattle.css_tokens.proofs.ForCallers.{run_none}
use Rattle.token_grammar.specs.Flaws.{IsCutIdent}
use Rattle.token_grammar.specs.Flaws.IsCut.{in_ident}
use Rattle.token_grammar.specs.Flaws.IsCutIdent.{alone, dashed as cut_dashed, longer}
use Rattle.token_grammar.proofs.ReadRight.{IsReadRight}
use Rattle.token_grammar.specs.Longest.{Answer, IsTaken}
use Rattle.token_grammar.specs.Longest.IsTaken.{token, cut}
use Rattle.token_grammar.specs.Names.{IsIdent, IsUrlName}
use Rattle.token_grammar.specs.Names.IsIdent.{plain, dashed, dashes}
use Rattle.token_grammar.specs.Names.IsNameStart.{code_point as start_point, escape as start_escape}
use Rattle.token_grammar.specs.TokenTexts.{IsBeforeQuote, IsDelim}
use Rattle.token_grammar.specs.TokenTexts.IsTokenText.{comment_close, delim, function, ident}
use Rattle.token_grammar.proofs.Decided.{IsWorse, done_reads, done_size, read_right, worse_or_same}
use Rattle.token_grammar.proofs.FirstBytes.{begins_ident, ident_first, some_of}
use Rattle.token_grammar.proofs.Idents.{IdentHere, cut_ident_len, cut_ident_start, ident_len, ident_row, ident_start, name_le, start_byte}
use Rattle.token_grammar.proofs.Numbers.{digit_number, number_le}
use Rattle.token_grammar.proofs.OtherTexts.{Other, OtherText, UrlText, other_text, rule_symbol}
use Rattle.token_grammar.proofs.OtherTexts.OtherText.{a_number, a_percentage, a_dimension, a_cut_dimension, a_close, an_ident, a_function, a_url, a_cut, a_delim}
use Rattle.token_grammar.proofs.Unescaped.{escape_len}

-- `-->` at the front
abbrev pub closes_comment : List ℕ → Bool
closes_comment [] = false
closes_comment (c ∷ cs) = c == dash && (begins dash cs && begins greater_than (drop 1 cs))

-- a byte of another kind, with which no number and no `-->` begins
pub record Word (c : ℕ) (cs : List ℕ) : Type 0 where
  pub other : Other c
  pub no_number : signed_decimal (c ∷ cs) ≡ 0
  pub no_close : closes_comment (c ∷ cs) ≡ false

pub rule_word : (c : ℕ) (cs : List ℕ) → Other c → signed_decimal (c ∷ cs) ≡ 0 → rule_at (c ∷ cs) ≡ word_at (c ∷ cs)
rule_word c cs o none =
    let test : ltb 0 (signed_decimal (c ∷ cs)) ≡ false = le-ltb 0 (signed_decimal (c ∷ cs)) (omega (arith, none)) in
    let no_less = o.no_less in
    let no_at = o.no_at in
    rule_symbol c cs o ∙ rw (test, no_less, no_at) refl

-- where a name begins, the rule of names is taken
pub rule_named : (c : ℕ) (cs : List ℕ) → Word c cs → 0 < name_start (c ∷ cs) → rule_at (c ∷ cs) ≡ named_shape (c ∷ cs)
rule_named c cs w starts =
    let no_close = w.no_close in
    let test : ltb 0 (name_start (c ∷ cs)) ≡ true = lt-ltb 0 (name_start (c ∷ cs)) starts in
    let word : word_at (c ∷ cs) ≡ named_shape (c ∷ cs) = rw (no_close, test) refl in
    rule_word c cs w.other w.no_number ∙ word

-- what is taken of such a text
pub data WordText (text other more : List ℕ) : Answer → Type 0 where
  w_close : other ≡ codes "-->" → WordText text other more (Ok (Some kind.CommentClose))
  w_ident : IsIdent other more → WordText text other more (Ok (Some kind.Ident))
  w_function : (name : List ℕ) → other ≡ name ++ open_round ∷ [] → IsIdent name (open_round ∷ more) → (IsUrlName name (open_round ∷ more) → IsBeforeQuote more)
      → WordText text other more (Ok (Some kind.Function))
  w_url : (another : Answer) → UrlText text other more another → WordText text other more another
  w_cut : IsCutIdent text → length other ≡ length text → WordText text other more (Err flaw.EndInside)
  w_delim : (d : ℕ) → other ≡ d ∷ [] → IsDelim d more → WordText text other more (Ok (Some (kind.Delim d)))

word_text : (text other more : List ℕ) (another : Answer) → text ≡ other ++ more → signed_decimal text ≡ 0 → OtherText text other more another → WordText text other more another
word_text text other more another joined none (a_number is) = absurd (omega (arith, none, ap signed_decimal joined, (number_le other more is).1))
word_text text other more another joined none (a_percentage front e is) =
    let whole : text ≡ front ++ 37 ∷ more = joined ∙ (ap (λ (t : List ℕ). t ++ more) e ∙ append_assoc front (37 ∷ []) more) in
    absurd (omega (arith, none, ap signed_decimal whole, (number_le front (37 ∷ more) is).1))
word_text text other more another joined none (a_dimension front unit e is named whole_number) =
    let whole : text ≡ front ++ (unit ++ more) = joined ∙ (ap (λ (t : List ℕ). t ++ more) e ∙ append_assoc front unit more) in
    absurd (omega (arith, none, ap signed_decimal whole, (number_le front (unit ++ more) is).1))
word_text text other more another joined none (a_cut_dimension front unit e is named whole_number size) = absurd (omega (arith, none, ap signed_decimal e, (number_le front unit is).1))
word_text text other more another joined none (a_close e) = w_close e
word_text text other more another joined none (an_ident is) = w_ident is
word_text text other more another joined none (a_function name e is no_url) = w_function name e is no_url
word_text text other more another joined none (a_url answer u) = w_url answer u
word_text text other more another joined none (a_cut is size) = w_cut is size
word_text text other more another joined none (a_delim d e is) = w_delim d e is

pub word_case : (c : ℕ) (cs : List ℕ) → Other c → signed_decimal (c ∷ cs) ≡ 0 → (other more : List ℕ) (another : Answer) → c ∷ cs ≡ other ++ more → IsTaken other more another
    → WordText (c ∷ cs) other more another
word_case c cs o none other more another joined taken = word_text (c ∷ cs) other more another joined none (other_text c cs o other more another joined taken)

-- a name before `(` is the longest row of its parts
pub record NameOpened (text name behind : List ℕ) : Type 0 where
  pub len : run name_unit text ≡ length name
  pub tail : drop (length name) text ≡ open_round ∷ behind

pub name_opened : (text name behind : List ℕ) → text ≡ name ++ open_round ∷ behind → IsIdent name (open_round ∷ behind) → NameOpened text name behind
name_opened text name behind joined is =
    let none : run name_unit (open_round ∷ behind) ≡ 0 = run_none name_unit (open_round ∷ behind) refl in
    record {
      len = omega (arith, none, name_le text name (open_round ∷ behind) joined (ident_row name (open_round ∷ behind) is));
      tail = ap (λ (t : List ℕ). drop (length name) t) joined ∙ drop_at name (open_round ∷ behind) (length name) refl;
    }

-- the name and `(` of a function, and those of a url
pub function_opened : (text other more name : List ℕ) → text ≡ other ++ more → other ≡ name ++ open_round ∷ [] → IsIdent name (open_round ∷ more) → NameOpened text name more
function_opened text other more name joined e is =
    name_opened text name more (joined ∙ (ap (λ (t : List ℕ). t ++ more) e ∙ append_assoc name (open_round ∷ []) more)) is

pub url_opened : (text other more : List ℕ) (another : Answer) (u : UrlText text other more another) → NameOpened text u.name (u.before ++ (u.inside ++ (u.after ++ u.tail)))
url_opened text other more another u = name_opened text u.name (u.before ++ (u.inside ++ (u.after ++ u.tail))) u.joined u.named.ident

-- `-->`
close_right : (ds : List ℕ) → Other dash → IsReadRight (dash ∷ dash ∷ greater_than ∷ ds)
close_right ds o =
    let text = dash ∷ dash ∷ greater_than ∷ ds in
    let rule : rule_at text ≡ done kind.CommentClose 3 = rule_word dash (dash ∷ greater_than ∷ ds) o refl in
    read_right text (done kind.CommentClose 3) 3 (done_reads text kind.CommentClose 3 rule (omega arith)) (record {
      front = dash ∷ dash ∷ greater_than ∷ [];
      rest = ds;
      joined = refl;
      len = refl;
      taken = token kind.CommentClose comment_close;
      best = λ other more another e taken. best other more another e (word_case dash (dash ∷ greater_than ∷ ds) o refl other more another e taken);
    })
    (λ s e. done_size kind.CommentClose 3 s e)
  where
    row : run name_unit (dash ∷ dash ∷ greater_than ∷ ds) ≡ 2
    row = refl

    no_open : (name behind : List ℕ) → NameOpened (dash ∷ dash ∷ greater_than ∷ ds) name behind → ⊥
    no_open name behind o =
        let two : length name ≡ 2 = omega (arith, o.len, row) in
        let lists : greater_than ∷ ds ≡ open_round ∷ behind = sym (ap (λ (n : ℕ). drop n (dash ∷ dash ∷ greater_than ∷ ds)) two) ∙ o.tail in
        let wrong : greater_than ≡ open_round = cc (lists) in
        omega (arith, wrong)

    best : (other more : List ℕ) (another : Answer) → dash ∷ dash ∷ greater_than ∷ ds ≡ other ++ more → WordText (dash ∷ dash ∷ greater_than ∷ ds) other more another
        → IsWorse other another (dash ∷ dash ∷ greater_than ∷ []) (Ok (Some kind.CommentClose))
    best other more another joined (w_close e) = inr (ap (λ (t : List ℕ). length t) e, refl)
    best other more another joined (w_ident is) = inl (omega (arith, row, name_le (dash ∷ dash ∷ greater_than ∷ ds) other more joined (ident_row other more is)))
    best other more another joined (w_function name e is no_url) = absurd (no_open name more (function_opened (dash ∷ dash ∷ greater_than ∷ ds) other more name joined e is))
    best other more another joined (w_url answer u) =
        absurd (no_open u.name (u.before ++ (u.inside ++ (u.after ++ u.tail))) (url_opened (dash ∷ dash ∷ greater_than ∷ ds) other more answer u))
    best other more another joined (w_cut is size) = absurd (omega (arith, row, cut_ident_len (dash ∷ dash ∷ greater_than ∷ ds) is))
    best other more another joined (w_delim d e is) = inl (omega (arith, ap (λ (t : List ℕ). length t) e))

pub comment_close_right : (c : ℕ) (cs : List ℕ) → Other c → closes_comment (c ∷ cs) ≡ true → IsReadRight (c ∷ cs)
comment_close_right c [] o is = absurd (false≢true (and_parts (c == dash) false is).1)
comment_close_right c (d ∷ []) o is = absurd (false≢true (and_parts (d == dash) false (and_parts (c == dash) ((d == dash) && false) is).1).1)
comment_close_right c (d ∷ e ∷ es) o is =
    let first = and_parts (c == dash) ((d == dash) && (e == greater_than)) is in
    let second = and_parts (d == dash) (e == greater_than) first.1 in
    let one = eqb-true c dash first.0 in
    let two = eqb-true d dash second.0 in
    let three = eqb-true e greater_than second.1 in
    let same : c ∷ d ∷ e ∷ es ≡ dash ∷ dash ∷ greater_than ∷ es = cc (one, two, three) in
    subst IsReadRight (sym same) (close_right es (subst Other one o))

-- `-->` is not at the front of a word
pub close_absent : (c : ℕ) (cs other more : List ℕ) → Word c cs → c ∷ cs ≡ other ++ more → other ≡ codes "-->" → ⊥
close_absent c cs other more w joined e =
    let closes : closes_comment (c ∷ cs) ≡ true = ap closes_comment (joined ∙ ap (λ (t : List ℕ). t ++ more) e) in
    true≢false (sym closes ∙ w.no_close)

-- a name that begins with no ident-start code point has two bytes
ident_long : (front rest : List ℕ) (d : ℕ) (ds : List ℕ) → IsIdent front rest → front ++ rest ≡ d ∷ ds → is_start d ≡ false → 2 ≤ length front
ident_long front rest d ds (plain start others e (start_point c is_point is) row) first no_start =
    let lists : c ∷ (others ++ rest) ≡ d ∷ ds = sym (ap (λ (t : List ℕ). t ++ rest) (e ∙ ap (λ (t : List ℕ). t ++ others) is_point)) ∙ first in
    let same : d ≡ c = cc (lists) in
    absurd (true≢false (sym is ∙ (ap is_start (sym same) ∙ no_start)))
ident_long front rest d ds (plain start others e (start_escape said is) row) first no_start =
    let len = escape_len said start (others ++ rest) is in
    omega (arith, ap (λ (t : List ℕ). length t) e, length-append start others, ap (λ (t : List ℕ). length t) len.is)
ident_long front rest d ds (dashed start others e is row) first no_start =
    omega (arith, ap (λ (t : List ℕ). length t) e, length-append start others, start_byte start (others ++ rest) is)
ident_long front rest d ds (dashes others e row) first no_start = omega (arith, ap (λ (t : List ℕ). length t) e)

-- a character by itself is shorter than a name that begins with it
pub delim_short : (text other more : List ℕ) (d : ℕ) (f : IdentHere text) → text ≡ other ++ more → other ≡ d ∷ [] → IsDelim d more → length other < length f.front
delim_short text other more d f joined e is =
    omega (arith, ap (λ (t : List ℕ). length t) e, ident_long f.front f.rest d more f.ident (sym f.joined ∙ (joined ∙ ap (λ (t : List ℕ). t ++ more) e)) is.no_start)

module _ (c : ℕ) (cs : List ℕ) (w : Word c cs) where
  pub taken_case : (other more : List ℕ) (another : Answer) → c ∷ cs ≡ other ++ more → IsTaken other more another → WordText (c ∷ cs) other more another
  taken_case other more another joined taken = word_case c cs w.other w.no_number other more another joined taken

  -- a name
  module _ (starts : 0 < name_start (c ∷ cs)) (f : IdentHere (c ∷ cs)) where
    row : run name_unit (c ∷ cs) ≡ length f.front
    row = ident_len (c ∷ cs) f

    pub text_len : suc (length cs) ≡ length f.front + length f.rest
    text_len = ap (λ (t : List ℕ). length t) f.joined ∙ length-append f.front f.rest

    tail : drop (length f.front) (c ∷ cs) ≡ f.rest
    tail = ap (λ (t : List ℕ). drop (length f.front) t) f.joined ∙ drop_at f.front f.rest (length f.front) refl

    pub name_no_longer : (other more : List ℕ) → c ∷ cs ≡ other ++ more → IsIdent other more → length other ≤ length f.front
    name_no_longer other more joined is = omega (arith, row, name_le (c ∷ cs) other more joined (ident_row other more is))

    -- a name before `(` is this one
    pub name_same : (name behind : List ℕ) → NameOpened (c ∷ cs) name behind → (length name ≡ length f.front) × (f.rest ≡ open_round ∷ behind)
    name_same name behind o =
        let size : length name ≡ length f.front = omega (arith, o.len, row) in
        (size, sym tail ∙ (ap (λ (n : ℕ). drop n (c ∷ cs)) (sym size) ∙ o.tail))

    pub no_cut : IsCutIdent (c ∷ cs) → ⊥
    no_cut is = omega (arith, cut_ident_len (c ∷ cs) is, row, text_len)

    pub ident_right : begins open_round f.rest ≡ false → IsReadRight (c ∷ cs)
    ident_right apart =
        let n = length f.front in
        let none : begins open_round (drop (run name_unit (c ∷ cs)) (c ∷ cs)) ≡ false = ap (λ (k : ℕ). begins open_round (drop k (c ∷ cs))) row ∙ (ap (begins open_round) tail ∙ apart) in
        let shape : named_shape (c ∷ cs) ≡ done kind.Ident (run name_unit (c ∷ cs)) = rw none refl in
        read_right (c ∷ cs) (done kind.Ident n) n
        (done_reads (c ∷ cs) kind.Ident n (rule_named c cs w starts ∙ (shape ∙ ap (λ (k : ℕ). done kind.Ident k) row)) (omega (arith, text_len)))
        (record {
          front = f.front;
          rest = f.rest;
          joined = f.joined;
          len = refl;
          taken = token kind.Ident (ident f.front f.ident);
          best = λ other more another e taken. best other more another e (taken_case other more another e taken);
        })
        (λ s e. done_size kind.Ident n s e)
      where
        no_open : (name behind : List ℕ) → NameOpened (c ∷ cs) name behind → ⊥
        no_open name behind o = true≢false (sym (ap (begins open_round) (name_same name behind o).1) ∙ apart)

        best : (other more : List ℕ) (another : Answer) → c ∷ cs ≡ other ++ more → WordText (c ∷ cs) other more another → IsWorse other another f.front (Ok (Some kind.Ident))
        best other more another joined (w_close e) = absurd (close_absent c cs other more w joined e)
        best other more another joined (w_ident is) = by (worse_or_same (length other) (length f.front) (name_no_longer other more joined is))
          where
            by : (length other < length f.front) ⊎ (length other ≡ length f.front) → IsWorse other (Ok (Some kind.Ident)) f.front (Ok (Some kind.Ident))
            by (inl short) = inl short
            by (inr same) = inr (same, refl)
        best other more another joined (w_function name e is no_url) = absurd (no_open name more (function_opened (c ∷ cs) other more name joined e is))
        best other more another joined (w_url answer u) = absurd (no_open u.name (u.before ++ (u.inside ++ (u.after ++ u.tail))) (url_opened (c ∷ cs) other more answer u))
        best other more another joined (w_cut is size) = absurd (no_cut is)
        best other more another joined (w_delim d e is) = inl (delim_short (c ∷ cs) other more d f joined e is)

    -- what the rule of names gives before `(`
    pub opened_rule : (inner : List ℕ) → f.rest ≡ open_round ∷ inner → rule_at (c ∷ cs) ≡ opened_shape f.front (length f.front + 1) inner
    opened_rule inner e =
        let open_here : begins open_round (drop (run name_unit (c ∷ cs)) (c ∷ cs)) ≡ true = ap (λ (k : ℕ). begins open_round (drop k (c ∷ cs))) row ∙ (ap (begins open_round) tail ∙ ap (begins open_round) e) in
        let shape : named_shape (c ∷ cs) ≡ opened_shape (take (run name_unit (c ∷ cs)) (c ∷ cs)) (run name_unit (c ∷ cs) + 1) (drop (run name_unit (c ∷ cs) + 1) (c ∷ cs)) = rw open_here refl in
        let name : take (length f.front) (c ∷ cs) ≡ f.front = ap (λ (t : List ℕ). take (length f.front) t) f.joined ∙ take_at f.front f.rest (length f.front) refl in
        let whole : c ∷ cs ≡ (f.front ++ open_round ∷ []) ++ inner = f.joined ∙ (ap (λ (t : List ℕ). f.front ++ t) e ∙ sym (append_assoc f.front (open_round ∷ []) inner)) in
        let behind : drop (length f.front + 1) (c ∷ cs) ≡ inner =
        ap (λ (t : List ℕ). drop (length f.front + 1) t) whole ∙ drop_at (f.front ++ open_round ∷ []) inner (length f.front + 1) (length-append f.front (open_round ∷ [])) in
        rule_named c cs w starts
        ∙ (shape
        ∙ (ap (λ (k : ℕ). opened_shape (take k (c ∷ cs)) (k + 1) (drop (k + 1) (c ∷ cs))) row
        ∙ (ap (λ (t : List ℕ). opened_shape t (length f.front + 1) (drop (length f.front + 1) (c ∷ cs))) name ∙ ap (λ (t : List ℕ). opened_shape f.front (length f.front + 1) t) behind)))

    -- a function, where nothing there is a url
    pub function_right : (inner : List ℕ) → f.rest ≡ open_round ∷ inner → rule_at (c ∷ cs) ≡ done kind.Function (length f.front + 1)
        → (IsUrlName f.front (open_round ∷ inner) → IsBeforeQuote inner)
        → ((other more : List ℕ) (another : Answer) → UrlText (c ∷ cs) other more another → ⊥)
        → IsReadRight (c ∷ cs)
    function_right inner e rule quoted no_url =
        let n = length f.front + 1 in
        let behind : length f.rest ≡ suc (length inner) = ap (λ (t : List ℕ). length t) e in
        read_right (c ∷ cs) (done kind.Function n) n (done_reads (c ∷ cs) kind.Function n rule (omega (arith, text_len, behind)))
        (record {
          front = f.front ++ open_round ∷ [];
          rest = inner;
          joined = f.joined ∙ (ap (λ (t : List ℕ). f.front ++ t) e ∙ sym (append_assoc f.front (open_round ∷ []) inner));
          len = length-append f.front (open_round ∷ []);
          taken = token kind.Function (function f.front (subst (λ (t : List ℕ). IsIdent f.front t) e f.ident) quoted);
          best = λ other more another e taken. best other more another e (taken_case other more another e taken);
        })
        (λ s e. done_size kind.Function n s e)
      where
        size : length (f.front ++ open_round ∷ []) ≡ suc (length f.front)
        size = length-append f.front (open_round ∷ []) ∙ omega arith

        best : (other more : List ℕ) (another : Answer) → c ∷ cs ≡ other ++ more → WordText (c ∷ cs) other more another
            → IsWorse other another (f.front ++ open_round ∷ []) (Ok (Some kind.Function))
        best other more another joined (w_close e) = absurd (close_absent c cs other more w joined e)
        best other more another joined (w_ident is) = inl (omega (arith, size, name_no_longer other more joined is))
        best other more another joined (w_function name e is no_url) =
            let same = (name_same name more (function_opened (c ∷ cs) other more name joined e is)).0 in
            inr (omega (arith, size, same, ap (λ (t : List ℕ). length t) e, length-append name (open_round ∷ [])), refl)
        best other more another joined (w_url answer u) = absurd (no_url other more answer u)
        best other more another joined (w_cut is sizes) = absurd (no_cut is)
        best other more another joined (w_delim d e is) = inl (omega (arith, size, delim_short (c ∷ cs) other more d f joined e is))

  -- a name that lacks what its last backslash escapes
  pub cut_right : IsCutIdent (c ∷ cs) → IsReadRight (c ∷ cs)
  cut_right seq =
      let n = run name_unit (c ∷ cs) in
      let gone : drop n (c ∷ cs) ≡ [] = drop_all n (c ∷ cs) (omega (arith, cut_ident_len (c ∷ cs) seq)) in
      let none : begins open_round (drop n (c ∷ cs)) ≡ false = ap (begins open_round) gone in
      let shape : named_shape (c ∷ cs) ≡ done kind.Ident n = rw none refl in
      let over : ltb (suc (length cs)) n ≡ true = lt-ltb (suc (length cs)) n (omega (arith, cut_ident_len (c ∷ cs) seq)) in
      let beyond : within (c ∷ cs) (done kind.Ident n) ≡ Err flaw.EndInside = rw over refl in
      let reads : part_at (c ∷ cs) ≡ Err flaw.EndInside = ap (within (c ∷ cs)) (rule_named c cs w (cut_ident_start (c ∷ cs) seq) ∙ shape) ∙ beyond in
      read_right (c ∷ cs) (Err flaw.EndInside) (suc (length cs)) reads (record {
        front = c ∷ cs;
        rest = [];
        joined = sym (append-nil (c ∷ cs));
        len = refl;
        taken = cut (in_ident seq) refl;
        best = λ other more another e taken. best other more another e (taken_case other more another e taken);
      })
      (λ s wrong. absurd (cc (wrong)))
    where
      long : run name_unit (c ∷ cs) ≡ suc (suc (length cs))
      long = cut_ident_len (c ∷ cs) seq

      shorter : (name more : List ℕ) → c ∷ cs ≡ name ++ more → IsIdent name more → length name < suc (length cs)
      shorter name [] e is =
          let none : run name_unit [] ≡ 0 = refl in
          absurd (omega (arith, long, name_le (c ∷ cs) name [] e (ident_row name [] is), none, ap (λ (t : List ℕ). length t) e, length-append name []))
      shorter name (d ∷ ds) e is = omega (arith, ap (λ (t : List ℕ). length t) e, length-append name (d ∷ ds))

      no_open : (name behind : List ℕ) → c ∷ cs ≡ name ++ open_round ∷ behind → NameOpened (c ∷ cs) name behind → ⊥
      no_open name behind e o = omega (arith, long, o.len, ap (λ (t : List ℕ). length t) e, length-append name (open_round ∷ behind))

      -- a backslash at the end is no character by itself
      single : (other more : List ℕ) (d : ℕ) → c ∷ cs ≡ d ∷ more → IsDelim d more → IsCutIdent (c ∷ cs) → 1 < suc (length cs)
      single other more d e is (alone whole) =
          let lists : d ∷ more ≡ backslash ∷ [] = sym e ∙ whole in
          let first : d ≡ backslash = cc (lists) in
          let none : more ≡ [] = cc (lists) in
          absurd (false≢true (sym (ap (first_passes is_newline) none) ∙ is.lone first))
      single other more d e is (cut_dashed whole) = omega (arith, ap (λ (t : List ℕ). length t) whole)
      single other more d e is (longer name whole named) =
          omega (arith, ap (λ (t : List ℕ). length t) whole, length-append name (backslash ∷ []), some_of begins_ident name (ident_first name (backslash ∷ []) named))

      best : (other more : List ℕ) (another : Answer) → c ∷ cs ≡ other ++ more → WordText (c ∷ cs) other more another → IsWorse other another (c ∷ cs) (Err flaw.EndInside)
      best other more another joined (w_close e) = absurd (close_absent c cs other more w joined e)
      best other more another joined (w_ident is) = inl (shorter other more joined is)
      best other more another joined (w_function name e is no_url) =
          absurd (no_open name more (joined ∙ (ap (λ (t : List ℕ). t ++ more) e ∙ append_assoc name (open_round ∷ []) more)) (function_opened (c ∷ cs) other more name joined e is))
      best other more another joined (w_url answer u) = absurd (no_open u.name (u.before ++ (u.inside ++ (u.after ++ u.tail))) u.joined (url_opened (c ∷ cs) other more answer u))
      best other more another joined (w_cut is size) = inr (size, refl)
      best other more another joined (w_delim d e is) =
          inl (omega (arith, ap (λ (t : List ℕ). length t) e, single other more d (joined ∙ ap (λ (t : List ℕ). t ++ more) e) is seq))

  -- a character by itself
  pub lone_right : name_start (c ∷ cs) ≡ 0 → IsReadRight (c ∷ cs)
  lone_right none =
      let test : ltb 0 (name_start (c ∷ cs)) ≡ false = le-ltb 0 (name_start (c ∷ cs)) (omega (arith, none)) in
      let apart = w.no_close in
      let no_sign = w.other.no_sign in
      let word : word_at (c ∷ cs) ≡ done (kind.Delim c) 1 = rw (apart, test, no_sign) refl in
      read_right (c ∷ cs) (done (kind.Delim c) 1) 1 (done_reads (c ∷ cs) (kind.Delim c) 1 (rule_word c cs w.other w.no_number ∙ word) (omega arith)) (record {
        front = c ∷ [];
        rest = cs;
        joined = refl;
        len = refl;
        taken = token (kind.Delim c) (delim c is_delim);
        best = λ other more another e taken. best other more another e (taken_case other more another e taken);
      })
      (λ s e. done_size (kind.Delim c) 1 s e)
    where
      no_digit : is_ascii_digit c ≡ false
      no_digit = false_from_ne_true _ (λ digit. omega (arith, w.no_number, digit_number c cs digit))

      no_start : is_start c ≡ false
      no_start = false_from_ne_true _ (λ start. by start (c == dash) refl)
        where
          by : is_start c ≡ true → (b : Bool) → (c == dash) ≡ b → ⊥
          by start true same = false≢true (ap is_start (sym (eqb-true c dash same)) ∙ start)
          by start false other =
              let one : name_start (c ∷ cs) ≡ 1 = rw (other, start) refl in
              omega (arith, none, one)

      at_backslash : (ds : List ℕ) → escape_after ds ≡ 0 → first_passes is_newline ds ≡ true
      at_backslash [] stops = absurd (omega (arith, stops))
      at_backslash (d ∷ ds) stops = by (is_newline d) refl
        where
          two : (b : Bool) (n : ℕ) → cond b (2 + n) 2 ≡ 0 → ⊥
          two true n e = omega (arith, e)
          two false n e = omega (arith, e)

          by : (b : Bool) → is_newline d ≡ b → is_newline d ≡ true
          by true line = line
          by false line = absurd (two (is_ascii_hexdigit d) (hex_rest 5 ds) (rw line at stops))

      lone : c ≡ backslash → first_passes is_newline cs ≡ true
      lone e =
          let there : name_start (backslash ∷ cs) ≡ 0 = ap (λ (c : ℕ). name_start (c ∷ cs)) (sym e) ∙ none in
          at_backslash cs there

      is_delim : IsDelim c cs
      is_delim = record {
        no_white = w.other.no_white;
        no_quote = w.other.no_quote;
        no_sign = w.other.no_sign;
        no_digit = no_digit;
        no_start = no_start;
        lone = lone;
      }

      no_name : (name rest : List ℕ) → c ∷ cs ≡ name ++ rest → IsIdent name rest → ⊥
      no_name name rest joined is = omega (arith, none, ap name_start joined, ident_start name rest is)

      best : (other more : List ℕ) (another : Answer) → c ∷ cs ≡ other ++ more → WordText (c ∷ cs) other more another → IsWorse other another (c ∷ []) (Ok (Some (kind.Delim c)))
      best other more another joined (w_close e) = absurd (close_absent c cs other more w joined e)
      best other more another joined (w_ident is) = absurd (no_name other more joined is)
      best other more another joined (w_function name e is no_url) =
          absurd (no_name name (open_round ∷ more) (joined ∙ (ap (λ (t : List ℕ). t ++ more) e ∙ append_assoc name (open_round ∷ []) more)) is)
      best other more another joined (w_url answer u) = absurd (no_name u.name (open_round ∷ (u.before ++ (u.inside ++ (u.after ++ u.tail)))) u.joined u.named.ident)
      best other more another joined (w_cut is size) = absurd (omega (arith, none, cut_ident_start (c ∷ cs) is))
      best other more another joined (w_delim d e is) =
          let lists : c ∷ cs ≡ d ∷ more = joined ∙ ap (λ (t : List ℕ). t ++ more) e in
          let same : d ≡ c = cc (lists) in
          inr (ap (λ (t : List ℕ). length t) e, ap (λ (d : ℕ). let a : Answer = Ok (Some (kind.Delim d)) in a) same)
