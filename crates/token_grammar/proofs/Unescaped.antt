-- What a text says by the rules of escapes is what `unescaped` computes.
use Rattle.std.proofs.Common.{ℕ, zero, suc, ◌+◌, ◌*◌, ◌≤◌, ◌≡◌, ◌⊎◌, ◌||◌, inl, inr, Bool, true, false, cond, ◌==◌, List, [], ◌∷◌, ◌++◌, length, drop, refl, sym, ap, ◌∙◌, subst, arith, append_assoc}
use Rattle.std.specs.Prelude.{fold, encode_utf8}
use Rattle.std.specs.Char.{is_ascii_hexdigit, digit_value}
use Rattle.std.specs.List.{list_all}
use Rattle.std.proofs.lemmas.Bool.{and_parts, and_from, eqb-true, eq-eqb, false≢true, false_from_ne_true, or_cases, or_right}
use Rattle.std.proofs.lemmas.List.{append-nil, drop_at, length-append}
use Rattle.css_model.specs.Lists.{less_one}
use Rattle.css_model.specs.Text.Characters.{backslash, carriage_return, line_feed, is_newline, is_white, begins, first_passes}
use Rattle.css_model.specs.Text.Names.{after_backslash_len, after_backslash_text, byte_text, code_points, escaped_code, hex_value, replacement, unescaped, unescaped_from}
use Rattle.css_model.specs.Text.Units.{escape_after, hex_rest, white_unit}
use Rattle.token_grammar.specs.Escapes.{AreHexDigits, IsEscape, Says, hex_number}
use Rattle.token_grammar.specs.Escapes.IsEscape.{of_digits, of_code_point}
use Rattle.token_grammar.specs.Escapes.Says.{nothing, plain, escape, newline as past_newline, at_end}
use Rattle.token_grammar.specs.Rows.{IsNewline, IsTheWhite}
use Rattle.token_grammar.specs.Rows.IsNewline.{one, both}
use Rattle.token_grammar.specs.Rows.IsTheWhite.{none, blank, newline}
use Rattle.token_grammar.specs.Laws.{NamesAreDecoded, NamesAreUnescaped}

pub unescaped_from-drop : (left : ℕ) (text : List ℕ) → unescaped_from left text ≡ unescaped (drop left text)
unescaped_from-drop zero text = refl
unescaped_from-drop (suc left) [] = refl
unescaped_from-drop (suc left) (c ∷ cs) = unescaped_from-drop left cs

-- what a backslash says that takes n of the bytes after it
past_backslash : (n : ℕ) (text : List ℕ) (said : List ℕ) → after_backslash_len text ≡ suc n → after_backslash_text text ≡ said
    → unescaped (backslash ∷ text) ≡ said ++ unescaped (drop n text)
past_backslash n text said len says =
    ap (λ (m : ℕ). after_backslash_text text ++ unescaped_from (less_one m) text) len
    ∙ ap (λ (front : List ℕ). front ++ unescaped_from n text) says
    ∙ ap (λ (rest : List ℕ). said ++ rest) (unescaped_from-drop n text)

pub newline_white : (c : ℕ) → is_newline c ≡ true → is_white c ≡ true
newline_white c is = or_right (c == 32 || c == 9) (is_newline c) is

-- a newline is one white space
pub line_unit : (line rest : List ℕ) → IsNewline line rest → white_unit (line ++ rest) ≡ length line
line_unit line rest (both e) = rw e refl
line_unit line rest (one c e is whole) = rw e (by (c == carriage_return) refl)
  where
    white : is_white c ≡ true
    white = newline_white c is

    by : (b : Bool) → (c == carriage_return) ≡ b → white_unit (c ∷ rest) ≡ 1
    by true return = let apart = whole (eqb-true c carriage_return return) in rw (white, apart, return) refl
    by false return = rw (white, return) refl

pub line_some : (rest : List ℕ) → IsNewline [] rest → ⊥
line_some rest (one c e is whole) = absurd (cc (e))
line_some rest (both e) = absurd (cc (e))

pub line_first : (c : ℕ) (cs rest : List ℕ) → IsNewline (c ∷ cs) rest → is_newline c ≡ true
line_first c cs rest (one d e is whole) = let same : c ≡ d = cc (e) in ap is_newline same ∙ is
line_first c cs rest (both e) = let same : c ≡ carriage_return = cc (e) in ap is_newline same

pub the_white_unit : (white rest : List ℕ) → IsTheWhite white rest → white_unit (white ++ rest) ≡ length white
the_white_unit white rest (none e apart) = rw e (by rest apart)
  where
    by : (rest : List ℕ) → first_passes is_white rest ≡ false → white_unit rest ≡ 0
    by [] apart = refl
    by (c ∷ cs) apart = rw apart refl
the_white_unit white rest (blank c e is no_line) = rw e (rw (is, no_return) refl)
  where
    no_return : (c == carriage_return) ≡ false
    no_return = false_from_ne_true _ (λ yes. false≢true (sym no_line ∙ rw (eqb-true c carriage_return yes) refl))
the_white_unit white rest (newline whole) = line_unit white rest whole

-- hex digits that are all of an escape: as many as there may be, or before another byte
abbrev Ends : ℕ → List ℕ → List ℕ → Type 0
Ends n digits rest = (length digits ≡ n) ⊎ (first_passes is_ascii_hexdigit rest ≡ false)

ends_later : (n d : ℕ) (ds rest : List ℕ) → Ends (suc n) (d ∷ ds) rest → Ends n ds rest
ends_later n d ds rest (inl most) = inl (omega (arith, most))
ends_later n d ds rest (inr other) = inr other

hex_value_is : (n value : ℕ) (digits rest : List ℕ) → list_all is_ascii_hexdigit digits ≡ true → length digits ≤ n → Ends n digits rest
    → hex_value n value (digits ++ rest) ≡ fold (λ number digit. number * 16 + digit_value digit) value digits
hex_value_is zero value [] [] all few ends = refl
hex_value_is zero value [] (c ∷ cs) all few ends = refl
hex_value_is (suc n) value [] [] all few ends = refl
hex_value_is (suc n) value [] (c ∷ cs) all few (inl most) = absurd (omega (arith, most))
hex_value_is (suc n) value [] (c ∷ cs) all few (inr other) = rw other refl
hex_value_is zero value (d ∷ ds) rest all few ends = absurd (omega (arith, few))
hex_value_is (suc n) value (d ∷ ds) rest all few ends =
    let two = and_parts (is_ascii_hexdigit d) (list_all is_ascii_hexdigit ds) all in
    rw two.0 (hex_value_is n (value * 16 + digit_value d) ds rest two.1 (omega (arith, few)) (ends_later n d ds rest ends))

hex_rest_zero : (text : List ℕ) → hex_rest zero text ≡ white_unit text
hex_rest_zero [] = refl
hex_rest_zero (c ∷ cs) = refl

hex_rest_none : (n : ℕ) (text : List ℕ) → first_passes is_ascii_hexdigit text ≡ false → hex_rest n text ≡ white_unit text
hex_rest_none zero text other = hex_rest_zero text
hex_rest_none (suc n) [] other = refl
hex_rest_none (suc n) (c ∷ cs) other = rw other refl

pub hex_rest_is : (n : ℕ) (digits rest : List ℕ) → list_all is_ascii_hexdigit digits ≡ true → length digits ≤ n → Ends n digits rest
    → hex_rest n (digits ++ rest) ≡ length digits + white_unit rest
hex_rest_is zero [] rest all few ends = hex_rest_zero rest ∙ omega arith
hex_rest_is (suc n) [] rest all few (inl most) = absurd (omega (arith, most))
hex_rest_is (suc n) [] rest all few (inr other) = hex_rest_none (suc n) rest other ∙ omega arith
hex_rest_is zero (d ∷ ds) rest all few ends = absurd (omega (arith, few))
hex_rest_is (suc n) (d ∷ ds) rest all few ends =
    let two = and_parts (is_ascii_hexdigit d) (list_all is_ascii_hexdigit ds) all in
    let later = hex_rest_is n ds rest two.1 (omega (arith, few)) (ends_later n d ds rest ends) in
    rw two.0 (omega (arith, later))

-- a newline is no hex digit
pub hex_no_newline : (c : ℕ) → is_ascii_hexdigit c ≡ true → is_newline c ≡ false
hex_no_newline c hex = false_from_ne_true _ (λ yes. by (or_cases (c == 10 || c == 13) (c == 12) yes))
  where
    at : (b : ℕ) → is_ascii_hexdigit b ≡ false → (c == b) ≡ true → ⊥
    at b other same = false≢true (sym other ∙ (ap is_ascii_hexdigit (sym (eqb-true c b same)) ∙ hex))

    two : (c == 10 ≡ true) ⊎ (c == 13 ≡ true) → ⊥
    two (inl e) = at 10 refl e
    two (inr e) = at 13 refl e

    by : ((c == 10 || c == 13) ≡ true) ⊎ (c == 12 ≡ true) → ⊥
    by (inl e) = two (or_cases (c == 10) (c == 13) e)
    by (inr e) = at 12 refl e

digits_say : (digits white rest : List ℕ) → AreHexDigits digits (white ++ rest) → IsTheWhite white rest
    → unescaped (backslash ∷ (digits ++ (white ++ rest))) ≡ encode_utf8 (escaped_code (hex_number digits)) ++ unescaped rest
digits_say [] white rest digits is = absurd (omega (arith, digits.some))
digits_say (d ∷ ds) white rest digits is =
    let all = digits.each in
    let few = digits.few in
    let two = and_parts (is_ascii_hexdigit d) (list_all is_ascii_hexdigit ds) all in
    let other = hex_no_newline d two.0 in
    let text = d ∷ (ds ++ (white ++ rest)) in
    let value = hex_value_is 6 0 (d ∷ ds) (white ++ rest) all few digits.all in
    let size = hex_rest_is 5 ds (white ++ rest) two.1 (omega (arith, few)) (ends_later 5 d ds (white ++ rest) digits.all) in
    let unit = the_white_unit white rest is in
    let n = length (d ∷ ds) + length white in
    let len : after_backslash_len text ≡ suc n = rw (other, two.0) (omega (arith, size, unit)) in
    let code = encode_utf8 (escaped_code (hex_value 6 0 text)) in
    let says : after_backslash_text text ≡ encode_utf8 (escaped_code (hex_number (d ∷ ds))) =
    ap (λ (b : Bool). cond b [] (cond (is_ascii_hexdigit d) code (byte_text d))) other
    ∙ (ap (λ (b : Bool). cond b code (byte_text d)) two.0 ∙ ap (λ (m : ℕ). encode_utf8 (escaped_code m)) value) in
    let joined : text ≡ ((d ∷ ds) ++ white) ++ rest = sym (append_assoc (d ∷ ds) white rest) in
    let behind : drop n text ≡ rest = ap (λ (cs : List ℕ). drop n cs) joined ∙ drop_at ((d ∷ ds) ++ white) rest n (length-append (d ∷ ds) white) in
    past_backslash n text (encode_utf8 (escaped_code (hex_number (d ∷ ds)))) len says
    ∙ ap (λ (cs : List ℕ). encode_utf8 (escaped_code (hex_number (d ∷ ds))) ++ unescaped cs) behind

line_says : (line rest : List ℕ) → IsNewline line rest → unescaped (backslash ∷ (line ++ rest)) ≡ unescaped rest
line_says [] rest whole = absurd (line_some rest whole)
line_says (c ∷ cs) rest whole =
    let is = line_first c cs rest whole in
    let unit = line_unit (c ∷ cs) rest whole in
    let len : after_backslash_len (c ∷ (cs ++ rest)) ≡ suc (suc (length cs)) =
    ap (λ (b : Bool). cond b (1 + white_unit (c ∷ (cs ++ rest))) (escape_after (c ∷ (cs ++ rest)))) is ∙ omega (arith, unit) in
    let says : after_backslash_text (c ∷ (cs ++ rest)) ≡ [] = rw is refl in
    past_backslash (suc (length cs)) (c ∷ (cs ++ rest)) [] len says ∙ ap unescaped (drop_at (c ∷ cs) rest (suc (length cs)) refl)

-- an escape, and what it says
pub escape_says : (said text rest : List ℕ) → IsEscape said text rest → unescaped (text ++ rest) ≡ said ++ unescaped rest
escape_says said text rest (of_digits digits white e all is says) =
    ap (λ (t : List ℕ). unescaped (t ++ rest)) e
    ∙ ap (λ (t : List ℕ). unescaped (backslash ∷ t)) (append_assoc digits white rest)
    ∙ digits_say digits white rest all is
    ∙ ap (λ (s : List ℕ). s ++ unescaped rest) (sym says)
escape_says said text rest (of_code_point c e line hex says) =
    let len : after_backslash_len (c ∷ rest) ≡ 2 = rw (line, hex) refl in
    let what : after_backslash_text (c ∷ rest) ≡ byte_text c = rw (line, hex) refl in
    ap (λ (t : List ℕ). unescaped (t ++ rest)) e
    ∙ past_backslash 1 (c ∷ rest) (byte_text c) len what
    ∙ ap (λ (s : List ℕ). s ++ unescaped rest) (sym says)

pub says_unescaped : (text said : List ℕ) → Says text said → unescaped text ≡ said
says_unescaped text said nothing = refl
says_unescaped text said (plain c rest more other says) = rw other (ap (λ (cs : List ℕ). byte_text c ++ cs) (says_unescaped rest more says))
says_unescaped text said (escape text_of rest first more is says) = escape_says first text_of rest is ∙ ap (λ (cs : List ℕ). first ++ cs) (says_unescaped rest more says)
says_unescaped text said (past_newline line rest more whole says) = line_says line rest whole ∙ says_unescaped rest more says
says_unescaped text said at_end = append-nil (encode_utf8 replacement)

-- the hex digits at the front of a text, at most n of them
pub record FrontDigits (n : ℕ) (text : List ℕ) : Type 0 where
  pub digits : List ℕ
  pub rest : List ℕ
  pub joined : text ≡ digits ++ rest
  pub few : length digits ≤ n
  pub each : list_all is_ascii_hexdigit digits ≡ true
  pub ends : Ends n digits rest

pub front_digits : (n : ℕ) (text : List ℕ) → FrontDigits n text
front_digits zero text = record { digits = []; rest = text; joined = refl; few = omega arith; each = refl; ends = inl refl }
front_digits (suc n) [] = record { digits = []; rest = []; joined = refl; few = omega arith; each = refl; ends = inr refl }
front_digits (suc n) (c ∷ cs) = by (is_ascii_hexdigit c) refl (front_digits n cs)
  where
    more : (f : FrontDigits n cs) → Ends n f.digits f.rest → Ends (suc n) (c ∷ f.digits) f.rest
    more f (inl most) = inl (omega (arith, most))
    more f (inr other) = inr other

    by : (b : Bool) → is_ascii_hexdigit c ≡ b → FrontDigits n cs → FrontDigits (suc n) (c ∷ cs)
    by true hex f = record {
      digits = c ∷ f.digits;
      rest = f.rest;
      joined = ap (λ (t : List ℕ). c ∷ t) f.joined;
      few = omega (arith, f.few);
      each = and_from (is_ascii_hexdigit c) (list_all is_ascii_hexdigit f.digits) hex f.each;
      ends = more f f.ends;
    }
    by false hex f = record { digits = []; rest = c ∷ cs; joined = refl; few = omega arith; each = refl; ends = inr hex }

-- the newline at the front of a text
pub record FrontLine (text : List ℕ) : Type 0 where
  pub line : List ℕ
  pub rest : List ℕ
  pub joined : text ≡ line ++ rest
  pub whole : IsNewline line rest

pub front_line : (c : ℕ) (cs : List ℕ) → is_newline c ≡ true → FrontLine (c ∷ cs)
front_line c cs is = by (c == carriage_return) refl cs (begins line_feed cs) refl
  where
    by : (b : Bool) → (c == carriage_return) ≡ b → (cs : List ℕ) → (e : Bool) → begins line_feed cs ≡ e → FrontLine (c ∷ cs)
    by b return [] e feed = record { line = c ∷ []; rest = []; joined = refl; whole = one c refl is (λ _. refl) }
    by true return (d ∷ ds) true feed =
        let same : c ∷ d ∷ ds ≡ carriage_return ∷ line_feed ∷ ds = rw (eqb-true c carriage_return return, eqb-true d line_feed feed) refl in
        record { line = carriage_return ∷ line_feed ∷ []; rest = ds; joined = same; whole = both refl }
    by b return (d ∷ ds) false feed = record { line = c ∷ []; rest = d ∷ ds; joined = refl; whole = one c refl is (λ _. feed) }
    by false return (d ∷ ds) true feed = record {
      line = c ∷ [];
      rest = d ∷ ds;
      joined = refl;
      whole = one c refl is (λ e. absurd (false≢true (sym return ∙ eq-eqb c carriage_return e)));
    }

pub record FrontWhite (text : List ℕ) : Type 0 where
  pub white : List ℕ
  pub rest : List ℕ
  pub joined : text ≡ white ++ rest
  pub is : IsTheWhite white rest

pub front_white : (text : List ℕ) → FrontWhite text
front_white [] = record { white = []; rest = []; joined = refl; is = none refl refl }
front_white (c ∷ cs) = by (is_white c) refl (is_newline c) refl
  where
    of_line : FrontLine (c ∷ cs) → FrontWhite (c ∷ cs)
    of_line f = record { white = f.line; rest = f.rest; joined = f.joined; is = newline f.whole }

    by : (b : Bool) → is_white c ≡ b → (n : Bool) → is_newline c ≡ n → FrontWhite (c ∷ cs)
    by false white n line = record { white = []; rest = c ∷ cs; joined = refl; is = none refl white }
    by true white true line = of_line (front_line c cs line)
    by true white false line = record { white = c ∷ []; rest = cs; joined = refl; is = blank c refl white line }

-- an escape at the front of a text
pub record EscapeHere (text : List ℕ) : Type 0 where
  pub front : List ℕ
  pub rest : List ℕ
  pub said : List ℕ
  pub joined : text ≡ front ++ rest
  pub is : IsEscape said front rest

pub escape_here : (d : ℕ) (ds : List ℕ) → is_newline d ≡ false → EscapeHere (backslash ∷ d ∷ ds)
escape_here d ds line = by (is_ascii_hexdigit d) refl (front_digits 5 ds)
  where
    behind : is_ascii_hexdigit d ≡ true → (f : FrontDigits 5 ds) → FrontWhite f.rest → EscapeHere (backslash ∷ d ∷ ds)
    behind hex f g =
        let digits = d ∷ f.digits in
        let are : AreHexDigits digits (g.white ++ g.rest) = record {
          some = omega arith;
          few = omega (arith, f.few);
          each = and_from (is_ascii_hexdigit d) (list_all is_ascii_hexdigit f.digits) hex f.each;
          all = most f.ends;
        } in
        record {
          front = backslash ∷ (digits ++ g.white);
          rest = g.rest;
          said = encode_utf8 (escaped_code (hex_number digits));
          joined = ap (λ (t : List ℕ). backslash ∷ d ∷ t) (f.joined ∙ (ap (λ (t : List ℕ). f.digits ++ t) g.joined ∙ sym (append_assoc f.digits g.white g.rest)));
          is = of_digits digits g.white refl are g.is refl;
        }
      where
        most : Ends 5 f.digits f.rest → Ends 6 (d ∷ f.digits) (g.white ++ g.rest)
        most (inl five) = inl (omega (arith, five))
        most (inr other) = inr (ap (first_passes is_ascii_hexdigit) (sym g.joined) ∙ other)

    by : (b : Bool) → is_ascii_hexdigit d ≡ b → FrontDigits 5 ds → EscapeHere (backslash ∷ d ∷ ds)
    by true hex f = behind hex f (front_white f.rest)
    by false hex f = record { front = backslash ∷ d ∷ []; rest = ds; said = byte_text d; joined = refl; is = of_code_point d refl line hex refl }

-- how many bytes an escape takes
pub record EscapeLen (text rest : List ℕ) : Type 0 where
  pub first : ℕ
  pub more : List ℕ
  pub is : text ≡ backslash ∷ first ∷ more
  pub no_line : is_newline first ≡ false
  pub len : escape_after (first ∷ (more ++ rest)) ≡ suc (suc (length more))

pub escape_len : (said text rest : List ℕ) → IsEscape said text rest → EscapeLen text rest
escape_len said text rest (of_code_point c e line hex says) = record { first = c; more = []; is = e; no_line = line; len = rw (line, hex) refl }
escape_len said text rest (of_digits digits white e all is says) = by digits e all
  where
    by : (digits : List ℕ) → text ≡ backslash ∷ (digits ++ white) → AreHexDigits digits (white ++ rest) → EscapeLen text rest
    by [] e all = absurd (omega (arith, all.some))
    by (d ∷ ds) e all =
        let two = and_parts (is_ascii_hexdigit d) (list_all is_ascii_hexdigit ds) all.each in
        let other = hex_no_newline d two.0 in
        let size = hex_rest_is 5 ds (white ++ rest) two.1 (omega (arith, all.few)) (ends_later 5 d ds (white ++ rest) all.all) in
        let unit = the_white_unit white rest is in
        let joined : hex_rest 5 ((ds ++ white) ++ rest) ≡ hex_rest 5 (ds ++ (white ++ rest)) = ap (hex_rest 5) (append_assoc ds white rest) in
        let both = length-append ds white in
        record { first = d; more = ds ++ white; is = e; no_line = other; len = rw (other, two.0) (omega (arith, size, unit, joined, both)) }

-- a text says something
abbrev SaysSome : List ℕ → Type 0
SaysSome text = (said : List ℕ) × Says text said

says_some : (n : ℕ) (text : List ℕ) → length text ≤ n → SaysSome text
says_some n [] short = ([], nothing)
says_some zero (c ∷ cs) short = absurd (omega arith)
says_some (suc n) (c ∷ cs) short = by (c == backslash) refl (λ (text : List ℕ) (short : length text ≤ n). says_some n text short)
  where
    at_line : (ds : List ℕ) → length ds ≤ n → ((text : List ℕ) → length text ≤ n → SaysSome text) → FrontLine ds → SaysSome (backslash ∷ ds)
    at_line ds short later f =
        let sizes = length-append f.line f.rest in
        let rest = later f.rest (omega (arith, sizes, ap length f.joined, short)) in
        subst (λ (t : List ℕ). SaysSome (backslash ∷ t)) (sym f.joined) (rest.0, past_newline f.line f.rest rest.0 f.whole rest.1)

    at_escape : (ds : List ℕ) → length ds ≤ n → ((text : List ℕ) → length text ≤ n → SaysSome text) → EscapeHere (backslash ∷ ds) → SaysSome (backslash ∷ ds)
    at_escape ds short later f =
        let len = escape_len f.said f.front f.rest f.is in
        let sizes = length-append f.front f.rest in
        let rest = later f.rest (omega (arith, sizes, ap length f.joined, ap length len.is, short)) in
        subst SaysSome (sym f.joined) (f.said ++ rest.0, escape f.front f.rest f.said rest.0 f.is rest.1)

    escaped : (cs : List ℕ) → length cs ≤ n → ((text : List ℕ) → length text ≤ n → SaysSome text) → SaysSome (backslash ∷ cs)
    escaped [] short later = (encode_utf8 replacement, at_end)
    escaped (d ∷ ds) short later = choose (is_newline d) refl
      where
        choose : (l : Bool) → is_newline d ≡ l → SaysSome (backslash ∷ d ∷ ds)
        choose true line = at_line (d ∷ ds) short later (front_line d ds line)
        choose false line = at_escape (d ∷ ds) short later (escape_here d ds line)

    by : (b : Bool) → (c == backslash) ≡ b → ((text : List ℕ) → length text ≤ n → SaysSome text) → SaysSome (c ∷ cs)
    by true is later = subst (λ (c : ℕ). SaysSome (c ∷ cs)) (sym (eqb-true c backslash is)) (escaped cs (omega (arith, short)) later)
    by false other later = let rest = later cs (omega (arith, short)) in (byte_text c ++ rest.0, plain c cs rest.0 other rest.1)

pub says_is : (text said : List ℕ) → unescaped text ≡ said → Says text said
says_is text said is =
    let some = says_some (length text) text (omega arith) in
    let same : some.0 ≡ said = sym (says_unescaped text some.0 some.1) ∙ is in
    subst (λ (s : List ℕ). Says text s) same some.1

pub names_are_unescaped : NamesAreUnescaped
names_are_unescaped text said = (λ says. says_unescaped text said says, λ is. says_is text said is)

pub names_are_decoded : NamesAreDecoded
names_are_decoded text cs = (λ d. ap code_points (says_unescaped text d.0 d.1) ∙ sym d.2, λ e. (unescaped text, says_is text (unescaped text) refl, sym e))
