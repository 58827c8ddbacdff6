-- Tokens that stand side by side.
use Rattle.std.proofs.Common.{◌≡◌, ℕ, zero, suc, ◌+◌, ◌-◌, ◌<◌, ◌⊎◌, inl, inr, Bool, true, false, not, ◌&&◌, ◌||◌, ◌==◌, cond, ltb, List, [], ◌∷◌, ◌++◌, Option, Ok, Some, length, drop, take, refl, sym, ap, subst, ◌∙◌, arith, eqb-true, true≢false, length-append}
use Rattle.std.specs.List.{AllByRecursion}
use Rattle.std.specs.Cmp.Lexicographic.{bytes_decides}
use Rattle.std.proofs.lemmas.List.{take_at}
use Rattle.css_model.specs.declared.token.TokenKind.{TokenKind}
use Rattle.css_model.specs.declared.token.TokenKind.TheVariants as kind
use Rattle.css_model.specs.Text.Characters.{backslash, slash, less_than, greater_than, plus, dash, dot, hash, at_sign, percent, open_round, is_white, is_plus_or_minus, begins}
use Rattle.css_model.specs.Text.Runs.{run}
use Rattle.css_model.specs.Text.TokenAt.{part_at, rule_at, number_shape, done, is_quote, symbol_at}
use Rattle.css_model.specs.Text.Tokens.{text_of}
use Rattle.css_model.specs.Text.Names.{is_url}
use Rattle.css_model.specs.Text.Units.{digit_unit, name_start, name_len, number_len, signed_decimal, decimal as decimal_len, fraction}
use Rattle.token_laws.specs.Alike.{Alike, LooksAlike, EndsAlike}
use Rattle.token_laws.proofs.ForCallers.{alike_byte, goes_on}
use Rattle.token_laws.proofs.ForCallers.{looks_behind, lets_through, looks_none, through_none, ends_anywhere}
use Rattle.token_laws.proofs.ForCallers.{unit_le_run}
use Rattle.css_tokens.proofs.ForCallers.{part_len, part_rule}
use Rattle.token_laws.proofs.ForCallers.{rows_again}
use Rattle.token_laws.proofs.ForCallers.{white_is, quote_is, sign_is}
use Rattle.css_tokens.proofs.ForCallers.{symbol_number}
use Rattle.token_laws.proofs.ForCallers.{shape_parts}
use Rattle.nth_positions.proofs.ForCallers.{both_are, one_is}
use Rattle.selector_text_laws.specs.Together.{lone_bytes, ending_bytes, is_one_of, is_numeric, is_dashes, together, TogetherEndsAlike, TogetherStands}
use Rattle.selector_text_laws.proofs.Notation.Tokens.{pick}

-- ---- what is no number begins none

number_kind : (n : ℕ) (rest : List ℕ) (k : Option TokenKind) (m : ℕ) → number_shape n rest ≡ Ok (k, m) → is_numeric k ≡ true
number_kind n rest k m = which (ltb 0 (name_start rest)) (begins percent rest)
  where
    which : (b e : Bool) → cond b (done kind.Dimension (n + name_len rest)) (cond e (done kind.Percentage (n + 1)) (done kind.Number n)) ≡ Ok (k, m) → is_numeric k ≡ true
    which true e is = sym (ap is_numeric (shape_parts (Some kind.Dimension) k (n + name_len rest) m is).0)
    which false true is = sym (ap is_numeric (shape_parts (Some kind.Percentage) k (n + 1) m is).0)
    which false false is = sym (ap is_numeric (shape_parts (Some kind.Number) k n m is).0)

number_first : (c : ℕ) (cs : List ℕ) → 0 < signed_decimal (c ∷ cs) → rule_at (c ∷ cs) ≡ number_shape (number_len (c ∷ cs)) (drop (number_len (c ∷ cs)) (c ∷ cs))
number_first c cs some = which (c == slash) refl (is_white c) refl (is_quote c) refl (c == hash) refl
  where
    none : signed_decimal (c ∷ cs) ≡ 0 → ⊥
    none e = omega (arith, e, some)

    which : (s : Bool) → (c == slash) ≡ s → (w : Bool) → is_white c ≡ w → (q : Bool) → is_quote c ≡ q → (h : Bool) → (c == hash) ≡ h
        → rule_at (c ∷ cs) ≡ number_shape (number_len (c ∷ cs)) (drop (number_len (c ∷ cs)) (c ∷ cs))
    which true s w is_w q is_q h is_h = absurd (none (rw (eqb-true c slash s) refl))
    which false s true is_w q is_q h is_h = absurd (none (white_is (λ c. signed_decimal (c ∷ cs) ≡ 0) refl refl refl refl refl c is_w))
    which false s false is_w true is_q h is_h = absurd (none (quote_is (λ c. signed_decimal (c ∷ cs) ≡ 0) refl refl c is_q))
    which false s false is_w false is_q true is_h = absurd (none (rw (eqb-true c hash is_h) refl))
    which false s false is_w false is_q false is_h = pick (c == slash) (is_white c) (is_quote c) (c == hash) _ _ _ _ (symbol_at (c ∷ cs)) s is_w is_q is_h ∙ symbol_number (c ∷ cs) (omega arith) some

decimal_none : (c : ℕ) (cs : List ℕ) → signed_decimal (c ∷ cs) ≡ 0 → decimal_len (c ∷ cs) ≡ 0
decimal_none c cs none = which (is_plus_or_minus c) refl
  where
    which : (b : Bool) → is_plus_or_minus c ≡ b → decimal_len (c ∷ cs) ≡ 0
    which true e = sign_is (λ c. decimal_len (c ∷ cs) ≡ 0) refl refl c e
    which false e = (let same : signed_decimal (c ∷ cs) ≡ decimal_len (c ∷ cs) = rw e refl in sym same ∙ none)

no_number : (c : ℕ) (cs : List ℕ) (k : Option TokenKind) (m : ℕ) → part_at (c ∷ cs) ≡ Ok (k, m) → is_numeric k ≡ false → decimal_len (c ∷ cs) ≡ 0
no_number c cs k m is none = which (signed_decimal (c ∷ cs)) refl
  where
    which : (n : ℕ) → signed_decimal (c ∷ cs) ≡ n → decimal_len (c ∷ cs) ≡ 0
    which zero e = decimal_none c cs e
    which (suc n) e =
        (let rule = (part_rule (c ∷ cs) (k, m) is).0 in
        let numeric : is_numeric k ≡ true = number_kind (number_len (c ∷ cs)) (drop (number_len (c ∷ cs)) (c ∷ cs)) k m (sym (number_first c cs (omega (arith, e))) ∙ rule) in
        absurd (true≢false (sym numeric ∙ none)))

digit_none : (c : ℕ) (cs : List ℕ) → decimal_len (c ∷ cs) ≡ 0 → digit_unit (c ∷ cs) ≡ 0
digit_none c cs none =
    let low = unit_le_run digit_unit (c ∷ cs) refl in
    let sum : run digit_unit (c ∷ cs) + fraction (drop (run digit_unit (c ∷ cs)) (c ∷ cs)) ≡ 0 = none in
    omega (arith, low, sum)

-- ---- a byte of several

-- what holds of each of these holds of this one
pub each_of : (P : ℕ → Type 0) (c : ℕ) (ds : List ℕ) → AllByRecursion P ds → is_one_of ds c ≡ true → P c
each_of P c [] all some = absurd (cc)
each_of P c (d ∷ ds) all some = which (one_is (c == d) (is_one_of ds c) some) (each_of P c ds all.1)
  where
    which : ((c == d) ≡ true) ⊎ (is_one_of ds c ≡ true) → (is_one_of ds c ≡ true → P c) → P c
    which (inl e) later = subst P (sym (eqb-true c d e)) all.0
    which (inr e) later = later e

-- ---- a name or a hash

alike_dot : (old rest : List ℕ) → fraction (dot ∷ rest) ≡ 0 → Alike old (dot ∷ rest)
alike_dot old rest none = record {
  hex = λ _. refl;
  white = λ _. refl;
  feed = λ _. refl;
  unit = λ _. refl;
  name = λ _. refl;
  bracket = λ _. refl;
  percentage = λ _. refl;
  digit = λ _. refl;
  decimals = λ _. none;
}

alike_ending : (c : ℕ) (old rest : List ℕ) → is_one_of ending_bytes c ≡ true → decimal_len (c ∷ rest) ≡ 0 → Alike old (c ∷ rest)
alike_ending c old rest some = each_of (λ c. decimal_len (c ∷ rest) ≡ 0 → Alike old (c ∷ rest)) c ending_bytes
    (at 35 refl, (at 58 refl, (at 59 refl, (at 44 refl, (at 91 refl, (at 93 refl, (at 41 refl, (at 123 refl, (at 125 refl, (at 43 refl, (dotted, (at 42 refl, (at 62 refl, (at 126 refl, (at 61 refl, (at 124 refl, (at 94 refl, (at 36 refl, tt))))))))))))))))))
    some
  where
    at : (c : ℕ) → goes_on c ≡ false → decimal_len (c ∷ rest) ≡ 0 → Alike old (c ∷ rest)
    at c none _ = alike_byte c old rest none

    dotted : decimal_len (dot ∷ rest) ≡ 0 → Alike old (dot ∷ rest)
    dotted none = (let sum : 0 + fraction (dot ∷ rest) ≡ 0 = none in alike_dot old rest (omega (arith, sum)))

-- what tells two kinds apart
differ : (test : Option TokenKind → Bool) (k j : Option TokenKind) → test k ≡ false → test j ≡ true → k ≡ j → ⊥
differ test k j none some same = true≢false (sym some ∙ sym (ap test same) ∙ none)

looks_ident : (bytes old new : List ℕ) → (bytes ≡ dash ∷ dash ∷ [] → begins greater_than new ≡ false) → LooksAlike (Some kind.Ident) bytes old new
looks_ident bytes old new dashes = record {
  at_backslash = λ e. absurd (cc);
  at_slash = λ e. absurd (cc);
  at_less_than = λ e. absurd (cc);
  at_plus_or_minus = λ _ e. absurd (cc);
  at_dash = λ e. absurd (cc);
  at_dot = λ e. absurd (cc);
  at_hash = λ e. absurd (cc);
  at_at_sign = λ e. absurd (cc);
  at_dashes = λ _ e _. dashes e;
  at_url = λ _ e. absurd (cc);
  at_exponent = λ _ _ e. absurd (cc);
}

pub looks_function : (bytes old new : List ℕ) → is_url (take (length bytes - 1) bytes) ≡ false → LooksAlike (Some kind.Function) bytes old new
looks_function bytes old new other = record {
  at_backslash = λ e. absurd (cc);
  at_slash = λ e. absurd (cc);
  at_less_than = λ e. absurd (cc);
  at_plus_or_minus = λ _ e. absurd (cc);
  at_dash = λ e. absurd (cc);
  at_dot = λ e. absurd (cc);
  at_hash = λ e. absurd (cc);
  at_at_sign = λ e. absurd (cc);
  at_dashes = λ e. absurd (cc);
  at_url = λ name _ same url. absurd (true≢false (sym url ∙ ap is_url (sym (cut name same)) ∙ other));
  at_exponent = λ _ _ e. absurd (cc);
}
  where
    cut : (name : List ℕ) → bytes ≡ name ++ open_round ∷ [] → take (length bytes - 1) bytes ≡ name
    cut name same =
        (let size : length bytes ≡ length (name ++ open_round ∷ []) = ap (λ (cs : List ℕ). length cs) same in
        let n : length bytes - 1 ≡ length name = omega (arith, size, length-append name (open_round ∷ [])) in
        ap (λ (cs : List ℕ). take (length bytes - 1) cs) same ∙ take_at name (open_round ∷ []) (length bytes - 1) (sym n))

-- ---- `+` and `.`

abbrev is_delim : ℕ → Option TokenKind → Bool
is_delim b (Some (kind.Delim c)) = c == b
is_delim b k = false

looks_dot : (bytes old new : List ℕ) → digit_unit new ≡ 0 → LooksAlike (Some (kind.Delim dot)) bytes old new
looks_dot bytes old new none = record {
  at_backslash = λ e. absurd (other backslash refl refl e);
  at_slash = λ e. absurd (other slash refl refl e);
  at_less_than = λ e. absurd (other less_than refl refl e);
  at_plus_or_minus = λ c e sign. absurd (sign_is (λ c. ◌≡◌ {A = Option TokenKind} (Some (kind.Delim dot)) (Some (kind.Delim c)) → ⊥) (other plus refl refl) (other dash refl refl) c sign e);
  at_dash = λ e. absurd (other dash refl refl e);
  at_dot = λ _ _. none;
  at_hash = λ e. absurd (other hash refl refl e);
  at_at_sign = λ e. absurd (other at_sign refl refl e);
  at_dashes = λ e. absurd (cc);
  at_url = λ _ e. absurd (cc);
  at_exponent = λ _ _ e. absurd (cc);
}
  where
    other : (b : ℕ) → (dot == b) ≡ false → (b == b) ≡ true → ◌≡◌ {A = Option TokenKind} (Some (kind.Delim dot)) (Some (kind.Delim b)) → ⊥
    other b unlike like e = differ (λ k. is_delim b k) (Some (kind.Delim dot)) (Some (kind.Delim b)) unlike like e

looks_plus : (bytes old new : List ℕ) → decimal_len new ≡ 0 → LooksAlike (Some (kind.Delim plus)) bytes old new
looks_plus bytes old new none = record {
  at_backslash = λ e. absurd (other backslash refl refl e);
  at_slash = λ e. absurd (other slash refl refl e);
  at_less_than = λ e. absurd (other less_than refl refl e);
  at_plus_or_minus = λ _ _ _ _. none;
  at_dash = λ e. absurd (other dash refl refl e);
  at_dot = λ e. absurd (other dot refl refl e);
  at_hash = λ e. absurd (other hash refl refl e);
  at_at_sign = λ e. absurd (other at_sign refl refl e);
  at_dashes = λ e. absurd (cc);
  at_url = λ _ e. absurd (cc);
  at_exponent = λ _ _ e. absurd (cc);
}
  where
    other : (b : ℕ) → (plus == b) ≡ false → (b == b) ≡ true → ◌≡◌ {A = Option TokenKind} (Some (kind.Delim plus)) (Some (kind.Delim b)) → ⊥
    other b unlike like e = differ (λ k. is_delim b k) (Some (kind.Delim plus)) (Some (kind.Delim b)) unlike like e

-- ---- the law

-- the byte of a delim that may stand before the other
pub data IsLooking (c : ℕ) (k : TokenKind) : Type 0 where
  plain_byte : is_one_of lone_bytes c ≡ true → IsLooking c k
  sign_byte : is_one_of (plus ∷ dot ∷ []) c ≡ true → is_numeric (Some k) ≡ false → IsLooking c k

not_true : (b : Bool) → not b ≡ true → b ≡ false
not_true true e = sym e
not_true false e = refl

pub looking : (c : ℕ) (k : TokenKind) → (is_one_of lone_bytes c || (is_one_of (plus ∷ dot ∷ []) c && not (is_numeric (Some k)))) ≡ true → IsLooking c k
looking c k e = which (one_is (is_one_of lone_bytes c) (is_one_of (plus ∷ dot ∷ []) c && not (is_numeric (Some k))) e)
  where
    which : (is_one_of lone_bytes c ≡ true) ⊎ ((is_one_of (plus ∷ dot ∷ []) c && not (is_numeric (Some k))) ≡ true) → IsLooking c k
    which (inl some) = plain_byte some
    which (inr some) = (let b = both_are (is_one_of (plus ∷ dot ∷ []) c) (not (is_numeric (Some k))) some in sign_byte b.0 (not_true (is_numeric (Some k)) b.1))

delim_ends : (c : ℕ) (k : TokenKind) (bytes old : List ℕ) (d : ℕ) (rest : List ℕ) → (is_numeric (Some k) ≡ false → decimal_len (d ∷ rest) ≡ 0) → IsLooking c k
    → EndsAlike (record { kind = Some (kind.Delim c); bytes = bytes }) old (d ∷ rest)
delim_ends c k bytes old d rest number (plain_byte some) = each_of (λ c. EndsAlike (record { kind = Some (kind.Delim c); bytes = bytes }) old (d ∷ rest)) c lone_bytes
    (at 42 refl refl, (at 62 refl refl, (at 126 refl refl, (at 61 refl refl, (at 124 refl refl, (at 94 refl refl, (at 36 refl refl, tt))))))) some
  where
    at : (c : ℕ) → looks_behind (Some (kind.Delim c)) ≡ false → lets_through (Some (kind.Delim c)) ≡ false → EndsAlike (record { kind = Some (kind.Delim c); bytes = bytes }) old (d ∷ rest)
    at c looks through = ends_anywhere (record { kind = Some (kind.Delim c); bytes = bytes }) old (d ∷ rest) refl looks through
delim_ends c k bytes old d rest number (sign_byte some numeric) = each_of (λ c. EndsAlike (record { kind = Some (kind.Delim c); bytes = bytes }) old (d ∷ rest)) c (plus ∷ dot ∷ []) (
  record { alike = λ open_ended. absurd (true≢false open_ended); looks = looks_plus bytes old (d ∷ rest) (number numeric); through = through_none (Some (kind.Delim plus)) old (d ∷ rest) refl },
  (record { alike = λ open_ended. absurd (true≢false open_ended); looks = looks_dot bytes old (d ∷ rest) (digit_none d rest (number numeric)); through = through_none (Some (kind.Delim dot)) old (d ∷ rest) refl }, tt),
) some

name_ends : (d : ℕ) (rest old : List ℕ) (k : TokenKind) → (is_numeric (Some k) ≡ false → decimal_len (d ∷ rest) ≡ 0) → (is_one_of ending_bytes d && not (is_numeric (Some k))) ≡ true → Alike old (d ∷ rest)
name_ends d rest old k number e =
    let b = both_are (is_one_of ending_bytes d) (not (is_numeric (Some k))) e in
    alike_ending d old rest b.0 (number (not_true (is_numeric (Some k)) b.1))

-- what is not `--` before `>`
dashes_apart : (bytes : List ℕ) (d : ℕ) (rest : List ℕ) → not (is_dashes bytes && (d == greater_than)) ≡ true → bytes ≡ dash ∷ dash ∷ [] → begins greater_than (d ∷ rest) ≡ false
dashes_apart bytes d rest e same =
    let is : is_dashes bytes ≡ true = (bytes_decides bytes (dash ∷ dash ∷ [])).1 same in
    not_true (d == greater_than) (sym (ap (λ b. not (b && (d == greater_than))) is) ∙ e)

ends_before : (j k : TokenKind) (bytes : List ℕ) (d : ℕ) (ds old rest : List ℕ) → (is_numeric (Some k) ≡ false → decimal_len (d ∷ rest) ≡ 0) → together j bytes k (d ∷ ds) ≡ true
    → EndsAlike (record { kind = Some j; bytes = bytes }) old (d ∷ rest)
ends_before kind.Ident k bytes d ds old rest number e =
    let b = both_are (is_one_of ending_bytes d && not (is_numeric (Some k))) (not (is_dashes bytes && (d == greater_than))) e in
    record {
      alike = λ _. name_ends d rest old k number b.0;
      looks = looks_ident bytes old (d ∷ rest) (dashes_apart bytes d rest b.1);
      through = through_none (Some kind.Ident) old (d ∷ rest) refl;
    }
ends_before kind.IdHash k bytes d ds old rest number e = record {
  alike = λ _. name_ends d rest old k number e;
  looks = looks_none (Some kind.IdHash) bytes old (d ∷ rest) refl;
  through = through_none (Some kind.IdHash) old (d ∷ rest) refl;
}
ends_before kind.Function k bytes d ds old rest number e = record {
  alike = λ open_ended. absurd (true≢false open_ended);
  looks = looks_function bytes old (d ∷ rest) (not_true (is_url (take (length bytes - 1) bytes)) e);
  through = through_none (Some kind.Function) old (d ∷ rest) refl;
}
ends_before kind.Str k bytes d ds old rest number e = ends_anywhere (record { kind = Some kind.Str; bytes = bytes }) old (d ∷ rest) refl refl refl
ends_before (kind.Sign c) k bytes d ds old rest number e = ends_anywhere (record { kind = Some (kind.Sign c); bytes = bytes }) old (d ∷ rest) refl refl refl
ends_before (kind.Delim c) k bytes d ds old rest number e = delim_ends c k bytes old d rest number (looking c k e)
ends_before _ k bytes d ds old rest number e = absurd (cc)

pub together_ends_alike : TogetherEndsAlike
together_ends_alike j k bytes [] old new e (read, _) = absurd (let len = part_len (text_of new) (Some k, 0) read in omega (arith, len.0))
together_ends_alike j k bytes (d ∷ ds) old new e (read, _) =
    ends_before j k bytes d ds old (ds ++ text_of new) (λ none. no_number d (ds ++ text_of new) (Some k) (suc (length ds)) read none) e

pub together_stands : TogetherStands
together_stands ps j k bytes next old new e before later =
    rows_again ps (record { kind = Some j; bytes = bytes }) old (record { kind = Some k; bytes = next } ∷ new) before later (together_ends_alike j k bytes next (text_of old) new e later)
