-- A run inside a string passes over the bytes that stand for themselves.
use Rattle.std.proofs.Common.{ℕ, zero, suc, ◌+◌, ◌-◌, ◌<◌, ◌≤◌, ◌≡◌, ◌⊎◌, inl, inr, subst, Bool, false, ◌==◌, List, [], ◌∷◌, Option, Some, None, unwrap_or, length, drop, take, get_or, refl, sym, ap, ◌∙◌, arith, zero-add}
use Rattle.std.proofs.lemmas.Bool.{false_from_ne_true, or_parts, cases_lt}
use Rattle.std.proofs.lemmas.List.{get_or-take, length-take-le, drop-drop, drop_all, take_rest}
use Rattle.memchr.specs.Find.{IsFirstByte, is_byte2, is_byte3}
use Rattle.css_model.specs.Text.Characters.{backslash, line_feed, carriage_return, form_feed}
use Rattle.css_model.specs.Text.Runs.{run}
use Rattle.css_model.specs.Text.Units.{string_unit}
use Rattle.css_tokens.specs.Plain.{IsPlain}

-- what stands before the first byte that passes a test, or before the end, fails it
pub before_found : (test : ℕ → Bool) (text : List ℕ) (found : Option ℕ) → IsFirstByte test text found
    → ((k : ℕ) → k < unwrap_or found (length text) → test (get_or text k 0) ≡ false) × (unwrap_or found (length text) ≤ length text)
before_found test text None nowhere = (λ k below. false_from_ne_true _ (λ yes. nowhere k (omega arith) below yes), omega arith)
before_found test text (Some n) found =
    let first = found.0 in
    (λ k below. false_from_ne_true _ (λ yes. first.before k (omega arith) below yes), omega (arith, first.high))

-- neither of two searches found it
pub plain_from : (quote c : ℕ) → is_byte2 quote backslash c ≡ false → is_byte3 line_feed carriage_return form_feed c ≡ false → IsPlain quote c
plain_from quote c signs newlines =
    let two = or_parts (c == quote) (c == backslash) signs in
    record { no_quote = two.0; no_backslash = two.1; no_newline = newlines }

plain_unit : (quote c : ℕ) (cs : List ℕ) → IsPlain quote c → string_unit quote (c ∷ cs) ≡ 1
plain_unit quote c cs plain = rw (plain.no_quote, plain.no_newline, plain.no_backslash) refl

pub run_plain : (quote n : ℕ) (text : List ℕ) → n ≤ length text → ((k : ℕ) → k < n → IsPlain quote (get_or text k 0))
    → run (string_unit quote) text ≡ n + run (string_unit quote) (drop n text)
run_plain quote zero text short plain = sym (zero-add (run (string_unit quote) text))
run_plain quote (suc n) [] short plain = absurd (omega arith)
run_plain quote (suc n) (c ∷ cs) short plain =
    let first = plain_unit quote c cs (plain 0 (omega arith)) in
    let later = run_plain quote n cs (omega arith) (λ k below. plain (suc k) (omega arith)) in
    rw first (omega (arith, later))

-- the same at a place of a text
pub run_past_plain : (quote : ℕ) (text : List ℕ) (i n : ℕ) → n ≤ length (take (length text - i) (drop i text))
    → ((k : ℕ) → k < n → IsPlain quote (get_or (take (length text - i) (drop i text)) k 0))
    → run (string_unit quote) (drop i text) ≡ n + run (string_unit quote) (drop (i + n) text)
run_past_plain quote text i n short plain =
    let rest = take_rest text i in
    let sizes : length (take (length text - i) (drop i text)) ≡ length (drop i text) = ap (λ (cs : List ℕ). length cs) rest in
    let same : (k : ℕ) → k < n → IsPlain quote (get_or (drop i text) k 0) = λ (k : ℕ) (below : k < n). at_rest k (plain k below) in
    run_plain quote n (drop i text) (omega (arith, sizes)) same ∙ ap (λ (cs : List ℕ). n + run (string_unit quote) cs) (drop-drop n i text)
  where
    at_rest : (k : ℕ) → IsPlain quote (get_or (take (length text - i) (drop i text)) k 0) → IsPlain quote (get_or (drop i text) k 0)
    at_rest k plain = subst (λ (cs : List ℕ). IsPlain quote (get_or cs k 0)) (take_rest text i) plain

-- a unit begins inside the text
pub unit_inside : (quote : ℕ) (text : List ℕ) (at n : ℕ) → string_unit quote (drop at text) ≡ n → 0 < n → at < length text
unit_inside quote text at n is positive = which (cases_lt at (length text))
  where
    which : (at < length text) ⊎ (length text ≤ at) → at < length text
    which (inl below) = below
    which (inr past) =
        let none : string_unit quote (drop at text) ≡ 0 = ap (string_unit quote) (drop_all at text past) in
        absurd (omega arith)

-- what stands before the first quote or backslash, and there before the first newline
pub plain_found : (quote : ℕ) (text : List ℕ) (sign newline : Option ℕ) (end found : ℕ) → IsFirstByte (is_byte2 quote backslash) text sign
    → end ≡ unwrap_or sign (length text) → IsFirstByte (is_byte3 line_feed carriage_return form_feed) (take end text) newline → found ≡ unwrap_or newline end
    → (k : ℕ) → k < found → IsPlain quote (get_or text k 0)
plain_found quote text sign newline end found first_sign end_is first_newline found_is k below =
    let signs = before_found (is_byte2 quote backslash) text sign first_sign in
    let newlines = before_found (is_byte3 line_feed carriage_return form_feed) (take end text) newline first_newline in
    let len : length (take end text) ≡ end = length-take-le end text (omega (arith, signs.1, end_is)) in
    let limit : unwrap_or newline (length (take end text)) ≡ found = ap (unwrap_or newline) len ∙ sym found_is in
    let before_newline : k < unwrap_or newline (length (take end text)) = omega (arith, limit) in
    let inside : k < end = omega (arith, newlines.1, len) in
    let before_sign : k < unwrap_or sign (length text) = omega (arith, end_is) in
    let same : get_or (take end text) k 0 ≡ get_or text k 0 = get_or-take end text k 0 inside in
    plain_from quote (get_or text k 0) (signs.0 k before_sign)
    (sym (ap (is_byte3 line_feed carriage_return form_feed) same) ∙ newlines.0 k before_newline)
