-- Where a text of bytes and escapes ends in an open escape, one backslash at a time.
use Rattle.std.proofs.Common.{ℕ, zero, suc, ◌+◌, ◌-◌, ◌<◌, ◌≤◌, ◌≡◌, ◌⊎◌, inl, inr, Bool, true, false, ◌==◌, ◌||◌, List, [], ◌∷◌, Some, None, length, drop, get_or, refl, sym, ap, ◌∙◌, arith}
use Rattle.std.specs.Char.{is_ascii_hexdigit}
use Rattle.std.proofs.lemmas.Bool.{eqb-true, eq-eqb, ne_eqb, cases_lt}
use Rattle.std.proofs.lemmas.List.{drop_all, drop_more}
use Rattle.memchr.specs.Find.{IsFirstByte, is_byte}
use Rattle.css_model.specs.Text.Characters.{backslash}
use Rattle.css_model.specs.Lists.{less_one}
use Rattle.css_model.specs.Text.Units.{escape_after}
use Rattle.css_model.specs.Text.Kept.{is_open_hex, is_open_escape, is_open_from, is_open}
use Rattle.css_tokens.proofs.StringLemmas.{before_found}

hex_closed : (n c : ℕ) (cs : List ℕ) → (n ≡ 0) ⊎ (is_ascii_hexdigit c ≡ false) → is_open_hex n (c ∷ cs) ≡ false
hex_closed zero c cs why = refl
hex_closed (suc n) c cs (inl none) = absurd (omega arith)
hex_closed (suc n) c cs (inr other) = rw other refl

-- the hex digits end with the text, or before another byte, or are six
pub hex_end : (i : ℕ) (text : List ℕ) → i ≤ length text → (i < length text → (6 ≤ i) ⊎ (is_ascii_hexdigit (get_or text i 0) ≡ false)) → (i == length text) ≡ is_open_hex (6 - i) (drop i text)
hex_end i text inside ends = which (cases_lt i (length text))
  where
    why : (6 ≤ i) ⊎ (is_ascii_hexdigit (get_or text i 0) ≡ false) → (6 - i ≡ 0) ⊎ (is_ascii_hexdigit (get_or text i 0) ≡ false)
    why (inl most) = inl (omega arith)
    why (inr other) = inr other

    which : (i < length text) ⊎ (length text ≤ i) → (i == length text) ≡ is_open_hex (6 - i) (drop i text)
    which (inl below) =
        let cut : drop i text ≡ get_or text i 0 ∷ drop (i + 1) text = drop_more text i 0 below in
        ne_eqb i (length text) (λ (all : i ≡ length text). omega (arith, all, below)) ∙ sym (hex_closed (6 - i) (get_or text i 0) (drop (i + 1) text) (why (ends below))) ∙ ap (is_open_hex (6 - i)) (sym cut)
    which (inr past) = eq-eqb i (length text) (omega (arith, past)) ∙ ap (is_open_hex (6 - i)) (sym (drop_all i text past))

is_open_from-drop : (left : ℕ) (text : List ℕ) → is_open_from left text ≡ is_open (drop left text)
is_open_from-drop zero text = refl
is_open_from-drop (suc left) [] = refl
is_open_from-drop (suc left) (c ∷ cs) = is_open_from-drop left cs

less_one_is : (n : ℕ) → less_one n ≡ n - 1
less_one_is zero = refl
less_one_is (suc n) = omega arith

-- an escape, and what follows it
ends_escape : (rest : List ℕ) → is_open (backslash ∷ rest) ≡ (is_open_escape rest || is_open (drop (escape_after rest - 1) rest))
ends_escape rest =
    ap (λ (b : Bool). is_open_escape rest || b) (is_open_from-drop (less_one (escape_after rest)) rest ∙ ap (λ (n : ℕ). is_open (drop n rest)) (less_one_is (escape_after rest)))

-- bytes that are no backslash
ends_plain : (n : ℕ) (text : List ℕ) → n ≤ length text → ((k : ℕ) → k < n → (get_or text k 0 == backslash) ≡ false) → is_open text ≡ is_open (drop n text)
ends_plain zero text inside plain = refl
ends_plain (suc n) [] inside plain = absurd (omega arith)
ends_plain (suc n) (c ∷ cs) inside plain =
    let first : (c == backslash) ≡ false = plain 0 (omega arith) in
    let step : is_open (c ∷ cs) ≡ is_open cs = rw first refl in
    step ∙ ends_plain n cs (omega arith) (λ k below. plain (suc k) (omega arith))

-- a text with no backslash
pub ends_none : (text : List ℕ) → IsFirstByte (is_byte backslash) text None → is_open text ≡ false
ends_none text nowhere =
    let found = before_found (is_byte backslash) text None nowhere in
    ends_plain (length text) text (omega arith) found.0 ∙ ap is_open (drop_all (length text) text (omega arith))

-- the first backslash, and what stands behind it
ends_found : (text : List ℕ) (n : ℕ) → IsFirstByte (is_byte backslash) text (Some n)
    → is_open text ≡ (is_open_escape (drop (n + 1) text) || is_open (drop (escape_after (drop (n + 1) text) - 1) (drop (n + 1) text)))
ends_found text n found =
    let before = before_found (is_byte backslash) text (Some n) found in
    let here : get_or text n 0 ≡ backslash = eqb-true (get_or text n 0) backslash found.1 in
    let cut : drop n text ≡ backslash ∷ drop (n + 1) text = drop_more text n 0 found.0.high ∙ ap (λ (c : ℕ). c ∷ drop (n + 1) text) here in
    ends_plain n text before.1 before.0 ∙ ap is_open cut ∙ ends_escape (drop (n + 1) text)

-- where an open escape is found
pub ends_true : (text : List ℕ) (n : ℕ) → IsFirstByte (is_byte backslash) text (Some n) → is_open_escape (drop (n + 1) text) ≡ true → is_open text ≡ true
ends_true text n found is = ends_found text n found ∙ ap (λ (b : Bool). b || is_open (drop (escape_after (drop (n + 1) text) - 1) (drop (n + 1) text))) is

-- and where another escape is found, of which m bytes follow the backslash
pub ends_shut : (text : List ℕ) (n m : ℕ) → IsFirstByte (is_byte backslash) text (Some n) → is_open_escape (drop (n + 1) text) ≡ false
    → m ≡ escape_after (drop (n + 1) text) - 1 → is_open (drop m (drop (n + 1) text)) ≡ is_open text
ends_shut text n m found is len =
    ap (λ (m : ℕ). is_open (drop m (drop (n + 1) text))) len
    ∙ sym (ends_found text n found ∙ ap (λ (b : Bool). b || is_open (drop (escape_after (drop (n + 1) text) - 1) (drop (n + 1) text))) is)
