-- The units of tokens before another rest in which nothing begins that did not begin in the first.
use Rattle.std.proofs.Common.{ℕ, zero, suc, ◌+◌, ◌<◌, ◌≤◌, ◌≡◌, Bool, true, false, cond, ◌&&◌, ◌||◌, ◌==◌, List, [], ◌∷◌, ◌++◌, length, refl, sym, ap, ◌∙◌, arith}
use Rattle.std.specs.Char.{is_ascii_hexdigit}
use Rattle.css_model.specs.Text.Characters.{line_feed, carriage_return, backslash, close_round, is_newline, is_white, is_name, is_bad_in_url, begins, first_passes}
use Rattle.css_model.specs.Text.Units.{white_unit, hex_rest, escape_after, name_unit, url_unit, digit_unit, string_unit, string_escape}
use Rattle.token_laws.specs.Alike.{Alike}
use Rattle.token_laws.proofs.Ends.Runs.{Keeps, Fits}

-- CR LF is one newline
white_cases : (w r f f' : Bool) → (f ≡ false → f' ≡ false) → cond w (cond (r && f) 2 1) 0 ≤ 1
    → ◌≡◌ {A = ℕ} (cond w (cond (r && f') 2 1) 0) (cond w (cond (r && f) 2 1) 0)
white_cases false r f f' h fits = refl
white_cases true false f f' h fits = refl
white_cases true true true f' h fits = absurd (omega arith)
white_cases true true false f' h fits = rw (h refl) refl

pub white_same : (old new : List ℕ) → Alike old new → (v : List ℕ) → white_unit (v ++ old) ≤ length v → white_unit (v ++ new) ≡ white_unit (v ++ old)
white_same old new h [] fits =
    let none : white_unit old ≡ 0 = omega arith in
    h.white none ∙ sym none
white_same old new h (c ∷ []) fits = white_cases (is_white c) (c == carriage_return) (begins line_feed old) (begins line_feed new) h.feed fits
white_same old new h (c ∷ d ∷ ds) fits = refl

pub white_fits : (old new : List ℕ) → Alike old new → Fits white_unit old new
white_fits old new h = record { same = white_same old new h }

-- at most a white space
hex_zero : (text : List ℕ) → hex_rest 0 text ≡ white_unit text
hex_zero [] = refl
hex_zero (c ∷ cs) = refl

hex_none : (n : ℕ) (text : List ℕ) → hex_rest (suc n) text ≡ 0 → (first_passes is_ascii_hexdigit text ≡ false) × (white_unit text ≡ 0)
hex_none n [] none = (refl, refl)
hex_none n (c ∷ cs) none = which (is_ascii_hexdigit c) refl none
  where
    which : (b : Bool) → is_ascii_hexdigit c ≡ b → cond b (suc (hex_rest n cs)) (white_unit (c ∷ cs)) ≡ 0 → (is_ascii_hexdigit c ≡ false) × (white_unit (c ∷ cs) ≡ 0)
    which true is none = absurd (omega (arith, none))
    which false is none = (is, none)

hex_stops : (n : ℕ) (text : List ℕ) → first_passes is_ascii_hexdigit text ≡ false → white_unit text ≡ 0 → hex_rest (suc n) text ≡ 0
hex_stops n [] none white = refl
hex_stops n (c ∷ cs) none white = rw none white

hex_cases : (b : Bool) (m m' k k' l : ℕ) → (m ≤ l → m' ≡ m) → (k ≤ suc l → k' ≡ k) → cond b (suc m) k ≤ suc l → cond b (suc m') k' ≡ cond b (suc m) k
hex_cases true m m' k k' l p q fits = ap suc (p (omega arith))
hex_cases false m m' k k' l p q fits = q fits

-- up to n hex digits and a white space
pub hex_same : (old new : List ℕ) → Alike old new → (n : ℕ) (v : List ℕ) → hex_rest n (v ++ old) ≤ length v → hex_rest n (v ++ new) ≡ hex_rest n (v ++ old)
hex_same old new h zero [] fits =
    let none : white_unit old ≡ 0 = omega (arith, hex_zero old) in
    hex_zero new ∙ h.white none ∙ sym none ∙ sym (hex_zero old)
hex_same old new h (suc n) [] fits =
    let none : hex_rest (suc n) old ≡ 0 = omega arith in
    let parts = hex_none n old none in
    hex_stops n new (h.hex parts.0) (h.white parts.1) ∙ sym none
hex_same old new h zero (c ∷ cs) fits = white_same old new h (c ∷ cs) fits
hex_same old new h (suc n) (c ∷ cs) fits =
    hex_cases (is_ascii_hexdigit c) (hex_rest n (cs ++ old)) (hex_rest n (cs ++ new)) (white_unit (c ∷ cs ++ old)) (white_unit (c ∷ cs ++ new)) (length cs)
    (hex_same old new h n cs) (white_same old new h (c ∷ cs)) fits

escape_cases : (b x : Bool) (m m' l : ℕ) → (m ≤ l → m' ≡ m) → cond b 0 (cond x (2 + m) 2) ≤ suc (suc l)
    → ◌≡◌ {A = ℕ} (cond b 0 (cond x (2 + m') 2)) (cond b 0 (cond x (2 + m) 2))
escape_cases true x m m' l p fits = refl
escape_cases false false m m' l p fits = refl
escape_cases false true m m' l p fits = ap (λ (k : ℕ). 2 + k) (p (omega arith))

-- an escape with a byte behind its backslash
escape_more : (old new : List ℕ) → Alike old new → (c : ℕ) (cs : List ℕ) → escape_after (c ∷ cs ++ old) ≤ suc (suc (length cs))
    → escape_after (c ∷ cs ++ new) ≡ escape_after (c ∷ cs ++ old)
escape_more old new h c cs fits = escape_cases (is_newline c) (is_ascii_hexdigit c) (hex_rest 5 (cs ++ old)) (hex_rest 5 (cs ++ new)) (length cs) (hex_same old new h 5 cs) fits

-- an escape has at least two bytes
pub escape_two : (text : List ℕ) → 0 < escape_after text → 2 ≤ escape_after text
escape_two [] some = omega arith
escape_two (c ∷ cs) some = which (is_newline c) (is_ascii_hexdigit c) some
  where
    which : (b x : Bool) → 0 < cond b 0 (cond x (2 + hex_rest 5 cs) 2) → 2 ≤ cond b 0 (cond x (2 + hex_rest 5 cs) 2)
    which true x some = absurd (omega (arith, some))
    which false true some = omega arith
    which false false some = omega arith

pub escape_same : (old new : List ℕ) → Alike old new → (v : List ℕ) → 0 < escape_after (v ++ old) → escape_after (v ++ old) ≤ suc (length v)
    → escape_after (v ++ new) ≡ escape_after (v ++ old)
escape_same old new h [] some fits = absurd (omega (arith, escape_two old some))
escape_same old new h (c ∷ cs) some fits = escape_more old new h c cs fits

-- one byte that passes, or an escape
one_cases : (p b : Bool) (m m' l : ℕ) → (0 < m → m ≤ l → m' ≡ m) → 0 < cond p 1 (cond b m 0) → cond p 1 (cond b m 0) ≤ l
    → ◌≡◌ {A = ℕ} (cond p 1 (cond b m' 0)) (cond p 1 (cond b m 0))
one_cases true b m m' l h some fits = refl
one_cases false true m m' l h some fits = h some fits
one_cases false false m m' l h some fits = refl

name_same : (old new : List ℕ) → Alike old new → (v : List ℕ) → 0 < name_unit (v ++ old) → name_unit (v ++ old) ≤ length v → name_unit (v ++ new) ≡ name_unit (v ++ old)
name_same old new h [] some fits = absurd (omega arith)
name_same old new h (c ∷ cs) some fits = one_cases (is_name c) (c == backslash) (escape_after (cs ++ old)) (escape_after (cs ++ new)) (suc (length cs)) (escape_same old new h cs) some fits

pub name_keeps : (old new : List ℕ) → Alike old new → Keeps name_unit old new
name_keeps old new h = record { same = name_same old new h; stops = h.unit }

-- the same, or none, where no newline begins in the new rest that did not begin in the old one
escape_fits : (old new : List ℕ) → Alike old new → (escape_after old ≡ 0 → escape_after new ≡ 0) → (v : List ℕ) → escape_after (v ++ old) ≤ suc (length v)
    → escape_after (v ++ new) ≡ escape_after (v ++ old)
escape_fits old new h stops [] fits = which (escape_after old) refl
  where
    which : (m : ℕ) → escape_after old ≡ m → escape_after new ≡ escape_after old
    which zero is = stops is ∙ sym is
    which (suc m) is = absurd (omega (arith, escape_two old (omega (arith, is)), fits))
escape_fits old new h stops (c ∷ cs) fits = escape_more old new h c cs fits

-- nothing, an escape or one byte
else_cases : (p b : Bool) (m m' l : ℕ) → (m ≤ l → m' ≡ m) → cond p 0 (cond b m 1) ≤ l
    → ◌≡◌ {A = ℕ} (cond p 0 (cond b m' 1)) (cond p 0 (cond b m 1))
else_cases true b m m' l h fits = refl
else_cases false true m m' l h fits = h fits
else_cases false false m m' l h fits = refl

url_same : (old new : List ℕ) → Alike old new → (escape_after old ≡ 0 → escape_after new ≡ 0) → (url_unit old ≡ 0 → url_unit new ≡ 0)
    → (v : List ℕ) → url_unit (v ++ old) ≤ length v → url_unit (v ++ new) ≡ url_unit (v ++ old)
url_same old new h stops none [] fits =
    let is : url_unit old ≡ 0 = omega arith in
    none is ∙ sym is
url_same old new h stops none (c ∷ cs) fits =
    else_cases (is_white c || c == close_round || is_bad_in_url c) (c == backslash) (escape_after (cs ++ old)) (escape_after (cs ++ new)) (suc (length cs)) (escape_fits old new h stops cs) fits

pub url_fits : (old new : List ℕ) → Alike old new → (escape_after old ≡ 0 → escape_after new ≡ 0) → (url_unit old ≡ 0 → url_unit new ≡ 0) → Fits url_unit old new
url_fits old new h stops none = record { same = url_same old new h stops none }

-- a newline behind a backslash goes with it
newline_cases : (b : Bool) (m m' k k' l : ℕ) → (m ≤ l → m' ≡ m) → (k ≤ suc l → k' ≡ k) → cond b (1 + m) k ≤ suc l → cond b (1 + m') k' ≡ cond b (1 + m) k
newline_cases true m m' k k' l p q fits = ap (λ (n : ℕ). 1 + n) (p (omega arith))
newline_cases false m m' k k' l p q fits = q fits

string_escape_same : (old new : List ℕ) → Alike old new → (string_escape old ≤ 1 → string_escape new ≡ string_escape old) → (v : List ℕ) → string_escape (v ++ old) ≤ suc (length v)
    → string_escape (v ++ new) ≡ string_escape (v ++ old)
string_escape_same old new h none [] fits = none fits
string_escape_same old new h none (c ∷ cs) fits =
    newline_cases (is_newline c) (white_unit (c ∷ cs ++ old)) (white_unit (c ∷ cs ++ new)) (escape_after (c ∷ cs ++ old)) (escape_after (c ∷ cs ++ new)) (suc (length cs))
    (white_same old new h (c ∷ cs)) (escape_more old new h c cs) fits

string_same : (q : ℕ) (old new : List ℕ) → Alike old new → (string_escape old ≤ 1 → string_escape new ≡ string_escape old) → (string_unit q old ≡ 0 → string_unit q new ≡ 0)
    → (v : List ℕ) → string_unit q (v ++ old) ≤ length v → string_unit q (v ++ new) ≡ string_unit q (v ++ old)
string_same q old new h escape none [] fits =
    let is : string_unit q old ≡ 0 = omega arith in
    none is ∙ sym is
string_same q old new h escape none (c ∷ cs) fits =
    else_cases (c == q || is_newline c) (c == backslash) (string_escape (cs ++ old)) (string_escape (cs ++ new)) (suc (length cs)) (string_escape_same old new h escape cs) fits

pub string_fits : (q : ℕ) (old new : List ℕ) → Alike old new → (string_escape old ≤ 1 → string_escape new ≡ string_escape old) → (string_unit q old ≡ 0 → string_unit q new ≡ 0)
    → Fits (string_unit q) old new
string_fits q old new h escape none = record { same = string_same q old new h escape none }

digit_same : (old new : List ℕ) → (digit_unit old ≡ 0 → digit_unit new ≡ 0) → (v : List ℕ) → digit_unit (v ++ old) ≤ length v → digit_unit (v ++ new) ≡ digit_unit (v ++ old)
digit_same old new none [] fits =
    let is : digit_unit old ≡ 0 = omega arith in
    none is ∙ sym is
digit_same old new none (c ∷ cs) fits = refl

pub digit_fits : (old new : List ℕ) → (digit_unit old ≡ 0 → digit_unit new ≡ 0) → Fits digit_unit old new
digit_fits old new none = record { same = digit_same old new none }
