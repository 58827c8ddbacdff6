-- Numbers before a white space, which is no part of them. No byte of a number is a backslash.
use Rattle.std.proofs.Common.{ℕ, zero, suc, ◌+◌, ◌≤◌, ◌≡◌, Bool, true, false, ◌==◌, ◌||◌, List, [], ◌∷◌, ◌++◌, length, drop, refl, sym, ap, ◌∙◌, arith}
use Rattle.std.proofs.lemmas.Bool.{eqb-true, ne_eqb}
use Rattle.std.proofs.lemmas.List.{drop-append-le, drop-drop, length-drop}
use Rattle.std.specs.Char.{is_ascii_digit}
use Rattle.css_model.specs.Text.Characters.{space, backslash, dot, is_plus_or_minus}
use Rattle.css_model.specs.Text.Runs.{run}
use Rattle.css_model.specs.Text.Units.{digit_unit, fraction, decimal, signed_decimal, signed_digits, exponent, number_len, one_and}
use Rattle.css_model.specs.Text.Kept.{is_open}

-- A length that fits a text is the same before a white space, and its bytes do not tell whether the text
-- ends in an open escape.
pub record Passes (f : List ℕ → ℕ) (old new v : List ℕ) : Type 0 where
  pub same : f (v ++ new) ≡ f (v ++ old)
  pub ends : is_open (drop (f (v ++ old)) v) ≡ is_open v

none_pass : (f : List ℕ → ℕ) (old new : List ℕ) → f old ≤ 0 → f new ≡ 0 → Passes f old new []
none_pass f old new fits apart =
    let none : f old ≡ 0 = omega arith in
    record { same = omega arith; ends = ap (λ (n : ℕ). is_open (drop {A = ℕ} n [])) none }

ends_digit : (c : ℕ) (cs : List ℕ) → (c == backslash) ≡ false → is_open (c ∷ cs) ≡ is_open cs
ends_digit c cs other = rw other refl

digit_other : (c : ℕ) → is_ascii_digit c ≡ true → (c == backslash) ≡ false
digit_other c digit = ne_eqb c backslash (λ (is : c ≡ backslash). grind (arith, rw is at digit))

digits_cases : (d : Bool) (c : ℕ) (cs old new : List ℕ) → is_ascii_digit c ≡ d → (run digit_unit (cs ++ old) ≤ length cs → Passes (run digit_unit) old new cs)
    → run digit_unit (c ∷ cs ++ old) ≤ suc (length cs) → Passes (run digit_unit) old new (c ∷ cs)
digits_cases true c cs old new digit later fits =
    let rest = later (let is : suc (run digit_unit (cs ++ old)) ≤ suc (length cs) = rw digit at fits in omega (arith, is)) in
    record { same = rw digit (ap suc rest.same); ends = rw digit (rest.ends ∙ sym (ends_digit c cs (digit_other c digit))) }
digits_cases false c cs old new digit later fits = record { same = rw digit refl; ends = rw digit refl }

digits_pass : (old rest v : List ℕ) → run digit_unit (v ++ old) ≤ length v → Passes (run digit_unit) old (space ∷ rest) v
digits_pass old rest [] fits = none_pass (run digit_unit) old (space ∷ rest) fits refl
digits_pass old rest (c ∷ cs) fits = digits_cases (is_ascii_digit c) c cs old (space ∷ rest) refl (digits_pass old rest cs) fits

-- one length and then another
seq_pass : (f g : List ℕ → ℕ) (old new v : List ℕ) → (f (v ++ old) ≤ length v → Passes f old new v) → ((u : List ℕ) → g (u ++ old) ≤ length u → Passes g old new u)
    → f (v ++ old) + g (drop (f (v ++ old)) (v ++ old)) ≤ length v → Passes (λ text. f text + g (drop (f text) text)) old new v
seq_pass f g old new v first second fits =
    let n = f (v ++ old) in
    let inside : n ≤ length v = omega (arith, fits) in
    let p = first inside in
    let cut : (more : List ℕ) → drop n (v ++ more) ≡ drop n v ++ more = λ more. drop-append-le n v more inside in
    let rest : g (drop n v ++ old) ≤ length (drop n v) = omega (arith, fits, length-drop n v, ap g (cut old)) in
    let q = second (drop n v) rest in
    let at : f (v ++ new) + g (drop (f (v ++ new)) (v ++ new)) ≡ n + g (drop n (v ++ new)) = ap (λ (m : ℕ). m + g (drop m (v ++ new))) p.same in
    let behind : drop (n + g (drop n (v ++ old))) v ≡ drop (g (drop n v ++ old)) (drop n v) =
    ap (λ (m : ℕ). drop (n + m) v) (ap g (cut old)) ∙ sym (drop-drop (g (drop n v ++ old)) n v) in
    record {
      same = omega (arith, at, q.same, ap g (cut old), ap g (cut new));
      ends = ap is_open behind ∙ q.ends ∙ p.ends;
    }

one_cases : (n l : ℕ) → one_and n ≤ suc l → n ≤ l
one_cases zero l fits = omega arith
one_cases (suc n) l fits = omega arith

-- one byte and a length behind it
one_ends : (n c : ℕ) (cs : List ℕ) → (c == backslash) ≡ false → is_open (drop n cs) ≡ is_open cs → is_open (drop (one_and n) (c ∷ cs)) ≡ is_open (c ∷ cs)
one_ends zero c cs other rest = refl
one_ends (suc n) c cs other rest =
    let two : 2 + n ≡ suc (suc n) = omega arith in
    ap (λ (m : ℕ). is_open (drop m (c ∷ cs))) two ∙ rest ∙ sym (ends_digit c cs other)

fraction_pass : (old rest v : List ℕ) → fraction (v ++ old) ≤ length v → Passes fraction old (space ∷ rest) v
fraction_pass old rest [] fits = none_pass fraction old (space ∷ rest) fits refl
fraction_pass old rest (c ∷ cs) fits = which (c == dot) refl
  where
    which : (b : Bool) → (c == dot) ≡ b → Passes fraction old (space ∷ rest) (c ∷ cs)
    which true is =
        let digits = digits_pass old rest cs (one_cases (run digit_unit (cs ++ old)) (length cs) (rw is at fits)) in
        let other : (c == backslash) ≡ false = rw (eqb-true c dot is) refl in
        record { same = rw is (ap one_and digits.same); ends = rw is (one_ends (run digit_unit (cs ++ old)) c cs other digits.ends) }
    which false is = record { same = rw is refl; ends = rw is refl }

decimal_pass : (old rest v : List ℕ) → decimal (v ++ old) ≤ length v → Passes decimal old (space ∷ rest) v
decimal_pass old rest v fits = seq_pass (run digit_unit) fraction old (space ∷ rest) v (digits_pass old rest v) (fraction_pass old rest) fits

sign_other : (c : ℕ) → is_plus_or_minus c ≡ true → (c == backslash) ≡ false
sign_other c is = ne_eqb c backslash (λ (same : c ≡ backslash). grind (arith, rw same at is))

pub signed_decimal_pass : (old rest v : List ℕ) → signed_decimal (v ++ old) ≤ length v → Passes signed_decimal old (space ∷ rest) v
signed_decimal_pass old rest [] fits = none_pass signed_decimal old (space ∷ rest) fits refl
signed_decimal_pass old rest (c ∷ cs) fits = which (is_plus_or_minus c) refl
  where
    which : (b : Bool) → is_plus_or_minus c ≡ b → Passes signed_decimal old (space ∷ rest) (c ∷ cs)
    which true is =
        let behind = decimal_pass old rest cs (one_cases (decimal (cs ++ old)) (length cs) (rw is at fits)) in
        record { same = rw is (ap one_and behind.same); ends = rw is (one_ends (decimal (cs ++ old)) c cs (sign_other c is) behind.ends) }
    which false is =
        let whole = decimal_pass old rest (c ∷ cs) (rw is at fits) in
        record { same = rw is whole.same; ends = rw is whole.ends }

signed_digits_pass : (old rest v : List ℕ) → signed_digits (v ++ old) ≤ length v → Passes signed_digits old (space ∷ rest) v
signed_digits_pass old rest [] fits = none_pass signed_digits old (space ∷ rest) fits refl
signed_digits_pass old rest (c ∷ cs) fits = which (is_plus_or_minus c) refl
  where
    which : (b : Bool) → is_plus_or_minus c ≡ b → Passes signed_digits old (space ∷ rest) (c ∷ cs)
    which true is =
        let behind = digits_pass old rest cs (one_cases (run digit_unit (cs ++ old)) (length cs) (rw is at fits)) in
        record { same = rw is (ap one_and behind.same); ends = rw is (one_ends (run digit_unit (cs ++ old)) c cs (sign_other c is) behind.ends) }
    which false is =
        let whole = digits_pass old rest (c ∷ cs) (rw is at fits) in
        record { same = rw is whole.same; ends = rw is whole.ends }

exponent_other : (c : ℕ) → (c == 101 || c == 69) ≡ true → (c == backslash) ≡ false
exponent_other c is = ne_eqb c backslash (λ (same : c ≡ backslash). grind (arith, rw same at is))

exponent_pass : (old rest v : List ℕ) → exponent (v ++ old) ≤ length v → Passes exponent old (space ∷ rest) v
exponent_pass old rest [] fits = none_pass exponent old (space ∷ rest) fits refl
exponent_pass old rest (c ∷ cs) fits = which (c == 101 || c == 69) refl
  where
    which : (b : Bool) → (c == 101 || c == 69) ≡ b → Passes exponent old (space ∷ rest) (c ∷ cs)
    which true is =
        let behind = signed_digits_pass old rest cs (one_cases (signed_digits (cs ++ old)) (length cs) (rw is at fits)) in
        record { same = rw is (ap one_and behind.same); ends = rw is (one_ends (signed_digits (cs ++ old)) c cs (exponent_other c is) behind.ends) }
    which false is = record { same = rw is refl; ends = rw is refl }

pub number_pass : (old rest v : List ℕ) → number_len (v ++ old) ≤ length v → Passes number_len old (space ∷ rest) v
number_pass old rest v fits = seq_pass signed_decimal exponent old (space ∷ rest) v (signed_decimal_pass old rest v) (exponent_pass old rest) fits
