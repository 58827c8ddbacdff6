-- Numbers, and the runs of digits that compute their length.
use Rattle.std.proofs.Common.{ℕ, zero, suc, ◌+◌, ◌<◌, ◌≤◌, ◌≡◌, ◌⊎◌, inl, inr, Bool, true, false, leb, ◌&&◌, ◌||◌, ◌==◌, List, [], ◌∷◌, ◌++◌, length, drop, refl, sym, ap, ◌∙◌, subst, arith, append_assoc}
use Rattle.std.specs.Char.{is_ascii_digit}
use Rattle.std.specs.List.{list_all}
use Rattle.std.proofs.lemmas.Bool.{and_from, and_left, and_parts, eq-eqb, eqb-true, false_from_ne_true, leb-true, ne_eqb, or_cases, or_from, or_left, or_parts, or_right}
use Rattle.std.proofs.lemmas.List.{drop_at, length-append}
use Rattle.css_model.specs.Text.Characters.{backslash, dash, dot, plus, first_passes, is_plus_or_minus, is_start}
use Rattle.css_model.specs.Text.Runs.{run}
use Rattle.css_model.specs.Text.Units.{decimal, digit_unit, exponent, fraction, name_start, number_len, one_and, signed_decimal, signed_digits}
use Rattle.css_tokens.proofs.ForCallers.{run_none, run_unit}
use Rattle.token_grammar.specs.Numbers.{IsDecimal, IsExponent, IsNumber, IsSign}
use Rattle.token_grammar.specs.Numbers.IsDecimal.{integer, fraction as dotted, both}
use Rattle.token_grammar.specs.Numbers.IsExponent.{nothing as no_exponent, one as an_exponent}
use Rattle.token_grammar.specs.Numbers.IsSign.{nothing as no_sign, one as a_sign}
use Rattle.token_grammar.specs.Rows.{AreDigits}
use Rattle.token_grammar.proofs.FirstBytes.{FirstIs, first_front, first_of, some_of}

-- digits
digit_step : (d : ℕ) (ds : List ℕ) → is_ascii_digit d ≡ true → run digit_unit (d ∷ ds) ≡ suc (run digit_unit ds)
digit_step d ds digit =
    let unit : digit_unit (d ∷ ds) ≡ 1 = rw digit refl in
    let whole = run_unit digit_unit (d ∷ ds) 1 (omega arith) unit (omega arith) in
    omega (arith, whole)

digit_none : (text : List ℕ) → first_passes is_ascii_digit text ≡ false → run digit_unit text ≡ 0
digit_none [] other = refl
digit_none (c ∷ cs) other = let unit : digit_unit (c ∷ cs) ≡ 0 = rw other refl in run_none digit_unit (c ∷ cs) unit

digits_run : (ds rest : List ℕ) → list_all is_ascii_digit ds ≡ true → run digit_unit (ds ++ rest) ≡ length ds + run digit_unit rest
digits_run [] rest all = omega arith
digits_run (d ∷ ds) rest all =
    let two = and_parts (is_ascii_digit d) (list_all is_ascii_digit ds) all in
    omega (arith, digit_step d (ds ++ rest) two.0, digits_run ds rest two.1)

record FrontDigits (text : List ℕ) : Type 0 where
  digits : List ℕ
  rest : List ℕ
  joined : text ≡ digits ++ rest
  all : list_all is_ascii_digit digits ≡ true
  ends : first_passes is_ascii_digit rest ≡ false

front_digits : (text : List ℕ) → FrontDigits text
front_digits [] = record { digits = []; rest = []; joined = refl; all = refl; ends = refl }
front_digits (c ∷ cs) = by (is_ascii_digit c) refl (front_digits cs)
  where
    by : (b : Bool) → is_ascii_digit c ≡ b → FrontDigits cs → FrontDigits (c ∷ cs)
    by true digit f = record {
      digits = c ∷ f.digits;
      rest = f.rest;
      joined = ap (λ (t : List ℕ). c ∷ t) f.joined;
      all = and_from (is_ascii_digit c) (list_all is_ascii_digit f.digits) digit f.all;
      ends = f.ends;
    }
    by false digit f = record { digits = []; rest = c ∷ cs; joined = refl; all = refl; ends = digit }

front_len : (text : List ℕ) (f : FrontDigits text) → run digit_unit text ≡ length f.digits
front_len text f =
    let whole : run digit_unit text ≡ run digit_unit (f.digits ++ f.rest) = ap (λ (t : List ℕ). run digit_unit t) f.joined in
    omega (arith, whole, digits_run f.digits f.rest f.all, digit_none f.rest f.ends)

one_and_is : (n : ℕ) → 0 < n → one_and n ≡ suc n
one_and_is zero some = absurd (omega (arith, some))
one_and_is (suc n) some = omega arith

-- what a decimal goes on with
abbrev goes_on : ℕ → Bool
goes_on c = is_ascii_digit c || c == dot

no_digit : (rest : List ℕ) → first_passes goes_on rest ≡ false → first_passes is_ascii_digit rest ≡ false
no_digit [] h = refl
no_digit (c ∷ cs) h = (or_parts (is_ascii_digit c) (c == dot) h).0

no_fraction : (rest : List ℕ) → first_passes goes_on rest ≡ false → fraction rest ≡ 0
no_fraction [] h = refl
no_fraction (c ∷ cs) h = let other = (or_parts (is_ascii_digit c) (c == dot) h).1 in rw other refl

fraction_at : (ds rest : List ℕ) → AreDigits ds → fraction (dot ∷ (ds ++ rest)) ≡ suc (length ds + run digit_unit rest)
fraction_at ds rest are =
    let digits = digits_run ds rest are.each in
    let is : fraction (dot ∷ (ds ++ rest)) ≡ one_and (run digit_unit (ds ++ rest)) = refl in
    let one = one_and_is (run digit_unit (ds ++ rest)) (omega (arith, digits, are.some)) in
    omega (arith, is, digits, one)

-- digits and a fraction, and maybe more of them after
record DecimalLen (front rest : List ℕ) : Type 0 where
  more : ℕ
  is : decimal (front ++ rest) ≡ length front + more
  none : first_passes goes_on rest ≡ false → more ≡ 0

decimal_len : (front rest : List ℕ) → IsDecimal front → DecimalLen front rest
decimal_len front rest (integer are) = record {
  more = run digit_unit rest + fraction (drop (run digit_unit (front ++ rest)) (front ++ rest));
  is = is;
  none = none;
}
  where
    is : decimal (front ++ rest) ≡ length front + (run digit_unit rest + fraction (drop (run digit_unit (front ++ rest)) (front ++ rest)))
    is =
        let whole : decimal (front ++ rest) ≡ run digit_unit (front ++ rest) + fraction (drop (run digit_unit (front ++ rest)) (front ++ rest)) = refl in
        omega (arith, whole, digits_run front rest are.each)

    none : first_passes goes_on rest ≡ false → run digit_unit rest + fraction (drop (run digit_unit (front ++ rest)) (front ++ rest)) ≡ 0
    none h =
        let stops = digit_none rest (no_digit rest h) in
        let size : run digit_unit (front ++ rest) ≡ length front = omega (arith, digits_run front rest are.each, stops) in
        let tail : drop (run digit_unit (front ++ rest)) (front ++ rest) ≡ rest = drop_at front rest (run digit_unit (front ++ rest)) (sym size) in
        let last : fraction (drop (run digit_unit (front ++ rest)) (front ++ rest)) ≡ 0 = ap fraction tail ∙ no_fraction rest h in
        omega (arith, stops, last)
decimal_len front rest (dotted ds e are) =
    let joined : front ++ rest ≡ dot ∷ (ds ++ rest) = ap (λ (t : List ℕ). t ++ rest) e in
    let whole : decimal (front ++ rest) ≡ decimal (dot ∷ (ds ++ rest)) = ap decimal joined in
    let first : decimal (dot ∷ (ds ++ rest)) ≡ 0 + fraction (dot ∷ (ds ++ rest)) = refl in
    let size : length front ≡ suc (length ds) = ap (λ (t : List ℕ). length t) e in
    record {
      more = run digit_unit rest;
      is = omega (arith, whole, first, fraction_at ds rest are, size);
      none = λ h. digit_none rest (no_digit rest h);
    }
decimal_len front rest (both whole ds e are more) =
    let text = whole ++ dot ∷ (ds ++ rest) in
    let joined : front ++ rest ≡ text = ap (λ (t : List ℕ). t ++ rest) e ∙ append_assoc whole (dot ∷ ds) rest in
    let same : decimal (front ++ rest) ≡ decimal text = ap decimal joined in
    let stops : run digit_unit (dot ∷ (ds ++ rest)) ≡ 0 = digit_none (dot ∷ (ds ++ rest)) refl in
    let size : run digit_unit text ≡ length whole = omega (arith, digits_run whole (dot ∷ (ds ++ rest)) are.each, stops) in
    let tail : drop (run digit_unit text) text ≡ dot ∷ (ds ++ rest) = drop_at whole (dot ∷ (ds ++ rest)) (run digit_unit text) (sym size) in
    let last : fraction (drop (run digit_unit text) text) ≡ suc (length ds + run digit_unit rest) = ap fraction tail ∙ fraction_at ds rest more in
    let is : decimal text ≡ run digit_unit text + fraction (drop (run digit_unit text) text) = refl in
    let long : length front ≡ length whole + suc (length ds) = ap (λ (t : List ℕ). length t) e ∙ length-append whole (dot ∷ ds) in
    record {
      more = run digit_unit rest;
      is = omega (arith, same, is, size, last, long);
      none = λ h. digit_none rest (no_digit rest h);
    }

digits_begin : (text : List ℕ) → AreDigits text → FirstIs goes_on text
digits_begin [] are = absurd (omega (arith, are.some))
digits_begin (c ∷ cs) are =
    let digit = (and_parts (is_ascii_digit c) (list_all is_ascii_digit cs) are.each).0 in
    first_of goes_on c cs (c ∷ cs) refl (or_left (is_ascii_digit c) (c == dot) digit)

pub decimal_begins : (text : List ℕ) → IsDecimal text → FirstIs goes_on text
decimal_begins text (integer are) = digits_begin text are
decimal_begins text (dotted digits e are) = first_of goes_on dot digits text e refl
decimal_begins text (both whole digits e are more) = first_front goes_on whole (dot ∷ digits) text e (digits_begin whole are)

digit_no_sign : (c : ℕ) → is_ascii_digit c ≡ true → is_plus_or_minus c ≡ false
digit_no_sign c digit =
    let low = leb-true 48 c (and_parts (leb 48 c) (leb c 57) digit).0 in
    or_from (c == plus) (c == dash) (ne_eqb c plus (λ e. absurd (omega (arith, low, e)))) (ne_eqb c dash (λ e. absurd (omega (arith, low, e))))

goes_no_sign : (c : ℕ) → goes_on c ≡ true → is_plus_or_minus c ≡ false
goes_no_sign c h = by (or_cases (is_ascii_digit c) (c == dot) h)
  where
    by : (is_ascii_digit c ≡ true) ⊎ (c == dot ≡ true) → is_plus_or_minus c ≡ false
    by (inl digit) = digit_no_sign c digit
    by (inr same) = ap is_plus_or_minus (eqb-true c dot same)

decimal_some : (front rest : List ℕ) → IsDecimal front → 0 < decimal (front ++ rest)
decimal_some front rest is = by (decimal_len front rest is)
  where
    by : DecimalLen front rest → 0 < decimal (front ++ rest)
    by d = omega (arith, d.is, some_of goes_on front (decimal_begins front is))

-- with a sign
signed_len : (sign front rest : List ℕ) → IsSign sign → IsDecimal front → signed_decimal (sign ++ (front ++ rest)) ≡ length sign + decimal (front ++ rest)
signed_len sign front rest (no_sign e) is = by (decimal_begins front is)
  where
    by : FirstIs goes_on front → signed_decimal (sign ++ (front ++ rest)) ≡ length sign + decimal (front ++ rest)
    by f =
        let text : sign ++ (front ++ rest) ≡ f.first ∷ (f.later ++ rest) =
        ap (λ (s : List ℕ). s ++ (front ++ rest)) e ∙ ap (λ (t : List ℕ). t ++ rest) f.is in
        let other = goes_no_sign f.first f.passes in
        let one : signed_decimal (f.first ∷ (f.later ++ rest)) ≡ decimal (f.first ∷ (f.later ++ rest)) = rw other refl in
        let same : decimal (front ++ rest) ≡ decimal (f.first ∷ (f.later ++ rest)) = ap (λ (t : List ℕ). decimal (t ++ rest)) f.is in
        let size : length sign ≡ 0 = ap (λ (t : List ℕ). length t) e in
        let whole : signed_decimal (sign ++ (front ++ rest)) ≡ signed_decimal (f.first ∷ (f.later ++ rest)) = ap signed_decimal text in
        omega (arith, one, same, size, whole)
signed_len sign front rest (a_sign c e signed) is =
    let whole : signed_decimal (sign ++ (front ++ rest)) ≡ signed_decimal (c ∷ (front ++ rest)) = ap (λ (s : List ℕ). signed_decimal (s ++ (front ++ rest))) e in
    let one : signed_decimal (c ∷ (front ++ rest)) ≡ one_and (decimal (front ++ rest)) = rw signed refl in
    let size : length sign ≡ 1 = ap (λ (t : List ℕ). length t) e in
    omega (arith, whole, one, size, one_and_is (decimal (front ++ rest)) (decimal_some front rest is))

signed_run : (sign ds rest : List ℕ) → IsSign sign → AreDigits ds → signed_digits (sign ++ (ds ++ rest)) ≡ length sign + (length ds + run digit_unit rest)
signed_run sign ds rest (no_sign e) are = by (digits_begin ds are) ds are refl
  where
    by : FirstIs goes_on ds → (text : List ℕ) → AreDigits text → ds ≡ text → signed_digits (sign ++ (ds ++ rest)) ≡ length sign + (length ds + run digit_unit rest)
    by f [] are_digits same = absurd (omega (arith, are_digits.some))
    by f (d ∷ others) are_digits same =
        let digit = (and_parts (is_ascii_digit d) (list_all is_ascii_digit others) are_digits.each).0 in
        let other = digit_no_sign d digit in
        let text : sign ++ (ds ++ rest) ≡ d ∷ (others ++ rest) = ap (λ (s : List ℕ). s ++ (ds ++ rest)) e ∙ ap (λ (t : List ℕ). t ++ rest) same in
        let whole : signed_digits (sign ++ (ds ++ rest)) ≡ signed_digits (d ∷ (others ++ rest)) = ap signed_digits text in
        let one : signed_digits (d ∷ (others ++ rest)) ≡ run digit_unit (d ∷ (others ++ rest)) = rw other refl in
        let size : length sign ≡ 0 = ap (λ (t : List ℕ). length t) e in
        let long : length ds ≡ suc (length others) = ap (λ (t : List ℕ). length t) same in
        omega (arith, whole, one, size, long, digits_run (d ∷ others) rest are_digits.each)
signed_run sign ds rest (a_sign c e signed) are =
    let whole : signed_digits (sign ++ (ds ++ rest)) ≡ signed_digits (c ∷ (ds ++ rest)) = ap (λ (s : List ℕ). signed_digits (s ++ (ds ++ rest))) e in
    let one : signed_digits (c ∷ (ds ++ rest)) ≡ one_and (run digit_unit (ds ++ rest)) = rw signed refl in
    let size : length sign ≡ 1 = ap (λ (t : List ℕ). length t) e in
    let digits = digits_run ds rest are.each in
    omega (arith, whole, one, size, digits, one_and_is (run digit_unit (ds ++ rest)) (omega (arith, digits, are.some)))

-- an exponent
is_e : (c : ℕ) → (c ≡ 101) ⊎ (c ≡ 69) → (c == 101 || c == 69) ≡ true
is_e c (inl e) = or_left (c == 101) (c == 69) (eq-eqb c 101 e)
is_e c (inr e) = or_right (c == 101) (c == 69) (eq-eqb c 69 e)

exponent_le : (front rest : List ℕ) → IsExponent front → length front ≤ exponent (front ++ rest)
exponent_le front rest (no_exponent e) = omega (arith, ap (λ (t : List ℕ). length t) e)
exponent_le front rest (an_exponent c sign ds e is signed are) =
    let letter = is_e c is in
    let joined : front ++ rest ≡ c ∷ (sign ++ (ds ++ rest)) = ap (λ (t : List ℕ). t ++ rest) e ∙ ap (λ (t : List ℕ). c ∷ t) (append_assoc sign ds rest) in
    let whole : exponent (front ++ rest) ≡ exponent (c ∷ (sign ++ (ds ++ rest))) = ap exponent joined in
    let one : exponent (c ∷ (sign ++ (ds ++ rest))) ≡ one_and (signed_digits (sign ++ (ds ++ rest))) = rw letter refl in
    let size : length front ≡ suc (length (sign ++ ds)) = ap (λ (t : List ℕ). length t) e in
    let digits = signed_run sign ds rest signed are in
    omega (arith, whole, one, size, length-append sign ds, digits, one_and_is (signed_digits (sign ++ (ds ++ rest))) (omega (arith, digits, are.some)))

-- an exponent is no part of the decimal before it
e_ends : (c : ℕ) → (c ≡ 101) ⊎ (c ≡ 69) → goes_on c ≡ false
e_ends c (inl e) = ap goes_on e
e_ends c (inr e) = ap goes_on e

-- no number at the front of a text is longer than what is computed
pub number_le : (number rest : List ℕ) → IsNumber number → (length number ≤ number_len (number ++ rest)) × (0 < signed_decimal (number ++ rest))
number_le number rest n = by n.is_exponent (decimal_len n.decimal (n.exponent ++ rest) n.is_decimal)
  where
    same : number ++ rest ≡ n.sign ++ (n.decimal ++ (n.exponent ++ rest))
    same =
        ap (λ (t : List ℕ). t ++ rest) n.joined
        ∙ (append_assoc n.sign (n.decimal ++ n.exponent) rest ∙ ap (λ (t : List ℕ). n.sign ++ t) (append_assoc n.decimal n.exponent rest))

    size : length number ≡ length n.sign + (length n.decimal + length n.exponent)
    size =
        ap (λ (t : List ℕ). length t) n.joined
        ∙ (length-append n.sign (n.decimal ++ n.exponent) ∙ ap (λ (k : ℕ). length n.sign + k) (length-append n.decimal n.exponent))

    signed : signed_decimal (n.sign ++ (n.decimal ++ (n.exponent ++ rest))) ≡ length n.sign + decimal (n.decimal ++ (n.exponent ++ rest))
    signed = signed_len n.sign n.decimal (n.exponent ++ rest) n.is_sign n.is_decimal

    some : 0 < signed_decimal (number ++ rest)
    some = omega (arith, ap signed_decimal same, signed, decimal_some n.decimal (n.exponent ++ rest) n.is_decimal)

    by : IsExponent n.exponent → DecimalLen n.decimal (n.exponent ++ rest) → (length number ≤ number_len (number ++ rest)) × (0 < signed_decimal (number ++ rest))
    by (no_exponent e) d =
        let whole : number_len (number ++ rest) ≡ signed_decimal (number ++ rest) + exponent (drop (signed_decimal (number ++ rest)) (number ++ rest)) = refl in
        (omega (arith, whole, ap signed_decimal same, signed, d.is, size, ap (λ (t : List ℕ). length t) e), some)
    by (an_exponent c sign ds e is signs are) d =
        let none : d.more ≡ 0 = d.none (ap (λ (t : List ℕ). first_passes goes_on (t ++ rest)) e ∙ e_ends c is) in
        let whole : number_len (number ++ rest) ≡ signed_decimal (number ++ rest) + exponent (drop (signed_decimal (number ++ rest)) (number ++ rest)) = refl in
        let front : signed_decimal (number ++ rest) ≡ length (n.sign ++ n.decimal) = omega (arith, ap signed_decimal same, signed, d.is, none, length-append n.sign n.decimal) in
        let joined : number ++ rest ≡ (n.sign ++ n.decimal) ++ (n.exponent ++ rest) = same ∙ sym (append_assoc n.sign n.decimal (n.exponent ++ rest)) in
        let tail : drop (signed_decimal (number ++ rest)) (number ++ rest) ≡ n.exponent ++ rest =
        ap (λ (t : List ℕ). drop (signed_decimal (number ++ rest)) t) joined ∙ drop_at (n.sign ++ n.decimal) (n.exponent ++ rest) (signed_decimal (number ++ rest)) (sym front) in
        let last : exponent (drop (signed_decimal (number ++ rest)) (number ++ rest)) ≡ exponent (n.exponent ++ rest) = ap exponent tail in
        (omega (arith, whole, front, last, exponent_le n.exponent rest n.is_exponent, size, length-append n.sign n.decimal), some)

-- the number at the front of a text
data FractionHere (text : List ℕ) : Type 0 where
  absent : fraction text ≡ 0 → FractionHere text
  present : (ds rest : List ℕ) → text ≡ dot ∷ (ds ++ rest) → AreDigits ds → fraction text ≡ suc (length ds) → FractionHere text

fraction_here : (text : List ℕ) → FractionHere text
fraction_here [] = absent refl
fraction_here (c ∷ cs) = by (c == dot) refl (front_digits cs)
  where
    by : (b : Bool) → (c == dot) ≡ b → FrontDigits cs → FractionHere (c ∷ cs)
    by false other f = absent (rw other refl)
    by true same f = at f.digits f.joined f.all
      where
        at : (ds : List ℕ) → cs ≡ ds ++ f.rest → list_all is_ascii_digit ds ≡ true → FractionHere (c ∷ cs)
        at [] joined all =
            let none : run digit_unit cs ≡ 0 = ap (λ (t : List ℕ). run digit_unit t) joined ∙ digit_none f.rest f.ends in
            absent (rw (same, none) refl)
        at (d ∷ ds) joined all =
            let are : AreDigits (d ∷ ds) = record { some = omega arith; each = all } in
            let text : c ∷ cs ≡ dot ∷ ((d ∷ ds) ++ f.rest) = ap (λ (c : ℕ). c ∷ cs) (eqb-true c dot same) ∙ ap (λ (t : List ℕ). dot ∷ t) joined in
            let size : fraction (c ∷ cs) ≡ fraction (dot ∷ ((d ∷ ds) ++ f.rest)) = ap fraction text in
            present (d ∷ ds) f.rest text are (omega (arith, size, fraction_at (d ∷ ds) f.rest are, digit_none f.rest f.ends))

record DecimalHere (text : List ℕ) : Type 0 where
  front : List ℕ
  rest : List ℕ
  joined : text ≡ front ++ rest
  is : IsDecimal front
  len : decimal text ≡ length front

decimal_here : (text : List ℕ) → 0 < decimal text → DecimalHere text
decimal_here text some = of (front_digits text)
  where
    of : FrontDigits text → DecimalHere text
    of f = by f.digits f.joined f.all (fraction_here f.rest)
      where
        size : run digit_unit text ≡ length f.digits
        size = front_len text f

        tail : drop (run digit_unit text) text ≡ f.rest
        tail = ap (λ (t : List ℕ). drop (run digit_unit text) t) f.joined ∙ drop_at f.digits f.rest (run digit_unit text) (sym size)

        whole : decimal text ≡ run digit_unit text + fraction f.rest
        whole = ap (λ (t : List ℕ). run digit_unit text + fraction t) tail

        run_of : (ds : List ℕ) → text ≡ ds ++ f.rest → list_all is_ascii_digit ds ≡ true → run digit_unit text ≡ length ds
        run_of ds joined all =
            let same : run digit_unit text ≡ run digit_unit (ds ++ f.rest) = ap (λ (t : List ℕ). run digit_unit t) joined in
            omega (arith, same, digits_run ds f.rest all, digit_none f.rest f.ends)

        by : (ds : List ℕ) → text ≡ ds ++ f.rest → list_all is_ascii_digit ds ≡ true → FractionHere f.rest → DecimalHere text
        by [] joined all (absent none) = absurd (omega (arith, some, whole, none, run_of [] joined all))
        by [] joined all (present fs more e are len) = record {
          front = dot ∷ fs;
          rest = more;
          joined = joined ∙ e;
          is = dotted fs refl are;
          len = omega (arith, whole, len, run_of [] joined all);
        }
        by (d ∷ ds) joined all (absent none) = record {
          front = d ∷ ds;
          rest = f.rest;
          joined = joined;
          is = integer (record { some = omega arith; each = all });
          len = omega (arith, whole, none, run_of (d ∷ ds) joined all);
        }
        by (d ∷ ds) joined all (present fs more e are len) = record {
          front = (d ∷ ds) ++ dot ∷ fs;
          rest = more;
          joined = joined ∙ (ap (λ (t : List ℕ). (d ∷ ds) ++ t) e ∙ sym (append_assoc (d ∷ ds) (dot ∷ fs) more));
          is = both (d ∷ ds) fs refl (record { some = omega arith; each = all }) are;
          len = omega (arith, whole, len, run_of (d ∷ ds) joined all, length-append (d ∷ ds) (dot ∷ fs));
        }

record SignedHere (text : List ℕ) : Type 0 where
  sign : List ℕ
  digits : List ℕ
  rest : List ℕ
  joined : text ≡ sign ++ (digits ++ rest)
  is : IsSign sign
  are : AreDigits digits
  ends : first_passes is_ascii_digit rest ≡ false

signed_here : (text : List ℕ) → (signed_digits text ≡ 0) ⊎ SignedHere text
signed_here [] = inl refl
signed_here (c ∷ cs) = by (is_plus_or_minus c) refl
  where
    plain : is_plus_or_minus c ≡ false → (f : FrontDigits (c ∷ cs)) → (ds : List ℕ) → c ∷ cs ≡ ds ++ f.rest → list_all is_ascii_digit ds ≡ true
        → (signed_digits (c ∷ cs) ≡ 0) ⊎ SignedHere (c ∷ cs)
    plain other f [] joined all =
        let none : run digit_unit (c ∷ cs) ≡ 0 = ap (λ (t : List ℕ). run digit_unit t) joined ∙ digit_none f.rest f.ends in
        let one : signed_digits (c ∷ cs) ≡ run digit_unit (c ∷ cs) = rw other refl in
        inl (one ∙ none)
    plain other f (d ∷ ds) joined all =
        inr (record { sign = []; digits = d ∷ ds; rest = f.rest; joined = joined; is = no_sign refl; are = record { some = omega arith; each = all }; ends = f.ends })

    signed : is_plus_or_minus c ≡ true → (f : FrontDigits cs) → (ds : List ℕ) → cs ≡ ds ++ f.rest → list_all is_ascii_digit ds ≡ true
        → (signed_digits (c ∷ cs) ≡ 0) ⊎ SignedHere (c ∷ cs)
    signed is f [] joined all =
        let none : run digit_unit cs ≡ 0 = ap (λ (t : List ℕ). run digit_unit t) joined ∙ digit_none f.rest f.ends in
        inl (rw (is, none) refl)
    signed is f (d ∷ ds) joined all = inr (record {
      sign = c ∷ [];
      digits = d ∷ ds;
      rest = f.rest;
      joined = ap (λ (t : List ℕ). c ∷ t) joined;
      is = a_sign c refl is;
      are = record { some = omega arith; each = all };
      ends = f.ends;
    })

    by : (b : Bool) → is_plus_or_minus c ≡ b → (signed_digits (c ∷ cs) ≡ 0) ⊎ SignedHere (c ∷ cs)
    by true is = let f = front_digits cs in signed is f f.digits f.joined f.all
    by false other = let f = front_digits (c ∷ cs) in plain other f f.digits f.joined f.all

record ExponentHere (text : List ℕ) : Type 0 where
  front : List ℕ
  rest : List ℕ
  joined : text ≡ front ++ rest
  is : IsExponent front
  len : exponent text ≡ length front

exponent_here : (text : List ℕ) → ExponentHere text
exponent_here [] = record { front = []; rest = []; joined = refl; is = no_exponent refl; len = refl }
exponent_here (c ∷ cs) = by (c == 101 || c == 69) refl (signed_here cs)
  where
    letter : (c == 101 || c == 69) ≡ true → (c ≡ 101) ⊎ (c ≡ 69)
    letter is = which (or_cases (c == 101) (c == 69) is)
      where
        which : (c == 101 ≡ true) ⊎ (c == 69 ≡ true) → (c ≡ 101) ⊎ (c ≡ 69)
        which (inl e) = inl (eqb-true c 101 e)
        which (inr e) = inr (eqb-true c 69 e)

    by : (b : Bool) → (c == 101 || c == 69) ≡ b → (signed_digits cs ≡ 0) ⊎ SignedHere cs → ExponentHere (c ∷ cs)
    by false other s = record { front = []; rest = c ∷ cs; joined = refl; is = no_exponent refl; len = rw other refl }
    by true is (inl none) = record { front = []; rest = c ∷ cs; joined = refl; is = no_exponent refl; len = rw (is, none) refl }
    by true is (inr s) =
        let digits : signed_digits cs ≡ signed_digits (s.sign ++ (s.digits ++ s.rest)) = ap signed_digits s.joined in
        let long = signed_run s.sign s.digits s.rest s.is s.are in
        let stops = digit_none s.rest s.ends in
        let one : exponent (c ∷ cs) ≡ one_and (signed_digits cs) = rw is refl in
        let some = s.are in
        record {
          front = c ∷ (s.sign ++ s.digits);
          rest = s.rest;
          joined = ap (λ (t : List ℕ). c ∷ t) (s.joined ∙ sym (append_assoc s.sign s.digits s.rest));
          is = an_exponent c s.sign s.digits refl (letter is) s.is s.are;
          len = omega (arith, one, digits, long, stops, length-append s.sign s.digits, one_and_is (signed_digits cs) (omega (arith, digits, long, some.some)));
        }

pub record NumberHere (text : List ℕ) : Type 0 where
  pub front : List ℕ
  pub rest : List ℕ
  pub joined : text ≡ front ++ rest
  pub number : IsNumber front
  pub len : number_len text ≡ length front

number_of : (text sign front rest : List ℕ) → text ≡ sign ++ (front ++ rest) → IsSign sign → IsDecimal front → signed_decimal text ≡ length sign + length front → NumberHere text
number_of text sign front rest joined is_sign is_decimal size = of (exponent_here rest)
  where
    of : ExponentHere rest → NumberHere text
    of x =
        let whole : text ≡ (sign ++ front) ++ rest = joined ∙ sym (append_assoc sign front rest) in
        let tail : drop (signed_decimal text) text ≡ rest =
        ap (λ (t : List ℕ). drop (signed_decimal text) t) whole ∙ drop_at (sign ++ front) rest (signed_decimal text) (length-append sign front ∙ sym size) in
        let last : exponent (drop (signed_decimal text) text) ≡ length x.front = ap exponent tail ∙ x.len in
        let is : number_len text ≡ signed_decimal text + exponent (drop (signed_decimal text) text) = refl in
        record {
          front = sign ++ (front ++ x.front);
          rest = x.rest;
          joined =
              joined
              ∙ (ap (λ (t : List ℕ). sign ++ (front ++ t)) x.joined
              ∙ (ap (λ (t : List ℕ). sign ++ t) (sym (append_assoc front x.front x.rest)) ∙ sym (append_assoc sign (front ++ x.front) x.rest)));
          number = record {
            sign = sign;
            decimal = front;
            exponent = x.front;
            joined = refl;
            is_sign = is_sign;
            is_decimal = is_decimal;
            is_exponent = x.is;
          };
          len = omega (arith, size, last, is, length-append sign (front ++ x.front), length-append front x.front);
        }

some_one_and : (n : ℕ) → 0 < one_and n → 0 < n
some_one_and zero some = absurd (omega (arith, some))
some_one_and (suc n) some = omega arith

pub number_here : (text : List ℕ) → 0 < signed_decimal text → NumberHere text
number_here [] some = absurd (omega (arith, some))
number_here (c ∷ cs) some = by (is_plus_or_minus c) refl
  where
    by : (b : Bool) → is_plus_or_minus c ≡ b → NumberHere (c ∷ cs)
    by true is =
        let one : signed_decimal (c ∷ cs) ≡ one_and (decimal cs) = rw is refl in
        let begun : 0 < decimal cs = some_one_and (decimal cs) (omega (arith, some, one)) in
        let d = decimal_here cs begun in
        number_of (c ∷ cs) (c ∷ []) d.front d.rest (ap (λ (t : List ℕ). c ∷ t) d.joined) (a_sign c refl is) d.is
        (omega (arith, one, one_and_is (decimal cs) begun, d.len))
    by false other =
        let one : signed_decimal (c ∷ cs) ≡ decimal (c ∷ cs) = rw other refl in
        let d = decimal_here (c ∷ cs) (omega (arith, some, one)) in
        number_of (c ∷ cs) [] d.front d.rest d.joined (no_sign refl) d.is (omega (arith, one, d.len))

-- a number of one byte is a digit
pub number_two : (c : ℕ) (cs : List ℕ) → is_ascii_digit c ≡ false → 0 < signed_decimal (c ∷ cs) → 2 ≤ signed_decimal (c ∷ cs)
number_two c cs no_digit_here some = by (is_plus_or_minus c) refl
  where
    two : (n : ℕ) → 0 < one_and n → 2 ≤ one_and n
    two zero h = absurd (omega (arith, h))
    two (suc n) h = omega arith

    by : (b : Bool) → is_plus_or_minus c ≡ b → 2 ≤ signed_decimal (c ∷ cs)
    by true is =
        let one : signed_decimal (c ∷ cs) ≡ one_and (decimal cs) = rw is refl in
        omega (arith, one, two (decimal cs) (omega (arith, some, one)))
    by false other = at (c == dot) refl
      where
        at : (b : Bool) → (c == dot) ≡ b → 2 ≤ signed_decimal (c ∷ cs)
        at true same =
            let one : signed_decimal (c ∷ cs) ≡ 0 + one_and (run digit_unit cs) = rw (other, no_digit_here, same) refl in
            omega (arith, one, two (run digit_unit cs) (omega (arith, some, one)))
        at false apart =
            let none : signed_decimal (c ∷ cs) ≡ 0 = rw (other, no_digit_here, apart) refl in
            absurd (omega (arith, some, none))

-- a byte that may be part of a number
abbrev pub number_byte : ℕ → Bool
number_byte c = (is_ascii_digit c || c == dot) || (is_plus_or_minus c || (c == 101 || c == 69))

pub all_append : (p : ℕ → Bool) (xs ys : List ℕ) → list_all p xs ≡ true → list_all p ys ≡ true → list_all p (xs ++ ys) ≡ true
all_append p [] ys all more = more
all_append p (x ∷ xs) ys all more =
    let two = and_parts (p x) (list_all p xs) all in
    and_from (p x) (list_all p (xs ++ ys)) two.0 (all_append p xs ys two.1 more)

pub all_behind : (p : ℕ → Bool) (xs ys : List ℕ) → list_all p (xs ++ ys) ≡ true → list_all p ys ≡ true
all_behind p [] ys all = all
all_behind p (x ∷ xs) ys all = all_behind p xs ys (and_parts (p x) (list_all p (xs ++ ys)) all).1

goes_byte : (c : ℕ) → goes_on c ≡ true → number_byte c ≡ true
goes_byte c is = or_left (is_ascii_digit c || c == dot) (is_plus_or_minus c || (c == 101 || c == 69)) is

digits_bytes : (ds : List ℕ) → list_all is_ascii_digit ds ≡ true → list_all number_byte ds ≡ true
digits_bytes [] all = refl
digits_bytes (d ∷ ds) all =
    let two = and_parts (is_ascii_digit d) (list_all is_ascii_digit ds) all in
    and_from (number_byte d) (list_all number_byte ds) (goes_byte d (or_left (is_ascii_digit d) (d == dot) two.0)) (digits_bytes ds two.1)

sign_bytes : (s : List ℕ) → IsSign s → list_all number_byte s ≡ true
sign_bytes s (no_sign e) = ap (λ (t : List ℕ). list_all number_byte t) e
sign_bytes s (a_sign c e is) =
    let here : number_byte c ≡ true =
    or_right (is_ascii_digit c || c == dot) (is_plus_or_minus c || (c == 101 || c == 69)) (or_left (is_plus_or_minus c) (c == 101 || c == 69) is) in
    ap (λ (t : List ℕ). list_all number_byte t) e ∙ and_from (number_byte c) true here refl

decimal_bytes : (d : List ℕ) → IsDecimal d → list_all number_byte d ≡ true
decimal_bytes d (integer are) = digits_bytes d are.each
decimal_bytes d (dotted ds e are) = ap (λ (t : List ℕ). list_all number_byte t) e ∙ digits_bytes ds are.each
decimal_bytes d (both whole ds e are more) =
    ap (λ (t : List ℕ). list_all number_byte t) e ∙ all_append number_byte whole (dot ∷ ds) (digits_bytes whole are.each) (digits_bytes ds more.each)

exponent_bytes : (x : List ℕ) → IsExponent x → list_all number_byte x ≡ true
exponent_bytes x (no_exponent e) = ap (λ (t : List ℕ). list_all number_byte t) e
exponent_bytes x (an_exponent c sign ds e is signed are) =
    let here : number_byte c ≡ true =
    or_right (is_ascii_digit c || c == dot) (is_plus_or_minus c || (c == 101 || c == 69)) (or_right (is_plus_or_minus c) (c == 101 || c == 69) (is_e c is)) in
    ap (λ (t : List ℕ). list_all number_byte t) e
    ∙ and_from (number_byte c) (list_all number_byte (sign ++ ds)) here (all_append number_byte sign ds (sign_bytes sign signed) (digits_bytes ds are.each))

pub number_bytes : (number : List ℕ) → IsNumber number → list_all number_byte number ≡ true
number_bytes number n =
    ap (λ (t : List ℕ). list_all number_byte t) n.joined
    ∙ all_append number_byte n.sign (n.decimal ++ n.exponent) (sign_bytes n.sign n.is_sign)
    (all_append number_byte n.decimal n.exponent (decimal_bytes n.decimal n.is_decimal) (exponent_bytes n.exponent n.is_exponent))

-- where a number begins, no name does
record StartsNoName (c : ℕ) : Type 0 where
  no_dash : (c == dash) ≡ false
  no_start : is_start c ≡ false
  no_escape : (c == backslash) ≡ false

digit_starts_none : (c : ℕ) → is_ascii_digit c ≡ true → StartsNoName c
digit_starts_none c digit =
    let range = and_parts (leb 48 c) (leb c 57) digit in
    let low = leb-true 48 c range.0 in
    let high = leb-true c 57 range.1 in
    let above : (b : ℕ) → 57 < b → leb b c ≡ false = λ b over. false_from_ne_true _ (λ yes. absurd (omega (arith, over, high, leb-true b c yes))) in
    let upper : (leb 65 c && leb c 90) ≡ false = and_left (leb 65 c) (leb c 90) (above 65 (omega arith)) in
    let lower : (leb 97 c && leb c 122) ≡ false = and_left (leb 97 c) (leb c 122) (above 97 (omega arith)) in
    let under : (c == 95) ≡ false = ne_eqb c 95 (λ e. absurd (omega (arith, high, e))) in
    let null : (c == 0) ≡ false = ne_eqb c 0 (λ e. absurd (omega (arith, low, e))) in
    record {
      no_dash = ne_eqb c dash (λ e. absurd (omega (arith, low, e)));
      no_start = or_from _ (c == 0) (or_from _ (leb 128 c) (or_from _ (c == 95) (or_from _ _ upper lower) under) (above 128 (omega arith))) null;
      no_escape = ne_eqb c backslash (λ e. absurd (omega (arith, high, e)));
    }

decimal_starts_none : (c : ℕ) (cs : List ℕ) → 0 < decimal (c ∷ cs) → StartsNoName c
decimal_starts_none c cs some = which (is_ascii_digit c) refl (c == dot) refl
  where
    at_dot : StartsNoName dot
    at_dot = record { no_dash = refl; no_start = refl; no_escape = refl }

    which : (b : Bool) → is_ascii_digit c ≡ b → (e : Bool) → (c == dot) ≡ e → StartsNoName c
    which true digit e is = digit_starts_none c digit
    which false digit true is = subst StartsNoName (sym (eqb-true c dot is)) at_dot
    which false digit false is =
        let none : decimal (c ∷ cs) ≡ 0 = rw (digit, is) refl in
        absurd (omega (arith, some, none))

negative_no_start : (cs : List ℕ) → 0 < signed_decimal (dash ∷ cs) → name_start (dash ∷ cs) ≡ 0
negative_no_start [] some = absurd (omega (arith, some))
negative_no_start (d ∷ ds) some =
    let none = decimal_starts_none d ds (some_one_and (decimal (d ∷ ds)) some) in
    rw (none.no_dash, none.no_start, none.no_escape) refl

-- what holds of `+` and `-` holds of this byte
sign_is : (P : ℕ → Type 0) → P plus → P dash → (c : ℕ) → is_plus_or_minus c ≡ true → P c
sign_is P positive negative c is = which (or_cases (c == plus) (c == dash) is)
  where
    which : (c == plus ≡ true) ⊎ (c == dash ≡ true) → P c
    which (inl e) = subst P (sym (eqb-true c plus e)) positive
    which (inr e) = subst P (sym (eqb-true c dash e)) negative

pub number_no_start : (c : ℕ) (cs : List ℕ) → 0 < signed_decimal (c ∷ cs) → name_start (c ∷ cs) ≡ 0
number_no_start c cs = which (is_plus_or_minus c) refl
  where
    which : (b : Bool) → is_plus_or_minus c ≡ b → 0 < signed_decimal (c ∷ cs) → name_start (c ∷ cs) ≡ 0
    which true sign = sign_is (λ c. 0 < signed_decimal (c ∷ cs) → name_start (c ∷ cs) ≡ 0) (λ _. refl) (negative_no_start cs) c sign
    which false sign = λ some.
        let same : signed_decimal (c ∷ cs) ≡ decimal (c ∷ cs) = rw sign refl in
        let none = decimal_starts_none c cs (omega (arith, some, same)) in
        rw (none.no_dash, none.no_start, none.no_escape) refl

-- a digit begins a number
pub digit_number : (c : ℕ) (cs : List ℕ) → is_ascii_digit c ≡ true → 0 < signed_decimal (c ∷ cs)
digit_number c cs digit =
    let none = digit_no_sign c digit in
    let one : signed_decimal (c ∷ cs) ≡ decimal (c ∷ cs) = rw none refl in
    let whole : decimal (c ∷ cs) ≡ run digit_unit (c ∷ cs) + fraction (drop (run digit_unit (c ∷ cs)) (c ∷ cs)) = refl in
    omega (arith, one, whole, digit_step c cs digit)
