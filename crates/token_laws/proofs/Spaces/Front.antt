-- What stands before an open token does not see whether that takes a white space.
use Rattle.std.proofs.Common.{ℕ, zero, suc, ◌≡◌, Bool, true, false, cond, ◌==◌, List, [], ◌∷◌, ◌++◌, drop, refl, sym, ap, ◌∙◌, subst, arith}
use Rattle.std.proofs.lemmas.Bool.{false≢true, eqb-true}
use Rattle.css_model.specs.Text.Characters.{backslash, dash, dot, is_white, is_start, is_name, is_plus_or_minus, first_passes}
use Rattle.css_model.specs.Text.Runs.{run}
use Rattle.css_model.specs.Text.Units.{escape_after, name_unit, start_unit, name_start, digit_unit, fraction, decimal, signed_digits, one_and}
use Rattle.css_model.specs.Text.TokenAt.{is_quote}
use Rattle.css_model.specs.Text.Tokens.{Part}
use Rattle.token_laws.specs.Alike.{EndsAlike, begins_bang_dashes}
use Rattle.css_model.specs.Text.Kept.{is_open}
use Rattle.token_laws.proofs.Ends.Alike.{white_none, escape_first, digit_first}
use Rattle.token_laws.proofs.Parts.Facts.{after_white_none}

one_none : (p e : Bool) (m m' : ℕ) → (m ≡ 0 → m' ≡ 0) → cond p 1 (cond e m 0) ≡ 0 → ◌≡◌ {A = ℕ} (cond p 1 (cond e m' 0)) 0
one_none true e m m' same none = absurd (omega (arith, none))
one_none false true m m' same none = same none
one_none false false m m' same none = refl

and_none : (m m' : ℕ) → (m ≡ 0 → m' ≡ 0) → one_and m ≡ 0 → one_and m' ≡ 0
and_none zero m' same none = ap one_and (same refl)
and_none (suc m) m' same none = absurd (omega (arith, none))

-- two texts with the same first bytes
unit_two : (a b : ℕ) (xs ys : List ℕ) → name_unit (a ∷ b ∷ xs) ≡ 0 → name_unit (a ∷ b ∷ ys) ≡ 0
unit_two a b xs ys = one_none (is_name a) (a == backslash) (escape_after (b ∷ xs)) (escape_after (b ∷ ys)) (escape_first b xs ys)

start_two : (a b : ℕ) (xs ys : List ℕ) → start_unit (a ∷ b ∷ xs) ≡ 0 → start_unit (a ∷ b ∷ ys) ≡ 0
start_two a b xs ys = one_none (is_start a) (a == backslash) (escape_after (b ∷ xs)) (escape_after (b ∷ ys)) (escape_first b xs ys)

dash_none : (d : Bool) (m m' : ℕ) → (m ≡ 0 → m' ≡ 0) → cond d 2 (one_and m) ≡ 0 → ◌≡◌ {A = ℕ} (cond d 2 (one_and m')) 0
dash_none true m m' same none = absurd (omega (arith, none))
dash_none false m m' same none = and_none m m' same none

name_cases : (d : Bool) (m m' n n' : ℕ) → (m ≡ 0 → m' ≡ 0) → (n ≡ 0 → n' ≡ 0) → cond d m n ≡ 0 → ◌≡◌ {A = ℕ} (cond d m' n') 0
name_cases true m m' n n' left right none = left none
name_cases false m m' n n' left right none = right none

name_three : (a b c : ℕ) (xs ys : List ℕ) → name_start (a ∷ b ∷ c ∷ xs) ≡ 0 → name_start (a ∷ b ∷ c ∷ ys) ≡ 0
name_three a b c xs ys =
    name_cases (a == dash) (cond (b == dash) 2 (one_and (start_unit (b ∷ c ∷ xs)))) (cond (b == dash) 2 (one_and (start_unit (b ∷ c ∷ ys)))) (start_unit (a ∷ b ∷ c ∷ xs)) (start_unit (a ∷ b ∷ c ∷ ys))
    (dash_none (b == dash) (start_unit (b ∷ c ∷ xs)) (start_unit (b ∷ c ∷ ys)) (start_two b c xs ys)) (start_two a b (c ∷ xs) (c ∷ ys))

fraction_two : (a b : ℕ) (xs ys : List ℕ) → fraction (a ∷ b ∷ xs) ≡ 0 → fraction (a ∷ b ∷ ys) ≡ 0
fraction_two a b xs ys =
    name_cases (a == dot) (one_and (run digit_unit (b ∷ xs))) (one_and (run digit_unit (b ∷ ys))) 0 0 (and_none (run digit_unit (b ∷ xs)) (run digit_unit (b ∷ ys)) (digit_first b xs ys)) (λ none. none)

decimal_two : (a b : ℕ) (xs ys : List ℕ) → decimal (a ∷ b ∷ xs) ≡ 0 → decimal (a ∷ b ∷ ys) ≡ 0
decimal_two a b xs ys none =
    let old = a ∷ b ∷ xs in
    let new = a ∷ b ∷ ys in
    let digits : run digit_unit old ≡ 0 = omega (arith, none) in
    let rest : fraction old ≡ 0 = ap (λ (n : ℕ). fraction (drop n old)) (sym digits) ∙ (let behind : fraction (drop (run digit_unit old) old) ≡ 0 = omega (arith, none) in behind) in
    let digits_new : run digit_unit new ≡ 0 = digit_first a (b ∷ xs) (b ∷ ys) digits in
    let behind : fraction (drop (run digit_unit new) new) ≡ fraction new = ap (λ (n : ℕ). fraction (drop n new)) digits_new in
    omega (arith, digits_new, behind, fraction_two a b xs ys rest)

signed_two : (a b : ℕ) (xs ys : List ℕ) → signed_digits (a ∷ b ∷ xs) ≡ 0 → signed_digits (a ∷ b ∷ ys) ≡ 0
signed_two a b xs ys =
    name_cases (is_plus_or_minus a) (one_and (run digit_unit (b ∷ xs))) (one_and (run digit_unit (b ∷ ys))) (run digit_unit (a ∷ b ∷ xs)) (run digit_unit (a ∷ b ∷ ys))
    (and_none (run digit_unit (b ∷ xs)) (run digit_unit (b ∷ ys)) (digit_first b xs ys)) (digit_first a (b ∷ xs) (b ∷ ys))

-- any part ends alike before both
ends_two : (p : Part) (a b : ℕ) (xs ys : List ℕ) → is_white a ≡ false → (name_start (a ∷ b ∷ xs) ≡ 0 → name_start (a ∷ b ∷ ys) ≡ 0)
    → (begins_bang_dashes (a ∷ b ∷ xs) ≡ false → begins_bang_dashes (a ∷ b ∷ ys) ≡ false) → EndsAlike p (a ∷ b ∷ xs) (a ∷ b ∷ ys)
ends_two p a b xs ys no_white name bang = record {
  alike = λ _. record {
    hex = λ none. none;
    white = white_none a (b ∷ xs) (b ∷ ys);
    feed = λ none. none;
    unit = unit_two a b xs ys;
    name = name;
    bracket = λ none. none;
    percentage = λ none. none;
    digit = λ none. none;
    decimals = fraction_two a b xs ys;
  };
  looks = record {
    at_backslash = λ _. escape_first a (b ∷ xs) (b ∷ ys);
    at_slash = λ _ none. none;
    at_less_than = λ _. bang;
    at_plus_or_minus = λ _ _ _. decimal_two a b xs ys;
    at_dash = λ _. dash_none (a == dash) (start_unit (a ∷ b ∷ xs)) (start_unit (a ∷ b ∷ ys)) (start_two a b xs ys);
    at_dot = λ _ none. none;
    at_hash = λ _. unit_two a b xs ys;
    at_at_sign = λ _. name;
    at_dashes = λ _ _ none. none;
    at_url = λ _ _ _ _ quote. ap (first_passes is_quote) (after_white_none (a ∷ b ∷ ys) no_white) ∙ ap (first_passes is_quote) (sym (after_white_none (a ∷ b ∷ xs) no_white)) ∙ quote;
    at_exponent = λ _ _ _ _ _. signed_two a b xs ys;
  };
  through = record { at_bang = λ _ none. none; at_white = λ _ quote. quote };
}

-- an open token is an escape of one digit, or longer
pub ends_before_open : (p : Part) (v old new : List ℕ) → is_open v ≡ true → first_passes is_white v ≡ false → EndsAlike p (v ++ old) (v ++ new)
ends_before_open p [] old new is no_white = absurd (false≢true is)
ends_before_open p (a ∷ []) old new is no_white = absurd (which (a == backslash) is)
  where
    which : (b : Bool) → cond b false false ≡ true → ⊥
    which true is = false≢true is
    which false is = false≢true is
ends_before_open p (a ∷ b ∷ []) old new is no_white = which (a == backslash) refl
  where
    alone : (b : Bool) → cond b false false ≡ true → ⊥
    alone true is = false≢true is
    alone false is = false≢true is

    which : (e : Bool) → (a == backslash) ≡ e → EndsAlike p (a ∷ b ∷ old) (a ∷ b ∷ new)
    which true escape =
        let S : ℕ → Type 0 = λ (a : ℕ). EndsAlike p (a ∷ b ∷ old) (a ∷ b ∷ new) in
        subst S (sym (eqb-true a backslash escape)) (ends_two p backslash b old new refl (escape_first b old new) (λ _. refl))
    which false escape = absurd (alone (b == backslash) (rw escape at is))
ends_before_open p (a ∷ b ∷ c ∷ cs) old new is no_white =
    ends_two p a b (c ∷ cs ++ old) (c ∷ cs ++ new) no_white (name_three a b c (cs ++ old) (cs ++ new)) (λ none. none)
