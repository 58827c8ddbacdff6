-- Numbers before another rest.
use Rattle.std.proofs.Common.{ℕ, zero, suc, ◌≤◌, ◌≡◌, inl, inr, ◌⊎◌, Bool, true, false, cond, ◌==◌, List, [], ◌∷◌, ◌++◌, length, drop, refl, sym, ap, ◌∙◌, arith}
use Rattle.std.proofs.lemmas.Bool.{eqb-true, or_cases}
use Rattle.std.proofs.lemmas.List.{drop-append-le, length-drop}
use Rattle.css_model.specs.Text.Characters.{dot, is_plus_or_minus}
use Rattle.css_model.specs.Text.Runs.{run}
use Rattle.css_model.specs.Text.Units.{digit_unit, fraction, decimal, signed_decimal, signed_digits, exponent, number_len, name_start, one_and}
use Rattle.token_laws.specs.Alike.{Alike, is_exponent}
use Rattle.token_laws.proofs.Ends.Runs.{run_fits, seq_same}
use Rattle.token_laws.proofs.Ends.Units.{digit_fits}
use Rattle.token_laws.proofs.Ends.OneAnd.{one_and_fits}

-- a byte and what follows it, or something else
sign_cases : (b : Bool) (m m' k k' l : ℕ) → (m ≤ l → m' ≡ m) → (k ≤ suc l → k' ≡ k) → cond b (one_and m) k ≤ suc l → cond b (one_and m') k' ≡ cond b (one_and m) k
sign_cases true m m' k k' l p q fits = ap one_and (p (one_and_fits m l fits))
sign_cases false m m' k k' l p q fits = q fits

digits_same : (old new : List ℕ) → Alike old new → (v : List ℕ) → run digit_unit (v ++ old) ≤ length v → run digit_unit (v ++ new) ≡ run digit_unit (v ++ old)
digits_same old new h v fits = run_fits digit_unit old new refl (digit_fits old new h.digit) v fits

fraction_same : (old new : List ℕ) → Alike old new → (v : List ℕ) → fraction (v ++ old) ≤ length v → fraction (v ++ new) ≡ fraction (v ++ old)
fraction_same old new h [] fits =
    let none : fraction old ≡ 0 = omega arith in
    h.decimals none ∙ sym none
fraction_same old new h (c ∷ cs) fits =
    sign_cases (c == dot) (run digit_unit (cs ++ old)) (run digit_unit (cs ++ new)) 0 0 (length cs) (digits_same old new h cs) (λ _. refl) fits

pub decimal_same : (old new : List ℕ) → Alike old new → (v : List ℕ) → decimal (v ++ old) ≤ length v → decimal (v ++ new) ≡ decimal (v ++ old)
decimal_same old new h v fits =
    seq_same (λ cs. run digit_unit cs) fraction old new v (digits_same old new h v) (λ _ rest. fraction_same old new h (drop (run digit_unit (v ++ old)) v) rest) fits

signed_decimal_same : (old new : List ℕ) → Alike old new → (c : ℕ) (cs : List ℕ) → signed_decimal (c ∷ cs ++ old) ≤ suc (length cs)
    → signed_decimal (c ∷ cs ++ new) ≡ signed_decimal (c ∷ cs ++ old)
signed_decimal_same old new h c cs fits =
    sign_cases (is_plus_or_minus c) (decimal (cs ++ old)) (decimal (cs ++ new)) (decimal (c ∷ cs ++ old)) (decimal (c ∷ cs ++ new)) (length cs)
    (decimal_same old new h cs) (decimal_same old new h (c ∷ cs)) fits

signed_digits_same : (old new : List ℕ) → Alike old new → (c : ℕ) (cs : List ℕ) → signed_digits (c ∷ cs ++ old) ≤ suc (length cs)
    → signed_digits (c ∷ cs ++ new) ≡ signed_digits (c ∷ cs ++ old)
signed_digits_same old new h c cs fits =
    sign_cases (is_plus_or_minus c) (run digit_unit (cs ++ old)) (run digit_unit (cs ++ new)) (run digit_unit (c ∷ cs ++ old)) (run digit_unit (c ∷ cs ++ new)) (length cs)
    (digits_same old new h cs) (digits_same old new h (c ∷ cs)) fits

-- `e` alone
e_cases : (b : Bool) (m m' : ℕ) → (b ≡ true → m ≡ 0 → m' ≡ 0) → cond b (one_and m) 0 ≤ 1 → cond b (one_and m') 0 ≡ cond b (one_and m) 0
e_cases false m m' h fits = refl
e_cases true zero m' h fits = rw (h refl refl) refl
e_cases true (suc m) m' h fits = absurd (omega (arith, fits))

exponent_same : (old new : List ℕ) → Alike old new → (v : List ℕ) → (v ≡ [] → exponent old ≡ 0 → exponent new ≡ 0)
    → ((e : ℕ) → v ≡ e ∷ [] → is_exponent e ≡ true → signed_digits old ≡ 0 → signed_digits new ≡ 0)
    → exponent (v ++ old) ≤ length v → exponent (v ++ new) ≡ exponent (v ++ old)
exponent_same old new h [] none digits fits =
    let is : exponent old ≡ 0 = omega arith in
    none refl is ∙ sym is
exponent_same old new h (c ∷ []) none digits fits = e_cases (is_exponent c) (signed_digits old) (signed_digits new) (digits c refl) fits
exponent_same old new h (c ∷ d ∷ ds) none digits fits =
    sign_cases (is_exponent c) (signed_digits (d ∷ ds ++ old)) (signed_digits (d ∷ ds ++ new)) 0 0 (suc (length ds)) (signed_digits_same old new h d ds) (λ _. refl) fits

-- what is left of a text that begins with a number, behind its digits
pub record NumberEnds (v old new : List ℕ) : Type 0 where
  pub exponent : drop (signed_decimal (v ++ old)) v ≡ [] → exponent old ≡ 0 → exponent new ≡ 0
  pub digits : (e : ℕ) → drop (signed_decimal (v ++ old)) v ≡ e ∷ [] → is_exponent e ≡ true → signed_digits old ≡ 0 → signed_digits new ≡ 0

pub number_same : (old new : List ℕ) → Alike old new → (c : ℕ) (cs : List ℕ) → NumberEnds (c ∷ cs) old new → number_len (c ∷ cs ++ old) ≤ suc (length cs)
    → (signed_decimal (c ∷ cs ++ new) ≡ signed_decimal (c ∷ cs ++ old)) × (number_len (c ∷ cs ++ new) ≡ number_len (c ∷ cs ++ old))
number_same old new h c cs ends fits =
    let v = c ∷ cs in (
      signed_decimal_same old new h c cs (omega (arith, fits)),
      seq_same signed_decimal exponent old new v (signed_decimal_same old new h c cs)
          (λ _ rest. exponent_same old new h (drop (signed_decimal (v ++ old)) v) ends.exponent ends.digits rest) fits,
    )

-- an exponent begins as a name
exponent_name : (text : List ℕ) → name_start text ≡ 0 → exponent text ≡ 0
exponent_name [] none = refl
exponent_name (c ∷ cs) none = which (is_exponent c) refl
  where
    none_is : (c ≡ 101) ⊎ (c ≡ 69) → name_start (c ∷ cs) ≡ 1
    none_is (inl is) = rw is refl
    none_is (inr is) = rw is refl

    letter : (c == 101 ≡ true) ⊎ (c == 69 ≡ true) → (c ≡ 101) ⊎ (c ≡ 69)
    letter (inl is) = inl (eqb-true c 101 is)
    letter (inr is) = inr (eqb-true c 69 is)

    which : (b : Bool) → is_exponent c ≡ b → exponent (c ∷ cs) ≡ 0
    which true is = absurd (omega (arith, none, none_is (letter (or_cases (c == 101) (c == 69) is))))
    which false is = rw is refl

not_one : (b : Bool) (m : ℕ) → ◌≡◌ {A = ℕ} (cond b (one_and m) 0) 1 → ⊥
not_one true zero is = absurd (omega (arith, is))
not_one true (suc m) is = absurd (omega (arith, is))
not_one false m is = absurd (omega (arith, is))

-- a number that ends before a rest in which no name begins
pub number_again : (old new : List ℕ) → Alike old new → (c : ℕ) (cs : List ℕ) → name_start old ≡ 0 → number_len (c ∷ cs ++ old) ≡ suc (length cs)
    → (signed_decimal (c ∷ cs ++ new) ≡ signed_decimal (c ∷ cs ++ old)) × (number_len (c ∷ cs ++ new) ≡ suc (length cs))
number_again old new h c cs none is =
    let v = c ∷ cs in
    let m = signed_decimal (v ++ old) in
    let fits : m ≤ length v = omega (arith, is) in
    let before = ap (λ (cs : List ℕ). exponent cs) (drop-append-le m v old fits) in
    let size = length-drop m v in
    let one : (e : ℕ) → drop m v ≡ e ∷ [] → exponent (e ∷ old) ≡ 1 = λ e rest.
    let here = ap (λ (cs : List ℕ). exponent (cs ++ old)) rest in
    let len = ap (λ (cs : List ℕ). length cs) rest in
    omega (arith, is, before, size, here, len) in
    let ends : NumberEnds v old new = record {
      exponent = λ _ _. exponent_name new (h.name none);
      digits = λ e rest _ _. absurd (not_one (is_exponent e) (signed_digits old) (one e rest));
    } in
    let same = number_same old new h c cs ends (omega (arith, is)) in
    (same.0, same.1 ∙ is)
