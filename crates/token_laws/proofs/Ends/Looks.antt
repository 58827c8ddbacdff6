-- What single tokens find behind themselves, where the rest begins with a part or with a byte that none looks for.
use Rattle.std.proofs.Common.{ℕ, zero, suc, ◌+◌, ◌≤◌, ◌≡◌, Bool, true, false, cond, ◌==◌, List, [], ◌∷◌, ◌++◌, Option, Ok, Some, length, drop, refl, sym, ap, ◌∙◌, subst, arith}
use Rattle.std.proofs.lemmas.Bool.{eqb-true}
use Rattle.std.proofs.lemmas.List.{drop_at}
use Rattle.css_model.specs.declared.token.TokenKind.{TokenKind}
use Rattle.css_model.specs.declared.token.TokenKind.TheVariants as kind
use Rattle.css_model.specs.Text.Characters.{dash, dot, is_white, is_plus_or_minus, begins, first_passes}
use Rattle.css_model.specs.Text.Runs.{run}
use Rattle.css_model.specs.Text.Units.{white_unit, digit_unit, start_unit, name_start, decimal, signed_decimal, signed_digits, one_and}
use Rattle.css_model.specs.Text.TokenAt.{rule_at, part_at, done, is_quote, after_white}
use Rattle.token_laws.specs.Alike.{LooksAlike, LooksThrough, begins_dashes, begins_bang_dashes, begins_quoted}
use Rattle.css_tokens.proofs.ForCallers.{run_none, part_len, part_rule}
use Rattle.token_laws.proofs.Ends.Runs.{unit_le_run}
use Rattle.token_laws.proofs.Ends.Names.{name_none}
use Rattle.token_laws.proofs.Ends.RuleBounds.{white_is}
use Rattle.token_laws.proofs.Ends.Words.{decimal_none}
use Rattle.token_laws.proofs.Ends.Shapes.{shape_parts}
use Rattle.token_laws.proofs.Ends.Alike.{Bounds, part_bounds, escape_first, digit_first, unit_front}
use Rattle.token_laws.proofs.Ends.OneAnd.{one_and_fits, none_one_and}

-- white space is read as such
pub white_rule : (cs : List ℕ) (c : ℕ) → is_white c ≡ true → rule_at (c ∷ cs) ≡ done kind.White (run white_unit (c ∷ cs))
white_rule cs = white_is (λ c. rule_at (c ∷ cs) ≡ done kind.White (run white_unit (c ∷ cs))) refl refl refl refl refl

-- a part that begins with white space
white_part : (c : ℕ) (cs rest : List ℕ) (k : Option TokenKind) → is_white c ≡ true → part_at (c ∷ cs ++ rest) ≡ Ok (k, suc (length cs))
    → (k ≡ Some kind.White) × (after_white (c ∷ cs ++ rest) ≡ rest)
white_part c cs rest k white is =
    let rule = part_rule (c ∷ cs ++ rest) (k, suc (length cs)) is in
    let n = run white_unit (c ∷ cs ++ rest) in
    let parts = shape_parts (Some kind.White) k n (suc (length cs)) (sym (white_rule (cs ++ rest) c white) ∙ rule.0) in
    (sym parts.0, drop_at (c ∷ cs) rest n (sym parts.1))

quoted_first : (c : ℕ) (old new : List ℕ) → is_white c ≡ false → begins_quoted (c ∷ old) ≡ true → begins_quoted (c ∷ new) ≡ true
quoted_first c old new black is = at new ∙ sym (at old) ∙ is
  where
    at : (rest : List ℕ) → begins_quoted (c ∷ rest) ≡ is_quote c
    at rest =
        let none : white_unit (c ∷ rest) ≡ 0 = rw black refl in
        ap (λ (n : ℕ). first_passes is_quote (drop n (c ∷ rest))) (run_none white_unit (c ∷ rest) none)

quoted_front : (old new : List ℕ) (j : Option TokenKind) (c : ℕ) (cs : List ℕ) → LooksThrough j old new → part_at (c ∷ cs ++ old) ≡ Ok (j, suc (length cs))
    → part_at (c ∷ cs ++ new) ≡ Ok (j, suc (length cs)) → begins_quoted (c ∷ cs ++ old) ≡ true → begins_quoted (c ∷ cs ++ new) ≡ true
quoted_front old new j c cs through before now = which (is_white c) refl
  where
    which : (b : Bool) → is_white c ≡ b → begins_quoted (c ∷ cs ++ old) ≡ true → begins_quoted (c ∷ cs ++ new) ≡ true
    which true white is =
        let old_part = white_part c cs old j white before in
        let new_part = white_part c cs new j white now in
        let quote : first_passes is_quote old ≡ true = sym (ap (λ (cs : List ℕ). first_passes is_quote cs) old_part.1) ∙ is in
        ap (λ (cs : List ℕ). first_passes is_quote cs) new_part.1 ∙ through.at_white old_part.0 quote
    which false black is = quoted_first c (cs ++ old) (cs ++ new) black is

-- `!` is read alone
bang_part : (cs rest : List ℕ) (k : Option TokenKind) → part_at (33 ∷ cs ++ rest) ≡ Ok (k, suc (length cs)) → (k ≡ Some (kind.Delim 33)) × (length cs ≡ 0)
bang_part cs rest k is =
    let rule = part_rule (33 ∷ cs ++ rest) (k, suc (length cs)) is in
    let parts = shape_parts (Some (kind.Delim 33)) k 1 (suc (length cs)) rule.0 in
    (sym parts.0, omega (arith, parts.1))

bang_front : (old new : List ℕ) (j : Option TokenKind) (c : ℕ) (cs : List ℕ) → LooksThrough j old new → part_at (c ∷ cs ++ old) ≡ Ok (j, suc (length cs))
    → begins_bang_dashes (c ∷ cs ++ old) ≡ false → begins_bang_dashes (c ∷ cs ++ new) ≡ false
bang_front old new j c cs through is = which (c == 33) refl
  where
    at_bang : (cs : List ℕ) → part_at (33 ∷ cs ++ old) ≡ Ok (j, suc (length cs)) → begins_bang_dashes (33 ∷ cs ++ old) ≡ false → begins_bang_dashes (33 ∷ cs ++ new) ≡ false
    at_bang [] is none = through.at_bang (bang_part [] old j is).0 none
    at_bang (d ∷ ds) is none = absurd (omega (arith, (bang_part (d ∷ ds) old j is).1))

    which : (b : Bool) → (c == 33) ≡ b → begins_bang_dashes (c ∷ cs ++ old) ≡ false → begins_bang_dashes (c ∷ cs ++ new) ≡ false
    which true bang =
        subst (λ (c : ℕ). part_at (c ∷ cs ++ old) ≡ Ok (j, suc (length cs)) → begins_bang_dashes (c ∷ cs ++ old) ≡ false → begins_bang_dashes (c ∷ cs ++ new) ≡ false)
        (sym (eqb-true c 33 bang)) (at_bang cs) is
    which false bang = λ _. rw bang refl

-- what begins with a sign
sign_bound : (c : ℕ) (cs new : List ℕ) → Bounds (c ∷ cs) new → is_plus_or_minus c ≡ true → one_and (decimal (cs ++ new)) ≤ suc (length cs)
sign_bound c cs new bounds sign =
    let same : signed_decimal (c ∷ cs ++ new) ≡ one_and (decimal (cs ++ new)) = rw sign refl in
    omega (arith, bounds.number, same)

digits_front : (old new : List ℕ) (c : ℕ) (cs : List ℕ) → Bounds (c ∷ cs) new → signed_digits (c ∷ cs ++ old) ≡ 0 → signed_digits (c ∷ cs ++ new) ≡ 0
digits_front old new c cs bounds = which (is_plus_or_minus c) refl
  where
    behind : (cs : List ℕ) → one_and (decimal (cs ++ new)) ≤ suc (length cs) → run digit_unit (cs ++ old) ≡ 0 → run digit_unit (cs ++ new) ≡ 0
    behind [] short none = omega (arith, one_and_fits (decimal new) 0 short)
    behind (d ∷ ds) short none = digit_first d (ds ++ old) (ds ++ new) none

    which : (b : Bool) → is_plus_or_minus c ≡ b → signed_digits (c ∷ cs ++ old) ≡ 0 → signed_digits (c ∷ cs ++ new) ≡ 0
    which true sign none =
        let digits : one_and (run digit_unit (cs ++ old)) ≡ 0 = rw sign at none in
        rw sign (ap one_and (behind cs (sign_bound c cs new bounds sign) (none_one_and (run digit_unit (cs ++ old)) digits)))
    which false sign none =
        let digits : run digit_unit (c ∷ cs ++ old) ≡ 0 = rw sign at none in
        rw sign (digit_first c (cs ++ old) (cs ++ new) digits)

decimal_front : (old new : List ℕ) (c : ℕ) (cs : List ℕ) → Bounds (c ∷ cs) new → decimal (c ∷ cs ++ old) ≡ 0 → decimal (c ∷ cs ++ new) ≡ 0
decimal_front old new c cs bounds = decimal_none c (cs ++ old) (cs ++ new) (λ at. dotted cs (subst (λ (c : ℕ). Bounds (c ∷ cs) new) at bounds))
  where
    dotted : (cs : List ℕ) → Bounds (dot ∷ cs) new → digit_unit (cs ++ old) ≡ 0 → digit_unit (cs ++ new) ≡ 0
    dotted [] bounds none =
        let number : 0 + one_and (run digit_unit new) ≤ 1 = bounds.number in
        let digits : run digit_unit new ≡ 0 = omega (arith, one_and_fits (run digit_unit new) 0 (omega (arith, number))) in
        omega (arith, unit_le_run digit_unit new refl, digits)
    dotted (d ∷ ds) bounds none = none

start_bound : (c : ℕ) (cs new : List ℕ) → Bounds (c ∷ cs) new → start_unit (c ∷ cs ++ new) ≤ suc (length cs)
start_bound c cs new bounds = which (c == dash) refl
  where
    which : (b : Bool) → (c == dash) ≡ b → start_unit (c ∷ cs ++ new) ≤ suc (length cs)
    which true dashed =
        let none : start_unit (c ∷ cs ++ new) ≡ 0 = subst (λ (c : ℕ). start_unit (c ∷ cs ++ new) ≡ 0) (sym (eqb-true c dash dashed)) refl in
        omega (arith, none)
    which false dashed =
        let same : name_start (c ∷ cs ++ new) ≡ start_unit (c ∷ cs ++ new) = rw dashed refl in
        omega (arith, bounds.name, same)

dash_cases : (b : Bool) (n l : ℕ) → n ≤ l → 1 ≤ l → cond b 2 (one_and n) ≤ suc l
dash_cases true n l short some = omega arith
dash_cases false zero l short some = omega arith
dash_cases false (suc n) l short some = omega arith

named_front : (old new : List ℕ) (c : ℕ) (cs : List ℕ) → Bounds (c ∷ cs) new → name_start (dash ∷ c ∷ cs ++ old) ≡ 0 → name_start (dash ∷ c ∷ cs ++ new) ≡ 0
named_front old new c cs bounds none =
    name_none old new (dash ∷ c ∷ cs) none (dash_cases (c == dash) (start_unit (c ∷ cs ++ new)) (suc (length cs)) (start_bound c cs new bounds) (omega arith))

-- two rests that begin with the same part
pub looks_front : (k : Option TokenKind) (u v old new : List ℕ) (j : Option TokenKind) → LooksThrough j old new → part_at (v ++ old) ≡ Ok (j, length v) → part_at (v ++ new) ≡ Ok (j, length v)
    → LooksAlike k u (v ++ old) (v ++ new)
looks_front k u [] old new j through before now = absurd (omega (arith, part_len new (j, 0) now))
looks_front k u (c ∷ cs) old new j through before now =
    let bounds = part_bounds (c ∷ cs) new j now in
    record {
      at_backslash = λ _. escape_first c (cs ++ old) (cs ++ new);
      at_slash = λ _ none. none;
      at_less_than = λ _. bang_front old new j c cs through before;
      at_plus_or_minus = λ _ _ _. decimal_front old new c cs bounds;
      at_dash = λ _. named_front old new c cs bounds;
      at_dot = λ _ none. none;
      at_hash = λ _. unit_front old new c cs bounds;
      at_at_sign = λ _ none. name_none old new (c ∷ cs) none bounds.name;
      at_dashes = λ _ _ none. none;
      at_url = λ _ _ _ _. quoted_front old new j c cs through before now;
      at_exponent = λ _ _ _ _ _. digits_front old new c cs bounds;
    }

dashes_front : (old new : List ℕ) (c : ℕ) (cs : List ℕ) → Bounds (c ∷ cs) new → begins_dashes (c ∷ cs ++ old) ≡ false → begins_dashes (c ∷ cs ++ new) ≡ false
dashes_front old new c [] bounds none = which (c == dash) refl (begins dash new) refl
  where
    which : (b : Bool) → (c == dash) ≡ b → (e : Bool) → begins dash new ≡ e → begins_dashes (c ∷ new) ≡ false
    which true dashed true second =
        let two : name_start (c ∷ new) ≡ 2 = rw (dashed, second) refl in
        absurd (omega (arith, bounds.name, two))
    which true dashed false second = rw (dashed, second) refl
    which false dashed e second = rw dashed refl
dashes_front old new c (d ∷ ds) bounds none = none

pub through_front : (k : Option TokenKind) (v old new : List ℕ) (j : Option TokenKind) → part_at (v ++ new) ≡ Ok (j, length v) → LooksThrough k (v ++ old) (v ++ new)
through_front k [] old new j now = absurd (omega (arith, part_len new (j, 0) now))
through_front k (c ∷ cs) old new j now = record { at_bang = λ _. dashes_front old new c cs (part_bounds (c ∷ cs) new j now); at_white = λ _ quote. quote }
