-- Rests that are alike.
use Rattle.std.proofs.Common.{ℕ, zero, suc, ◌+◌, ◌<◌, ◌≤◌, ◌≡◌, Bool, true, false, cond, ◌&&◌, ◌||◌, ◌==◌, List, [], ◌∷◌, ◌++◌, Option, Ok, length, refl, sym, ap, subst, arith}
use Rattle.std.specs.Char.{is_ascii_digit, is_ascii_hexdigit}
use Rattle.std.proofs.lemmas.Bool.{eqb-true, or_parts}
use Rattle.css_model.specs.declared.token.TokenKind.{TokenKind}
use Rattle.css_model.specs.Text.Characters.{line_feed, carriage_return, open_round, percent, backslash, dash, dot, is_newline, is_white, is_start, is_name, begins}
use Rattle.css_model.specs.Text.Runs.{run}
use Rattle.css_model.specs.Text.Units.{white_unit, hex_rest, escape_after, name_unit, name_start, digit_unit, fraction, signed_decimal, one_and}
use Rattle.css_model.specs.Text.TokenAt.{part_at}
use Rattle.token_laws.specs.Alike.{Alike}
use Rattle.css_tokens.proofs.ForCallers.{run_none, part_len, part_rule}
use Rattle.token_laws.proofs.Ends.Runs.{unit_le_run}
use Rattle.token_laws.proofs.Ends.Units.{escape_two}
use Rattle.token_laws.proofs.Ends.Names.{name_none}
use Rattle.token_laws.proofs.Ends.RuleBounds.{rule_name_start, rule_number}
use Rattle.token_laws.proofs.Ends.OneAnd.{one_and_fits, none_one_and}

white_cases : (w f f' : Bool) → ◌≡◌ {A = ℕ} (cond w (cond f 2 1) 0) 0 → ◌≡◌ {A = ℕ} (cond w (cond f' 2 1) 0) 0
white_cases false f f' none = refl
white_cases true true f' none = absurd (omega (arith, none))
white_cases true false f' none = absurd (omega (arith, none))

-- whether white space begins, the first byte tells
pub white_none : (c : ℕ) (old new : List ℕ) → white_unit (c ∷ old) ≡ 0 → white_unit (c ∷ new) ≡ 0
white_none c old new none = white_cases (is_white c) (c == carriage_return && begins line_feed old) (c == carriage_return && begins line_feed new) none

-- two rests that begin with the same byte, where it alone tells what begins
pub alike_first : (c : ℕ) (old new : List ℕ) → (c == backslash) ≡ false → (c == dash) ≡ false → (c == dot) ≡ false → Alike (c ∷ old) (c ∷ new)
alike_first c old new no_escape no_dash no_dot = record {
  hex = λ none. none;
  white = white_none c old new;
  feed = λ none. none;
  unit = λ none. rw no_escape (rw no_escape at none);
  name = λ none. rw (no_dash, no_escape) (rw (no_dash, no_escape) at none);
  bracket = λ none. none;
  percentage = λ none. none;
  digit = λ none. none;
  decimals = λ none. rw no_dot refl;
}

pub alike_nil : (old : List ℕ) → Alike old []
alike_nil old = record {
  hex = λ _. refl;
  white = λ _. refl;
  feed = λ _. refl;
  unit = λ _. refl;
  name = λ _. refl;
  bracket = λ _. refl;
  percentage = λ _. refl;
  digit = λ _. refl;
  decimals = λ _. refl;
}

-- where white space stood, a space may
pub alike_space : (old new : List ℕ) → 0 < white_unit old → Alike old (32 ∷ new)
alike_space old new white = record {
  hex = λ _. refl;
  white = λ none. absurd (omega (arith, white, none));
  feed = λ _. refl;
  unit = λ _. refl;
  name = λ _. refl;
  bracket = λ _. refl;
  percentage = λ _. refl;
  digit = λ _. refl;
  decimals = λ _. refl;
}

-- a byte that a token could go on with
abbrev pub goes_on : ℕ → Bool
goes_on c = is_ascii_hexdigit c || is_white c || c == backslash || c == open_round || c == percent || c == dot || is_name c

-- whatever stood there, a byte may that no token goes on with: `goes_on` computes, as at `;` or `/`
pub alike_byte : (c : ℕ) (old new : List ℕ) → goes_on c ≡ false → Alike old (c ∷ new)
alike_byte c old new nothing =
    let six = or_parts (is_ascii_hexdigit c || is_white c || c == backslash || c == open_round || c == percent || c == dot) (is_name c) nothing in
    let five = or_parts (is_ascii_hexdigit c || is_white c || c == backslash || c == open_round || c == percent) (c == dot) six.0 in
    let four = or_parts (is_ascii_hexdigit c || is_white c || c == backslash || c == open_round) (c == percent) five.0 in
    let three = or_parts (is_ascii_hexdigit c || is_white c || c == backslash) (c == open_round) four.0 in
    let two = or_parts (is_ascii_hexdigit c || is_white c) (c == backslash) three.0 in
    let one = or_parts (is_ascii_hexdigit c) (is_white c) two.0 in
    let name = or_parts (is_start c || is_ascii_digit c) (c == dash) six.1 in
    let start = or_parts (is_start c) (is_ascii_digit c) name.0 in
    let newline = or_parts (c == 32 || c == 9) (is_newline c) one.1 in
    let feed = or_parts (c == 10) (c == 13) (or_parts (c == 10 || c == 13) (c == 12) newline.1).0 in
    record {
      hex = λ _. one.0;
      white = λ _. rw one.1 refl;
      feed = λ _. feed.0;
      unit = λ _. rw (six.1, two.1) refl;
      name = λ _. rw (name.1, start.0, two.1) refl;
      bracket = λ _. three.1;
      percentage = λ _. four.1;
      digit = λ _. rw start.1 refl;
      decimals = λ _. rw five.1 refl;
    }

newline_cases : (b x x' : Bool) (m m' : ℕ) → ◌≡◌ {A = ℕ} (cond b 0 (cond x (2 + m) 2)) 0 → ◌≡◌ {A = ℕ} (cond b 0 (cond x (2 + m') 2)) 0
newline_cases true x x' m m' none = refl
newline_cases false true x' m m' none = absurd (omega (arith, none))
newline_cases false false x' m m' none = absurd (omega (arith, none))

-- whether an escape begins, the byte behind its backslash tells
pub escape_first : (c : ℕ) (old new : List ℕ) → escape_after (c ∷ old) ≡ 0 → escape_after (c ∷ new) ≡ 0
escape_first c old new none = newline_cases (is_newline c) (is_ascii_hexdigit c) (is_ascii_hexdigit c) (hex_rest 5 old) (hex_rest 5 new) none

pub escape_short : (text : List ℕ) → escape_after text ≤ 1 → escape_after text ≡ 0
escape_short text short = which (escape_after text) refl
  where
    which : (m : ℕ) → escape_after text ≡ m → escape_after text ≡ 0
    which zero is = is
    which (suc m) is = absurd (omega (arith, escape_two text (omega (arith, is)), short))

pub digit_first : (c : ℕ) (old new : List ℕ) → run digit_unit (c ∷ old) ≡ 0 → run digit_unit (c ∷ new) ≡ 0
digit_first c old new none =
    let unit : digit_unit (c ∷ old) ≡ 0 = omega (arith, unit_le_run digit_unit (c ∷ old) refl, none) in
    run_none digit_unit (c ∷ new) unit

-- what a part of these bytes tells of a rest
pub record Bounds (v rest : List ℕ) : Type 0 where
  pub name : name_start (v ++ rest) ≤ length v
  pub number : signed_decimal (v ++ rest) ≤ length v

pub part_bounds : (v rest : List ℕ) (k : Option TokenKind) → part_at (v ++ rest) ≡ Ok (k, length v) → Bounds v rest
part_bounds v rest k is =
    let rule = part_rule (v ++ rest) (k, length v) is in
    record { name = rule_name_start (v ++ rest) (k, length v) rule.0; number = rule_number (v ++ rest) (k, length v) rule.0 }

-- an escape behind a backslash
escape_front : (old new cs : List ℕ) → escape_after (cs ++ new) ≤ suc (length cs) → escape_after (cs ++ old) ≡ 0 → escape_after (cs ++ new) ≡ 0
escape_front old new [] short none = escape_short new short
escape_front old new (d ∷ ds) short none = escape_first d (ds ++ old) (ds ++ new) none

pub unit_front : (old new : List ℕ) (c : ℕ) (cs : List ℕ) → Bounds (c ∷ cs) new → name_unit (c ∷ cs ++ old) ≡ 0 → name_unit (c ∷ cs ++ new) ≡ 0
unit_front old new c cs bounds = which (c == backslash) refl
  where
    at_escape : Bounds (backslash ∷ cs) new → name_unit (backslash ∷ cs ++ old) ≡ 0 → name_unit (backslash ∷ cs ++ new) ≡ 0
    at_escape bounds none = escape_front old new cs bounds.name none

    which : (b : Bool) → (c == backslash) ≡ b → name_unit (c ∷ cs ++ old) ≡ 0 → name_unit (c ∷ cs ++ new) ≡ 0
    which true escape = subst (λ (c : ℕ). Bounds (c ∷ cs) new → name_unit (c ∷ cs ++ old) ≡ 0 → name_unit (c ∷ cs ++ new) ≡ 0) (sym (eqb-true c backslash escape)) at_escape bounds
    which false escape = λ none. rw escape (rw escape at none)

digits_front : (old new cs : List ℕ) → one_and (run digit_unit (cs ++ new)) ≤ suc (length cs) → one_and (run digit_unit (cs ++ old)) ≡ 0 → one_and (run digit_unit (cs ++ new)) ≡ 0
digits_front old new [] short none =
    let digits : run digit_unit new ≡ 0 = omega (arith, one_and_fits (run digit_unit new) 0 short) in
    ap one_and digits
digits_front old new (d ∷ ds) short none = ap one_and (digit_first d (ds ++ old) (ds ++ new) (none_one_and (run digit_unit (d ∷ ds ++ old)) none))

pub fraction_front : (old new : List ℕ) (c : ℕ) (cs : List ℕ) → Bounds (c ∷ cs) new → fraction (c ∷ cs ++ old) ≡ 0 → fraction (c ∷ cs ++ new) ≡ 0
fraction_front old new c cs bounds = which (c == dot) refl
  where
    at_dot : Bounds (dot ∷ cs) new → fraction (dot ∷ cs ++ old) ≡ 0 → fraction (dot ∷ cs ++ new) ≡ 0
    at_dot bounds none =
        let number : 0 + one_and (run digit_unit (cs ++ new)) ≤ suc (length cs) = bounds.number in
        digits_front old new cs (omega (arith, number)) none

    which : (b : Bool) → (c == dot) ≡ b → fraction (c ∷ cs ++ old) ≡ 0 → fraction (c ∷ cs ++ new) ≡ 0
    which true dotted = subst (λ (c : ℕ). Bounds (c ∷ cs) new → fraction (c ∷ cs ++ old) ≡ 0 → fraction (c ∷ cs ++ new) ≡ 0) (sym (eqb-true c dot dotted)) at_dot bounds
    which false dotted = λ none. rw dotted refl

-- two rests that begin with the same part
pub alike_front : (v old new : List ℕ) (k : Option TokenKind) → part_at (v ++ new) ≡ Ok (k, length v) → Alike (v ++ old) (v ++ new)
alike_front [] old new k is = absurd (omega (arith, part_len new (k, 0) is))
alike_front (c ∷ cs) old new k is =
    let bounds = part_bounds (c ∷ cs) new k is in
    record {
      hex = λ none. none;
      white = white_none c (cs ++ old) (cs ++ new);
      feed = λ none. none;
      unit = unit_front old new c cs bounds;
      name = λ none. name_none old new (c ∷ cs) none bounds.name;
      bracket = λ none. none;
      percentage = λ none. none;
      digit = λ none. none;
      decimals = fraction_front old new c cs bounds;
    }
