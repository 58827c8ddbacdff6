-- The rules that the first byte does not decide, before another rest.
use Rattle.std.proofs.Common.{ℕ, zero, suc, ◌+◌, ◌<◌, ◌≤◌, ◌≡◌, Bool, true, false, cond, ltb, ◌&&◌, ◌==◌, List, [], ◌∷◌, ◌++◌, Result, Option, Ok, Some, length, drop, refl, sym, ap, ◌∙◌, subst, arith, take}
use Rattle.std.specs.Char.{is_ascii_digit}
use Rattle.std.proofs.lemmas.Bool.{eqb-true, ltb-true, ltb-false, lt-ltb, le-ltb}
use Rattle.css_model.specs.declared.token.TokenKind.{TokenKind}
use Rattle.css_model.specs.declared.token.TokenKind.TheVariants as kind
use Rattle.css_model.specs.declared.token.TokenFlaw.{TokenFlaw}
use Rattle.css_model.specs.Text.Characters.{plus, dash, dot, backslash, less_than, greater_than, at_sign, is_sign, is_plus_or_minus, open_round, begins}
use Rattle.css_model.specs.Text.Runs.{run}
use Rattle.css_model.specs.Text.Units.{name_len, digit_unit, start_unit, name_start, decimal, signed_decimal, one_and}
use Rattle.css_model.specs.Text.TokenAt.{Shape, word_at, less_shape, at_shape, named_shape, opened_shape, done}
use Rattle.token_laws.specs.Alike.{Alike, LooksAlike, ends_itself}
use Rattle.css_tokens.proofs.ForCallers.{run_none}
use Rattle.token_laws.proofs.Ends.Runs.{unit_le_run}
use Rattle.token_laws.proofs.Ends.Names.{name_begins, name_start_le}
use Rattle.token_laws.proofs.Ends.Named.{named_again, single_again}
use Rattle.token_laws.proofs.Ends.RuleBounds.{named_len, opened_len, sign_is}
use Rattle.token_laws.proofs.Ends.Shapes.{tested_again, shape_parts}
use Rattle.token_laws.proofs.Ends.OneAnd.{none_one_and}

abbrev pub single_kind : ℕ → TokenKind
single_kind c = cond (is_sign c) (kind.Sign c) (kind.Delim c)

-- an ident sequence, a sign, or any other code point
abbrev pub name_or_single : ℕ → List ℕ → Result Shape TokenFlaw
name_or_single c cs = cond (ltb 0 (name_start (c ∷ cs))) (named_shape (c ∷ cs)) (done (single_kind c) 1)

abbrev pub closes_comment : ℕ → List ℕ → Bool
closes_comment c cs = c == dash && (begins dash cs && begins greater_than (drop 1 cs))

name_or_single_len : (c : ℕ) (cs : List ℕ) (k : Option TokenKind) (n : ℕ) → name_or_single c cs ≡ Ok (k, n) → name_start (c ∷ cs) ≤ n
name_or_single_len c cs k n = which (ltb 0 (name_start (c ∷ cs))) refl
  where
    which : (b : Bool) → ltb 0 (name_start (c ∷ cs)) ≡ b → cond b (named_shape (c ∷ cs)) (done (single_kind c) 1) ≡ Ok (k, n) → name_start (c ∷ cs) ≤ n
    which true starts is = omega (arith, name_start_le (c ∷ cs), named_len (c ∷ cs) (k, n) is)
    which false starts is = omega (arith, ltb-false 0 (name_start (c ∷ cs)) starts)

-- a byte that began no name before one rest
single_name : (c : ℕ) (old new : List ℕ) (k : Option TokenKind) → LooksAlike k (c ∷ []) old new → Some (single_kind c) ≡ k → name_start (c ∷ old) ≡ 0 → name_start (c ∷ new) ≡ 0
single_name c old new k looks kinds = which (c == dash) refl (c == backslash) refl
  where
    which : (b : Bool) → (c == dash) ≡ b → (e : Bool) → (c == backslash) ≡ e → name_start (c ∷ old) ≡ 0 → name_start (c ∷ new) ≡ 0
    which true dashed e is =
        let at = eqb-true c dash dashed in
        let delim : k ≡ Some (kind.Delim dash) = sym kinds ∙ ap (λ (c : ℕ). Some (single_kind c)) at in
        subst (λ (c : ℕ). name_start (c ∷ old) ≡ 0 → name_start (c ∷ new) ≡ 0) (sym at) (looks.at_dash delim)
    which false dashed true is =
        let at = eqb-true c backslash is in
        let delim : k ≡ Some (kind.Delim backslash) = sym kinds ∙ ap (λ (c : ℕ). Some (single_kind c)) at in
        subst (λ (c : ℕ). name_start (c ∷ old) ≡ 0 → name_start (c ∷ new) ≡ 0) (sym at) (looks.at_backslash delim)
    which false dashed false is = λ none. rw (dashed, is) (rw (dashed, is) at none)

name_or_single_again : (old new : List ℕ) (k : Option TokenKind) → (ends_itself k ≡ false → Alike old new) → (c : ℕ) (cs : List ℕ) → LooksAlike k (c ∷ cs) old new
    → name_or_single c (cs ++ old) ≡ Ok (k, suc (length cs)) → name_or_single c (cs ++ new) ≡ Ok (k, suc (length cs))
name_or_single_again old new k alike c cs looks =
    let v = c ∷ cs in
    let start = name_start (v ++ old) in
    let start' = name_start (v ++ new) in
    tested_again (ltb 0 start) (ltb 0 start') (named_shape (v ++ old)) (done (single_kind c) 1) (named_shape (v ++ new)) (done (single_kind c) 1) (Ok (k, suc (length cs)))
    (λ starts is.
    let fits : start ≤ length v = omega (arith, name_start_le (v ++ old), named_len (v ++ old) (k, length v) is) in
    (lt-ltb 0 start' (name_begins old new v (ltb-true 0 start starts) fits), named_again old new k alike v looks.at_url is)
    )
    (λ none is. (le-ltb 0 start' (omega (arith, single cs looks (single_again k (Some (single_kind c)) cs is) (omega (arith, ltb-false 0 start none)))), is))
  where
    single : (cs : List ℕ) → LooksAlike k (c ∷ cs) old new → (Some (single_kind c) ≡ k) × (cs ≡ []) → name_start (c ∷ cs ++ old) ≡ 0 → name_start (c ∷ cs ++ new) ≡ 0
    single [] looks (kinds, empty) = single_name c old new k looks kinds
    single (d ∷ ds) looks (kinds, empty) = absurd (omega (arith, ap (λ (cs : List ℕ). length cs) empty))

-- `--` alone is an ident
dashes_kind : (old : List ℕ) (k : Option TokenKind) → named_shape (dash ∷ dash ∷ old) ≡ Ok (k, 2) → k ≡ Some kind.Ident
dashes_kind old k = which (begins open_round (drop (name_len (dash ∷ dash ∷ old)) (dash ∷ dash ∷ old)))
  where
    which : (b : Bool) → cond b (opened_shape (take (name_len (dash ∷ dash ∷ old)) (dash ∷ dash ∷ old)) (name_len (dash ∷ dash ∷ old) + 1) (drop (name_len (dash ∷ dash ∷ old) + 1) (dash ∷ dash ∷ old)))
        (done kind.Ident (name_len (dash ∷ dash ∷ old))) ≡ Ok (k, 2) → k ≡ Some kind.Ident
    which true is =
        let text = dash ∷ dash ∷ old in
        let n = name_len text in
        let two : 2 ≤ n = name_start_le text in
        let longer = opened_len (take n text) (n + 1) (drop (n + 1) text) (k, 2) is in
        absurd (omega (arith, two, longer))
    which false is = sym (shape_parts (Some kind.Ident) k (name_len (dash ∷ dash ∷ old)) 2 is).0

-- `-->` is told by its three bytes
close_none : (old new : List ℕ) (k : Option TokenKind) (c : ℕ) (cs : List ℕ) → LooksAlike k (c ∷ cs) old new → name_or_single c (cs ++ old) ≡ Ok (k, suc (length cs))
    → name_start (c ∷ cs ++ new) ≤ suc (length cs) → closes_comment c (cs ++ old) ≡ false → closes_comment c (cs ++ new) ≡ false
close_none old new k c [] looks is short none = which (c == dash) refl (begins dash new) refl
  where
    which : (b : Bool) → (c == dash) ≡ b → (e : Bool) → begins dash new ≡ e → closes_comment c new ≡ false
    which true dashed true second =
        let two : name_start (c ∷ new) ≡ 2 = rw (dashed, second) refl in
        absurd (omega (arith, short, two))
    which true dashed false second = rw (dashed, second) refl
    which false dashed e second = rw dashed refl
close_none old new k c (d ∷ []) looks is short none = which (c == dash) refl (d == dash) refl none
  where
    which : (b : Bool) → (c == dash) ≡ b → (e : Bool) → (d == dash) ≡ e → closes_comment c (d ∷ old) ≡ false → closes_comment c (d ∷ new) ≡ false
    which true dashed true second none =
        let bytes : c ∷ d ∷ [] ≡ dash ∷ dash ∷ [] = ap (λ (c : ℕ). c ∷ d ∷ []) (eqb-true c dash dashed) ∙ ap (λ (d : ℕ). dash ∷ d ∷ []) (eqb-true d dash second) in
        let before : begins greater_than old ≡ false = rw (dashed, second) at none in
        let first = ap (λ (c : ℕ). name_or_single c (d ∷ old)) (eqb-true c dash dashed) in
        let both = ap (λ (d : ℕ). name_or_single dash (d ∷ old)) (eqb-true d dash second) in
        rw (dashed, second) (looks.at_dashes (dashes_kind old k (sym both ∙ sym first ∙ is)) bytes before)
    which true dashed false second none = rw (dashed, second) refl
    which false dashed e second none = rw dashed refl
close_none old new k c (d ∷ e ∷ es) looks is short none = none

close_some : (old new : List ℕ) (c : ℕ) (cs : List ℕ) → length cs ≡ 2 → closes_comment c (cs ++ old) ≡ true → closes_comment c (cs ++ new) ≡ true
close_some old new c [] size = absurd (omega (arith, size))
close_some old new c (d ∷ []) size = absurd (omega (arith, size))
close_some old new c (d ∷ e ∷ es) size = λ is. is

pub word_again : (old new : List ℕ) (k : Option TokenKind) → (ends_itself k ≡ false → Alike old new) → (c : ℕ) (cs : List ℕ) → LooksAlike k (c ∷ cs) old new
    → word_at (c ∷ cs ++ old) ≡ Ok (k, suc (length cs)) → word_at (c ∷ cs ++ new) ≡ Ok (k, suc (length cs))
word_again old new k alike c cs looks =
    tested_again (closes_comment c (cs ++ old)) (closes_comment c (cs ++ new)) (done kind.CommentClose 3) (name_or_single c (cs ++ old))
    (done kind.CommentClose 3) (name_or_single c (cs ++ new)) (Ok (k, suc (length cs)))
    (λ closes is.
    let parts = shape_parts (Some kind.CommentClose) k 3 (suc (length cs)) is in
    (close_some old new c cs (omega (arith, parts.1)) closes, is)
    )
    (λ none is.
    let now = name_or_single_again old new k alike c cs looks is in
    (close_none old new k c cs looks is (name_or_single_len c (cs ++ new) k (suc (length cs)) now) none, now)
    )

-- `<` and `@` with what follows, or a word
abbrev pub other_at : ℕ → List ℕ → Result Shape TokenFlaw
other_at c cs = cond (c == less_than) (less_shape cs) (cond (c == at_sign) (at_shape cs) (word_at (c ∷ cs)))

-- a byte before a rest begins no number
pub decimal_none : (c : ℕ) (old new : List ℕ) → (c ≡ dot → digit_unit old ≡ 0 → digit_unit new ≡ 0) → decimal (c ∷ old) ≡ 0 → decimal (c ∷ new) ≡ 0
decimal_none c old new dotted = which (is_ascii_digit c) refl (c == dot) refl
  where
    at_dot : (digit_unit old ≡ 0 → digit_unit new ≡ 0) → decimal (dot ∷ old) ≡ 0 → decimal (dot ∷ new) ≡ 0
    at_dot stays none =
        let before : digit_unit old ≡ 0 = omega (arith, unit_le_run digit_unit old refl, none_one_and (run digit_unit old) (omega (arith, none))) in
        let now : run digit_unit new ≡ 0 = run_none digit_unit new (stays before) in
        ap (λ (n : ℕ). 0 + one_and n) now

    which : (b : Bool) → is_ascii_digit c ≡ b → (e : Bool) → (c == dot) ≡ e → decimal (c ∷ old) ≡ 0 → decimal (c ∷ new) ≡ 0
    which true digit e is none =
        let unit : digit_unit (c ∷ old) ≡ 1 = rw digit refl in
        absurd (omega (arith, none, unit, unit_le_run digit_unit (c ∷ old) refl))
    which false digit true is none =
        let at = eqb-true c dot is in
        subst (λ (c : ℕ). decimal (c ∷ old) ≡ 0 → decimal (c ∷ new) ≡ 0) (sym at) (at_dot (dotted at)) none
    which false digit false is none = rw (digit, is) refl

-- `+`, `-` or `.` alone
delim_kind : (b : ℕ) (old : List ℕ) (k : Option TokenKind) → (other_at b old ≡ Ok (k, 1) → Some (kind.Delim b) ≡ k) → (c : ℕ) → c ≡ b → other_at c old ≡ Ok (k, 1) → k ≡ Some (kind.Delim b)
delim_kind b old k at c same is = sym (at (sym (ap (λ (c : ℕ). other_at c old) same) ∙ is))

dash_two : (b : Bool) (n : ℕ) → 0 < cond b 2 (one_and n) → 2 ≤ cond b 2 (one_and n)
dash_two true n some = omega arith
dash_two false zero some = absurd (omega (arith, some))
dash_two false (suc n) some = omega arith

dash_kind : (old : List ℕ) (k : Option TokenKind) → other_at dash old ≡ Ok (k, 1) → Some (kind.Delim dash) ≡ k
dash_kind old k = which (closes_comment dash old) refl (ltb 0 (name_start (dash ∷ old))) refl
  where
    which : (b : Bool) → closes_comment dash old ≡ b → (e : Bool) → ltb 0 (name_start (dash ∷ old)) ≡ e
        → cond b (done kind.CommentClose 3) (cond e (named_shape (dash ∷ old)) (done (kind.Delim dash) 1)) ≡ Ok (k, 1) → Some (kind.Delim dash) ≡ k
    which true closes e starts is = let parts = shape_parts (Some kind.CommentClose) k 3 1 is in absurd (omega (arith, parts.1))
    which false closes true starts is =
        let some : 0 < name_start (dash ∷ old) = ltb-true 0 (name_start (dash ∷ old)) starts in
        let two : 2 ≤ name_start (dash ∷ old) = dash_two (begins dash old) (start_unit old) some in
        absurd (omega (arith, two, name_start_le (dash ∷ old), named_len (dash ∷ old) (k, 1) is))
    which false closes false starts is = (shape_parts (Some (kind.Delim dash)) k 1 1 is).0

-- two bytes that are no token, since the first is one
two_wrong : (old : List ℕ) (k : Option TokenKind) (c : ℕ) → is_plus_or_minus c ≡ true → other_at c (dot ∷ old) ≡ Ok (k, 2) → ⊥
two_wrong old k =
    sign_is (λ c. other_at c (dot ∷ old) ≡ Ok (k, 2) → ⊥)
    (λ is. let parts = shape_parts (Some (kind.Delim plus)) k 1 2 is in absurd (omega (arith, parts.1)))
    (λ is. let parts = shape_parts (Some (kind.Delim dash)) k 1 2 is in absurd (omega (arith, parts.1)))

sign_kind : (old : List ℕ) (k : Option TokenKind) (c : ℕ) → is_plus_or_minus c ≡ true → other_at c old ≡ Ok (k, 1) → k ≡ Some (kind.Delim c)
sign_kind old k =
    sign_is (λ c. other_at c old ≡ Ok (k, 1) → k ≡ Some (kind.Delim c))
    (λ is. sym (shape_parts (Some (kind.Delim plus)) k 1 1 is).0) (λ is. sym (dash_kind old k is))

-- behind a sign
signed_none : (old new : List ℕ) (k : Option TokenKind) (c : ℕ) (cs : List ℕ) → LooksAlike k (c ∷ cs) old new → is_plus_or_minus c ≡ true → other_at c (cs ++ old) ≡ Ok (k, suc (length cs))
    → decimal (cs ++ old) ≡ 0 → decimal (cs ++ new) ≡ 0
signed_none old new k c [] looks sign is none = looks.at_plus_or_minus c (sign_kind old k c sign is) sign none
signed_none old new k c (d ∷ []) looks sign is none = decimal_none d old new (λ at. absurd (two_wrong old k c sign (ap (λ (d : ℕ). other_at c (d ∷ old)) (sym at) ∙ is))) none
signed_none old new k c (d ∷ e ∷ es) looks sign is none = decimal_none d (e ∷ es ++ old) (e ∷ es ++ new) (λ _ digit. digit) none

unsigned_none : (old new : List ℕ) (k : Option TokenKind) (c : ℕ) (cs : List ℕ) → LooksAlike k (c ∷ cs) old new → other_at c (cs ++ old) ≡ Ok (k, suc (length cs))
    → decimal (c ∷ cs ++ old) ≡ 0 → decimal (c ∷ cs ++ new) ≡ 0
unsigned_none old new k c [] looks is =
    decimal_none c old new (λ at. looks.at_dot (delim_kind dot old k (λ same. (shape_parts (Some (kind.Delim dot)) k 1 1 same).0) c at is))
unsigned_none old new k c (d ∷ ds) looks is = decimal_none c (d ∷ ds ++ old) (d ∷ ds ++ new) (λ _ digit. digit)

pub number_none : (old new : List ℕ) (k : Option TokenKind) (c : ℕ) (cs : List ℕ) → LooksAlike k (c ∷ cs) old new → other_at c (cs ++ old) ≡ Ok (k, suc (length cs))
    → signed_decimal (c ∷ cs ++ old) ≡ 0 → signed_decimal (c ∷ cs ++ new) ≡ 0
number_none old new k c cs looks is = which (is_plus_or_minus c) refl
  where
    which : (b : Bool) → is_plus_or_minus c ≡ b → signed_decimal (c ∷ cs ++ old) ≡ 0 → signed_decimal (c ∷ cs ++ new) ≡ 0
    which true sign none =
        let before : one_and (decimal (cs ++ old)) ≡ 0 = rw sign at none in
        let now = signed_none old new k c cs looks sign is (none_one_and (decimal (cs ++ old)) before) in
        rw sign (ap one_and now)
    which false sign none =
        let before : decimal (c ∷ cs ++ old) ≡ 0 = rw sign at none in
        let now = unsigned_none old new k c cs looks is before in
        rw sign now
