-- Names before another rest.
use Rattle.std.proofs.Common.{ℕ, zero, suc, ◌+◌, ◌<◌, ◌≤◌, ◌≡◌, Bool, true, false, cond, ◌==◌, List, [], ◌∷◌, ◌++◌, length, refl, arith}
use Rattle.std.proofs.lemmas.Bool.{eqb-true}
use Rattle.css_model.specs.Text.Characters.{backslash, dash, is_newline, is_start, begins}
use Rattle.css_model.specs.Text.Runs.{run}
use Rattle.css_model.specs.Text.Units.{escape_after, hex_rest, name_unit, start_unit, name_start, one_and}
use Rattle.token_laws.specs.Alike.{Alike}
use Rattle.css_tokens.proofs.ForCallers.{run_unit}
use Rattle.token_laws.proofs.Ends.Runs.{run_keeps, unit_le_run}
use Rattle.token_laws.proofs.Ends.Units.{escape_two, name_keeps}
use Rattle.token_laws.proofs.Ends.OneAnd.{one_and_le, one_and_some}

-- what starts a name is a unit of one
pub start_le_unit : (text : List ℕ) → start_unit text ≤ name_unit text
start_le_unit [] = omega arith
start_le_unit (c ∷ cs) = which (is_start c) refl (c == backslash) refl
  where
    which : (b : Bool) → is_start c ≡ b → (e : Bool) → (c == backslash) ≡ e → start_unit (c ∷ cs) ≤ name_unit (c ∷ cs)
    which true start e escape = rw start (omega arith)
    which false start true escape = rw (eqb-true c backslash escape) (omega arith)
    which false start false escape = rw (start, escape) (omega arith)

below_cond : (b : Bool) (m k n : ℕ) → (b ≡ true → m ≤ n) → (b ≡ false → k ≤ n) → cond b m k ≤ n
below_cond true m k n p q = p refl
below_cond false m k n p q = q refl

-- `-` and what follows it
dash_start : (cs : List ℕ) → cond (begins dash cs) 2 (one_and (start_unit cs)) ≤ 1 + run name_unit cs
dash_start [] = omega arith
dash_start (d ∷ ds) =
    let unit_run = unit_le_run name_unit (d ∷ ds) refl in
    let start = start_le_unit (d ∷ ds) in
    let one = one_and_le (start_unit (d ∷ ds)) in
    below_cond (d == dash) 2 (one_and (start_unit (d ∷ ds))) (1 + run name_unit (d ∷ ds)) (λ is. second is unit_run) (λ _. omega (arith, unit_run, start, one))
  where
    second : (d == dash) ≡ true → name_unit (d ∷ ds) ≤ run name_unit (d ∷ ds) → 2 ≤ 1 + run name_unit (d ∷ ds)
    second is unit_run =
        let one : name_unit (d ∷ ds) ≡ 1 = rw (eqb-true d dash is) refl in
        omega (arith, unit_run, one)

-- The start of a name is no longer than the name.
pub name_start_le : (text : List ℕ) → name_start text ≤ run name_unit text
name_start_le [] = omega arith
name_start_le (c ∷ cs) =
    let start = start_le_unit (c ∷ cs) in
    let unit_run = unit_le_run name_unit (c ∷ cs) refl in
    below_cond (c == dash) (cond (begins dash cs) 2 (one_and (start_unit cs))) (start_unit (c ∷ cs)) (run name_unit (c ∷ cs)) dashed (λ _. omega (arith, start, unit_run))
  where
    dashed : (c == dash) ≡ true → cond (begins dash cs) 2 (one_and (start_unit cs)) ≤ run name_unit (c ∷ cs)
    dashed is =
        let one : name_unit (c ∷ cs) ≡ 1 = rw (eqb-true c dash is) refl in
        let whole = run_unit name_unit (c ∷ cs) 1 (omega arith) one (omega arith) in
        let more = dash_start cs in
        omega (arith, whole, more)

-- an escape that fits begins before any rest
escape_begins : (old new v : List ℕ) → 0 < escape_after (v ++ old) → escape_after (v ++ old) ≤ suc (length v) → 0 < escape_after (v ++ new)
escape_begins old new [] some fits = absurd (omega (arith, escape_two old some))
escape_begins old new (d ∷ ds) some fits = which (is_newline d) refl some
  where
    positive : (x : Bool) (m : ℕ) → 0 < cond x (2 + m) 2
    positive true m = omega arith
    positive false m = omega arith

    which : (b : Bool) → is_newline d ≡ b → 0 < escape_after (d ∷ ds ++ old) → 0 < escape_after (d ∷ ds ++ new)
    which true is some =
        let none : escape_after (d ∷ ds ++ old) ≡ 0 = rw is refl in
        absurd (omega (arith, none, some))
    which false is some = rw is (positive _ (hex_rest 5 (ds ++ new)))

begin_cases : (p b : Bool) (m m' l : ℕ) → (0 < m → m ≤ l → 0 < m') → 0 < cond p 1 (cond b m 0) → cond p 1 (cond b m 0) ≤ l → 0 < cond p 1 (cond b m' 0)
begin_cases true b m m' l h some fits = omega arith
begin_cases false true m m' l h some fits = h some fits
begin_cases false false m m' l h some fits = absurd (omega (arith, some))

start_begins : (old new v : List ℕ) → 0 < start_unit (v ++ old) → start_unit (v ++ old) ≤ length v → 0 < start_unit (v ++ new)
start_begins old new [] some fits = absurd (omega arith)
start_begins old new (c ∷ cs) some fits =
    begin_cases (is_start c) (c == backslash) (escape_after (cs ++ old)) (escape_after (cs ++ new)) (suc (length cs)) (escape_begins old new cs) some fits

-- `-` alone is no start that fits
lone_cases : (b d : Bool) (m k k' : ℕ) → (0 < k → k ≤ 1 → 0 < k') → 0 < cond b (cond d 2 (one_and m)) k → cond b (cond d 2 (one_and m)) k ≤ 1
    → (b ≡ false) × (0 < k')
lone_cases false d m k k' h some fits = (refl, h some fits)
lone_cases true true m k k' h some fits = absurd (omega (arith, fits))
lone_cases true false zero k k' h some fits = absurd (omega (arith, some))
lone_cases true false (suc m) k k' h some fits = absurd (omega (arith, fits))

dash_cases : (b d : Bool) (m m' k k' l : ℕ) → (0 < m → m ≤ l → 0 < m') → (0 < k → k ≤ suc l → 0 < k')
    → 0 < cond b (cond d 2 (one_and m)) k → cond b (cond d 2 (one_and m)) k ≤ suc l → 0 < cond b (cond d 2 (one_and m')) k'
dash_cases false d m m' k k' l p q some fits = q some fits
dash_cases true true m m' k k' l p q some fits = omega arith
dash_cases true false zero m' k k' l p q some fits = absurd (omega (arith, some))
dash_cases true false (suc m) m' k k' l p q some fits = one_and_some m' (p (omega arith) (omega (arith, fits)))

-- The start of a name that fits begins before any rest.
pub name_begins : (old new v : List ℕ) → 0 < name_start (v ++ old) → name_start (v ++ old) ≤ length v → 0 < name_start (v ++ new)
name_begins old new [] some fits = absurd (omega arith)
name_begins old new (c ∷ []) some fits =
    let parts = lone_cases (c == dash) (begins dash old) (start_unit old) (start_unit (c ∷ old)) (start_unit (c ∷ new)) (start_begins old new (c ∷ [])) some fits in
    rw parts.0 parts.1
name_begins old new (c ∷ d ∷ ds) some fits =
    dash_cases (c == dash) (d == dash) (start_unit (d ∷ ds ++ old)) (start_unit (d ∷ ds ++ new)) (start_unit (c ∷ d ∷ ds ++ old)) (start_unit (c ∷ d ∷ ds ++ new)) (suc (length ds))
    (start_begins old new (d ∷ ds)) (start_begins old new (c ∷ d ∷ ds)) some fits

-- no name begins before a rest where one that fits would begin before the other too
pub name_none : (old new v : List ℕ) → name_start (v ++ old) ≡ 0 → name_start (v ++ new) ≤ length v → name_start (v ++ new) ≡ 0
name_none old new v none fits = which (name_start (v ++ new)) refl
  where
    which : (m : ℕ) → name_start (v ++ new) ≡ m → name_start (v ++ new) ≡ 0
    which zero is = is
    which (suc m) is = absurd (omega (arith, none, name_begins new old v (omega (arith, is)) fits))

pub name_len_again : (old new : List ℕ) → Alike old new → (v : List ℕ) → run name_unit (v ++ old) ≡ length v → run name_unit (v ++ new) ≡ length v
name_len_again old new h v is = run_keeps name_unit old new refl (name_keeps old new h) v is

-- a name that ends before a rest
pub name_again : (old new : List ℕ) → Alike old new → (v : List ℕ) → 0 < name_start (v ++ old) → run name_unit (v ++ old) ≡ length v
    → (0 < name_start (v ++ new)) × (run name_unit (v ++ new) ≡ length v)
name_again old new h v some is =
    let fits : name_start (v ++ old) ≤ length v = omega (arith, name_start_le (v ++ old), is) in
    (name_begins old new v some fits, name_len_again old new h v is)

-- a row of name units that is no name
pub no_name_again : (old new : List ℕ) → Alike old new → (v : List ℕ) → name_start (v ++ old) ≡ 0 → run name_unit (v ++ old) ≡ length v → name_start (v ++ new) ≡ 0
no_name_again old new h v none is =
    name_none old new v none (omega (arith, name_start_le (v ++ new), name_len_again old new h v is))
