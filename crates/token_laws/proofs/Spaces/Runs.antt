-- Rows of name units before a white space, and how they begin.
use Rattle.std.proofs.Common.{ℕ, zero, suc, ◌+◌, ◌<◌, ◌≤◌, ◌≡◌, Bool, true, false, cond, ltb, ◌==◌, List, [], ◌∷◌, ◌++◌, length, refl, sym, ap, ◌∙◌, arith}
use Rattle.std.proofs.lemmas.Bool.{eqb-true, false≢true, lt-ltb}
use Rattle.std.proofs.lemmas.List.{append-nil}
use Rattle.std.specs.Char.{is_ascii_hexdigit}
use Rattle.css_model.specs.Text.Characters.{space, backslash, dash, is_newline, is_name, is_start, begins}
use Rattle.css_model.specs.Text.Runs.{run_from, run}
use Rattle.css_model.specs.Text.Units.{hex_rest, escape_after, name_unit, start_unit, name_start, one_and}
use Rattle.css_model.specs.Lists.{less_one}
use Rattle.token_laws.proofs.Ends.Names.{start_le_unit, name_start_le}
use Rattle.token_laws.proofs.Ends.Units.{escape_two}
use Rattle.css_tokens.proofs.ForCallers.{run_none}
use Rattle.css_model.specs.Text.Kept.{is_open_escape, is_open_from}
use Rattle.token_laws.proofs.Spaces.Units.{follows_none, follows_space, escape_near, FirstUnit, first_unit, left_below, run_zero}

-- a row that takes the white space too
past_space : (cs more : List ℕ) → name_unit more ≡ 0 → run_from name_unit (suc (length cs)) (cs ++ space ∷ more) ≡ suc (length cs)
past_space [] more apart = ap suc (run_none name_unit more apart)
past_space (c ∷ cs) more apart = ap suc (past_space cs more apart)

cond_suc : (b : Bool) (m n k : ℕ) → m ≡ cond b n k → suc m ≡ cond b (suc n) (suc k)
cond_suc true m n k is = ap suc is
cond_suc false m n k is = ap suc is

-- one name unit, where the same is known of the rest
unit_near : (c : ℕ) (cs old more : List ℕ) → (is_open_from 0 (c ∷ cs) ≡ true → name_unit more ≡ 0)
    → ((left : ℕ) → (is_open_from left cs ≡ true → name_unit more ≡ 0) → run_from name_unit left (cs ++ old) ≡ length cs
    → run_from name_unit left (cs ++ space ∷ more) ≡ cond (is_open_from left cs) (suc (length cs)) (length cs))
    → FirstUnit name_unit c (cs ++ old) (length cs)
    → run name_unit (c ∷ cs ++ space ∷ more) ≡ cond (is_open_from 0 (c ∷ cs)) (suc (suc (length cs))) (suc (length cs))
unit_near c cs old more apart again first = which (c == backslash) (is_name c) refl refl
  where
    escape : (o : Bool) → is_open_escape cs ≡ o → (c == backslash) ≡ true → is_name c ≡ false → escape_after (cs ++ old) ≡ suc first.more
        → run name_unit (c ∷ cs ++ space ∷ more) ≡ cond (is_open_from 0 (c ∷ cs)) (suc (suc (length cs))) (suc (length cs))
    escape true whole slash name len =
        let near = escape_near old (space ∷ more) 1 (follows_space more) cs (omega (arith, len)) (omega (arith, len, first.fits)) in
        let after : escape_after (cs ++ space ∷ more) ≡ suc (suc (length cs)) = omega (arith, rw whole at near) in
        let is : is_open_from 0 (c ∷ cs) ≡ true = rw (slash, whole) refl in
        rw (name, slash, after, whole) (ap suc (past_space cs more (apart is)))
    escape false whole slash name len =
        let some : 0 < escape_after (cs ++ old) = omega (arith, len) in
        let fits : escape_after (cs ++ old) ≤ suc (length cs) = omega (arith, len, first.fits) in
        let near = escape_near old (space ∷ more) 1 (follows_space more) cs some fits in
        let alone = escape_near old [] 0 follows_none cs some fits in
        let after : escape_after (cs ++ space ∷ more) ≡ suc first.more = rw whole at near ∙ len in
        let itself : escape_after cs ≡ suc first.more = ap escape_after (sym (append-nil cs)) ∙ rw whole at alone ∙ len in
        let left : less_one (escape_after cs) ≡ first.more = ap less_one itself in
        let still : is_open_from first.more cs ≡ true → name_unit more ≡ 0 = λ is. apart (rw (slash, whole, left) is) in
        rw (name, slash, after, whole, left) (cond_suc (is_open_from first.more cs) _ _ _ (again first.more still first.rest))

    which : (b n : Bool) → (c == backslash) ≡ b → is_name c ≡ n
        → run name_unit (c ∷ cs ++ space ∷ more) ≡ cond (is_open_from 0 (c ∷ cs)) (suc (suc (length cs))) (suc (length cs))
    which true true slash name = absurd (false≢true (rw (eqb-true c backslash slash) at name))
    which true false slash name = escape (is_open_escape cs) refl slash name (rw (name, slash) at first.is)
    which false true slash name =
        let none : 1 ≡ suc first.more = rw name at first.is in
        let zero_more : first.more ≡ 0 = omega (arith, none) in
        let rest : run_from name_unit 0 (cs ++ old) ≡ length cs = rw zero_more at first.rest in
        let still : is_open_from 0 cs ≡ true → name_unit more ≡ 0 = rw slash at apart in
        rw (name, slash) (cond_suc (is_open_from 0 cs) _ _ _ (again 0 still rest))
    which false false slash name = absurd (let none : 0 ≡ suc first.more = rw (name, slash) at first.is in omega (arith, none))

-- a name that ends in an open escape takes a white space behind it, and then nothing of what follows
pub run_near : (old more : List ℕ) (v : List ℕ) (left : ℕ) → (is_open_from left v ≡ true → name_unit more ≡ 0) → run_from name_unit left (v ++ old) ≡ length v
    → run_from name_unit left (v ++ space ∷ more) ≡ cond (is_open_from left v) (suc (length v)) (length v)
run_near old more [] zero apart is = refl
run_near old more [] (suc left) apart is = absurd (omega (arith, left_below name_unit (suc left) old))
run_near old more (c ∷ cs) (suc left) apart is = cond_suc (is_open_from left cs) _ _ _ (run_near old more cs left apart (omega arith))
run_near old more (c ∷ cs) zero apart is =
    unit_near c cs old more apart
    (λ (left : ℕ) (apart : is_open_from left cs ≡ true → name_unit more ≡ 0) (is : run_from name_unit left (cs ++ old) ≡ length cs). run_near old more cs left apart is)
    (first_unit name_unit c (cs ++ old) (length cs) is)

-- whether an escape begins does not hang on what stands behind its first byte
escape_some : (c : ℕ) (cs ds : List ℕ) → ltb 0 (escape_after (c ∷ cs)) ≡ ltb 0 (escape_after (c ∷ ds))
escape_some c cs ds = which (is_newline c) (is_ascii_hexdigit c) (hex_rest 5 cs) (hex_rest 5 ds)
  where
    which : (b h : Bool) (m n : ℕ) → ltb 0 (cond b 0 (cond h (2 + m) 2)) ≡ ltb 0 (cond b 0 (cond h (2 + n) 2))
    which true h m n = refl
    which false true m n = lt-ltb 0 (2 + m) (omega arith) ∙ sym (lt-ltb 0 (2 + n) (omega arith))
    which false false m n = refl

start_none : (text : List ℕ) → name_unit text ≡ 0 → start_unit text ≡ 0
start_none text apart = omega (arith, start_le_unit text, apart)

no_dash : (text : List ℕ) → name_unit text ≡ 0 → begins dash text ≡ false
no_dash [] apart = refl
no_dash (c ∷ cs) apart = which (c == dash) refl
  where
    which : (b : Bool) → (c == dash) ≡ b → (c == dash) ≡ false
    which false is = is
    which true is = absurd (let one : ◌≡◌ {A = ℕ} 1 0 = rw (eqb-true c dash is) at apart in omega (arith, one))

name_start_none : (text : List ℕ) → name_unit text ≡ 0 → name_start text ≡ 0
name_start_none text apart = omega (arith, name_start_le text, run_none name_unit text apart)

-- whether an ident sequence begins, where the row of name units ends with the text and none begins behind it
start_unit_same : (old new : List ℕ) → name_unit new ≡ 0 → (v : List ℕ) → run name_unit (v ++ old) ≡ length v → ltb 0 (start_unit (v ++ new)) ≡ ltb 0 (start_unit (v ++ old))
start_unit_same old new apart [] is =
    let before : start_unit old ≡ 0 = start_none old (run_zero name_unit old refl is) in
    let after : start_unit new ≡ 0 = start_none new apart in
    rw (before, after) refl
start_unit_same old new apart (c ∷ cs) is = which cs (is_start c) (c == backslash) refl refl (first_unit name_unit c (cs ++ old) (length cs) is)
  where
    which : (cs : List ℕ) (s b : Bool) → is_start c ≡ s → (c == backslash) ≡ b → FirstUnit name_unit c (cs ++ old) (length cs)
        → ltb 0 (start_unit (c ∷ cs ++ new)) ≡ ltb 0 (start_unit (c ∷ cs ++ old))
    which cs true b start slash first = rw start refl
    which cs false false start slash first = rw (start, slash) refl
    which [] false true start slash first =
        let len : escape_after old ≡ suc first.more = rw (eqb-true c backslash slash) at first.is in
        absurd (omega (arith, escape_two old (omega (arith, len)), len, first.fits))
    which (d ∷ ds) false true start slash first = rw (start, slash) (escape_some d (ds ++ new) (ds ++ old))

one_and_some : (n : ℕ) → ltb 0 (one_and n) ≡ ltb 0 n
one_and_some zero = refl
one_and_some (suc n) = lt-ltb 0 (2 + n) (omega arith) ∙ sym (lt-ltb 0 (suc n) (omega arith))

pub name_start_same : (old new : List ℕ) → name_unit new ≡ 0 → (v : List ℕ) → run name_unit (v ++ old) ≡ length v → ltb 0 (name_start (v ++ new)) ≡ ltb 0 (name_start (v ++ old))
name_start_same old new apart [] is =
    let before : name_start old ≡ 0 = name_start_none old (run_zero name_unit old refl is) in
    let after : name_start new ≡ 0 = name_start_none new apart in
    rw (before, after) refl
name_start_same old new apart (c ∷ cs) is = which (c == dash) refl
  where
    dashed : (cs : List ℕ) → run name_unit (cs ++ old) ≡ length cs
        → ltb 0 (cond (begins dash (cs ++ new)) 2 (one_and (start_unit (cs ++ new)))) ≡ ltb 0 (cond (begins dash (cs ++ old)) 2 (one_and (start_unit (cs ++ old))))
    dashed [] is =
        let before : name_unit old ≡ 0 = run_zero name_unit old refl is in
        rw (no_dash old before, no_dash new apart, start_none old before, start_none new apart) refl
    dashed (d ∷ ds) is = also (d == dash) (start_unit (d ∷ ds ++ new)) (start_unit (d ∷ ds ++ old)) (start_unit_same old new apart (d ∷ ds) is)
      where
        also : (b : Bool) (m n : ℕ) → ltb 0 m ≡ ltb 0 n → ltb 0 (cond b 2 (one_and m)) ≡ ltb 0 (cond b 2 (one_and n))
        also true m n same = refl
        also false m n same = one_and_some m ∙ same ∙ sym (one_and_some n)

    which : (b : Bool) → (c == dash) ≡ b → ltb 0 (name_start (c ∷ cs ++ new)) ≡ ltb 0 (name_start (c ∷ cs ++ old))
    which true is_dash =
        let later : suc (run name_unit (cs ++ old)) ≡ suc (length cs) = rw (eqb-true c dash is_dash) at is in
        rw is_dash (dashed cs (omega (arith, later)))
    which false is_dash = rw is_dash (start_unit_same old new apart (c ∷ cs) is)
