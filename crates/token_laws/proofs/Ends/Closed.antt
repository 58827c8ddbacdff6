-- Comments, strings and urls end themselves, whatever follows.
use Rattle.std.proofs.Common.{ℕ, ◌+◌, ◌≤◌, ◌≡◌, Bool, true, false, cond, ◌==◌, List, [], ◌∷◌, ◌++◌, Result, Option, Ok, Err, Some, None, length, drop, refl, sym, ap, ◌∙◌, subst, arith}
use Rattle.std.proofs.lemmas.Bool.{eqb-true}
use Rattle.std.proofs.lemmas.List.{drop_at}
use Rattle.css_model.specs.declared.token.TokenKind.{TokenKind}
use Rattle.css_model.specs.declared.token.TokenKind.TheVariants as kind
use Rattle.css_model.specs.declared.token.TokenFlaw.{TokenFlaw}
use Rattle.css_model.specs.declared.token.TokenFlaw.TheVariants as flaw
use Rattle.css_model.specs.Text.Characters.{star, quote, apostrophe, is_newline, begins, first_passes}
use Rattle.css_model.specs.Text.Runs.{run}
use Rattle.css_model.specs.Text.Units.{comment_unit, string_unit, string_escape}
use Rattle.css_model.specs.Text.TokenAt.{Shape, comment_shape, string_shape, is_quote}
use Rattle.token_laws.specs.Alike.{Alike}
use Rattle.token_laws.proofs.Ends.Runs.{Fits, run_fits}
use Rattle.token_laws.proofs.Ends.Units.{string_fits}
use Rattle.token_laws.proofs.Ends.Alike.{alike_first}
use Rattle.token_laws.proofs.Ends.RuleBounds.{quote_is}
use Rattle.token_laws.proofs.Ends.Shapes.{tested_again, shape_parts, same_shape, both_wrong, by_last, again_last}

-- what stands behind n bytes
begins_at : (b : ℕ) (w rest : List ℕ) (n : ℕ) → n ≡ length w → begins b (drop n (w ++ rest)) ≡ begins b rest
begins_at b w rest n is = ap (λ (cs : List ℕ). begins b cs) (drop_at w rest n (sym is))

comment_same : (x y : ℕ) (old new v : List ℕ) → comment_unit (v ++ x ∷ y ∷ new) ≡ comment_unit (v ++ x ∷ y ∷ old)
comment_same x y old new [] = refl
comment_same x y old new (c ∷ []) = refl
comment_same x y old new (c ∷ d ∷ ds) = refl

comment_fits : (x y : ℕ) (old new : List ℕ) → Fits comment_unit (x ∷ y ∷ old) (x ∷ y ∷ new)
comment_fits x y old new = record { same = λ v _. comment_same x y old new v }

-- a comment by its last two bytes
comment_at : (w : List ℕ) (x y : ℕ) (old new : List ℕ) (k : Option TokenKind) → comment_shape (w ++ x ∷ y ∷ old) ≡ Ok (k, 4 + length w) → comment_shape (w ++ x ∷ y ∷ new) ≡ Ok (k, 4 + length w)
comment_at w x y old new k =
    let m = run comment_unit (w ++ x ∷ y ∷ old) in
    let m' = run comment_unit (w ++ x ∷ y ∷ new) in
    tested_again (begins star (drop m (w ++ x ∷ y ∷ old))) (begins star (drop m' (w ++ x ∷ y ∷ new))) (Ok (None, 4 + m)) (Err flaw.EndInside) (Ok (None, 4 + m')) (Err flaw.EndInside) (Ok (k, 4 + length w))
    (λ starred is.
    let parts = shape_parts None k (4 + m) (4 + length w) is in
    let before : m ≡ length w = omega (arith, parts.1) in
    let behind : m' ≡ length w = run_fits comment_unit (x ∷ y ∷ old) (x ∷ y ∷ new) refl (comment_fits x y old new) w (omega (arith, before)) ∙ before in
    let at : (x == star) ≡ true = sym (begins_at star w (x ∷ y ∷ old) m before) ∙ starred in
    (begins_at star w (x ∷ y ∷ new) m' behind ∙ at, same_shape None k (4 + m') (4 + length w) parts.0 (omega (arith, behind)))
    )
    (λ _ is. absurd (cc))

-- a comment is at least four bytes
pub comment_len : (cs : List ℕ) (k : Option TokenKind) (n : ℕ) → comment_shape cs ≡ Ok (k, n) → 4 ≤ n
comment_len cs k n = which (begins star (drop (run comment_unit cs) cs))
  where
    which : (b : Bool) → ◌≡◌ {A = Result Shape TokenFlaw} (cond b (Ok (None, 4 + run comment_unit cs)) (Err flaw.EndInside)) (Ok (k, n)) → 4 ≤ n
    which true is = let parts = shape_parts None k (4 + run comment_unit cs) n is in omega (arith, parts.1)
    which false is = absurd (cc)

pub comment_again : (old new : List ℕ) (k : Option TokenKind) (v : List ℕ) → comment_shape (v ++ old) ≡ Ok (k, 2 + length v) → comment_shape (v ++ new) ≡ Ok (k, 2 + length v)
comment_again old new k =
    by_last (λ v. comment_shape (v ++ old) ≡ Ok (k, 2 + length v) → comment_shape (v ++ new) ≡ Ok (k, 2 + length v))
    (λ is. absurd (omega (arith, comment_len old k 2 is))) (λ w y. again_last comment_shape k 2 w y old new (second y w))
  where
    second : (y : ℕ) (w : List ℕ) → comment_shape (w ++ y ∷ old) ≡ Ok (k, 3 + length w) → comment_shape (w ++ y ∷ new) ≡ Ok (k, 3 + length w)
    second y =
        by_last (λ w. comment_shape (w ++ y ∷ old) ≡ Ok (k, 3 + length w) → comment_shape (w ++ y ∷ new) ≡ Ok (k, 3 + length w))
        (λ is. absurd (omega (arith, comment_len (y ∷ old) k 3 is)))
        (λ u x. again_last comment_shape k 3 u x (y ∷ old) (y ∷ new) (comment_at u x y old new k))

-- a quote ends what stands before it in a string
record EndsString (q : ℕ) : Type 0 where
  alike : (old new : List ℕ) → Alike (q ∷ old) (q ∷ new)
  whole : (rest : List ℕ) → 2 ≤ string_escape (q ∷ rest)
  none : (rest : List ℕ) → string_unit q (q ∷ rest) ≡ 0

quote_ends : (q : ℕ) → is_quote q ≡ true → EndsString q
quote_ends =
    quote_is EndsString (record { alike = λ old new. alike_first quote old new refl refl refl; whole = λ rest. omega arith; none = λ rest. refl })
    (record { alike = λ old new. alike_first apostrophe old new refl refl refl; whole = λ rest. omega arith; none = λ rest. refl })

-- a string by its last byte
string_at : (q : ℕ) → EndsString q → (w : List ℕ) (x : ℕ) (old new : List ℕ) (k : Option TokenKind) → string_shape q (w ++ x ∷ old) ≡ Ok (k, 2 + length w)
    → string_shape q (w ++ x ∷ new) ≡ Ok (k, 2 + length w)
string_at q ends w x old new k =
    let m = run (string_unit q) (w ++ x ∷ old) in
    let m' = run (string_unit q) (w ++ x ∷ new) in
    let rest = drop m (w ++ x ∷ old) in
    let rest' = drop m' (w ++ x ∷ new) in
    tested_again (begins q rest) (begins q rest') (Ok (Some kind.Str, 2 + m)) (cond (first_passes is_newline rest) (Err flaw.BadString) (Err flaw.EndInside))
    (Ok (Some kind.Str, 2 + m')) (cond (first_passes is_newline rest') (Err flaw.BadString) (Err flaw.EndInside)) (Ok (k, 2 + length w))
    (λ closed is.
    let parts = shape_parts (Some kind.Str) k (2 + m) (2 + length w) is in
    let before : m ≡ length w = omega (arith, parts.1) in
    let at : (x == q) ≡ true = sym (begins_at q w (x ∷ old) m before) ∙ closed in
    let behind : m' ≡ length w = string_run q ends w x old new (eqb-true x q at) before in
    (begins_at q w (x ∷ new) m' behind ∙ at, same_shape (Some kind.Str) k (2 + m') (2 + length w) parts.0 (omega (arith, behind)))
    )
    (λ _ is. absurd (both_wrong (first_passes is_newline rest) flaw.BadString flaw.EndInside (k, 2 + length w) is))
  where
    string_run : (q : ℕ) → EndsString q → (w : List ℕ) (x : ℕ) (old new : List ℕ) → x ≡ q → run (string_unit q) (w ++ x ∷ old) ≡ length w → run (string_unit q) (w ++ x ∷ new) ≡ length w
    string_run q ends w x old new same =
        let at : run (string_unit q) (w ++ q ∷ old) ≡ length w → run (string_unit q) (w ++ q ∷ new) ≡ length w = λ is.
        let two = ends.whole old in
        let fits = string_fits q (q ∷ old) (q ∷ new) (ends.alike old new) (λ short. absurd (omega (arith, two, short))) (λ _. ends.none new) in
        run_fits (string_unit q) (q ∷ old) (q ∷ new) refl fits w (omega (arith, is)) ∙ is in
        subst (λ (x : ℕ). run (string_unit q) (w ++ x ∷ old) ≡ length w → run (string_unit q) (w ++ x ∷ new) ≡ length w) (sym same) at

string_len : (q : ℕ) (cs : List ℕ) (k : Option TokenKind) (n : ℕ) → string_shape q cs ≡ Ok (k, n) → 2 ≤ n
string_len q cs k n = which (begins q (drop (run (string_unit q) cs) cs)) (first_passes is_newline (drop (run (string_unit q) cs) cs))
  where
    which : (b e : Bool) → ◌≡◌ {A = Result Shape TokenFlaw} (cond b (Ok (Some kind.Str, 2 + run (string_unit q) cs)) (cond e (Err flaw.BadString) (Err flaw.EndInside))) (Ok (k, n)) → 2 ≤ n
    which true e is = let parts = shape_parts (Some kind.Str) k (2 + run (string_unit q) cs) n is in omega (arith, parts.1)
    which false e is = absurd (both_wrong e flaw.BadString flaw.EndInside (k, n) is)

pub string_again : (old new : List ℕ) (k : Option TokenKind) (q : ℕ) → is_quote q ≡ true → (v : List ℕ) → string_shape q (v ++ old) ≡ Ok (k, 1 + length v)
    → string_shape q (v ++ new) ≡ Ok (k, 1 + length v)
string_again old new k q quoted =
    by_last (λ v. string_shape q (v ++ old) ≡ Ok (k, 1 + length v) → string_shape q (v ++ new) ≡ Ok (k, 1 + length v))
    (λ is. absurd (omega (arith, string_len q old k 1 is))) (λ w x. again_last (string_shape q) k 1 w x old new (string_at q (quote_ends q quoted) w x old new k))
