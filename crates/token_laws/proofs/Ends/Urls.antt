-- What stands behind the name `url` and `(`: a url ends itself, and a string stays one.
use Rattle.std.proofs.Common.{ℕ, suc, ◌+◌, ◌≤◌, ◌≡◌, Bool, true, false, cond, ◌==◌, List, [], ◌∷◌, ◌++◌, Result, Option, Ok, Err, Some, length, drop, refl, sym, ap, ◌∙◌, subst, arith}
use Rattle.std.proofs.lemmas.Bool.{eqb-true}
use Rattle.std.proofs.lemmas.List.{drop-append-le, drop_at, drop-drop}
use Rattle.css_model.specs.declared.token.TokenKind.{TokenKind}
use Rattle.css_model.specs.declared.token.TokenKind.TheVariants as kind
use Rattle.css_model.specs.declared.token.TokenFlaw.{TokenFlaw}
use Rattle.css_model.specs.declared.token.TokenFlaw.TheVariants as flaw
use Rattle.css_model.specs.Text.Characters.{close_round, begins, first_passes}
use Rattle.css_model.specs.Text.Runs.{run}
use Rattle.css_model.specs.Text.Units.{white_unit, escape_after, url_unit}
use Rattle.css_model.specs.Text.TokenAt.{Shape, url_shape, done, is_quote, after_white}
use Rattle.token_laws.specs.Alike.{Alike, begins_quoted}
use Rattle.token_laws.proofs.Ends.Runs.{Fits, run_fits, seq_same}
use Rattle.token_laws.proofs.Ends.Units.{white_fits, url_fits}
use Rattle.token_laws.proofs.Ends.Alike.{alike_first}
use Rattle.token_laws.proofs.Ends.Shapes.{tested_again, shape_parts, same_shape, both_wrong, by_last, again_last}

-- the last run of what stands inside a url
abbrev behind : List ℕ → List ℕ
behind text = drop (run url_unit (after_white text)) (after_white text)

abbrev rest_len : List ℕ → ℕ
rest_len text = run url_unit text + run white_unit (drop (run url_unit text) text)

-- white space, units and white space
abbrev inner_len : List ℕ → ℕ
inner_len text = run white_unit text + rest_len (after_white text)

inner_behind : (text : List ℕ) → after_white (behind text) ≡ drop (inner_len text) text
inner_behind text =
    let a = run white_unit text in
    let b = run url_unit (after_white text) in
    let c = run white_unit (behind text) in
    let sum : a + b + c ≡ a + (b + c) = omega arith in
    ap (λ (cs : List ℕ). drop c cs) (drop-drop b a text) ∙ drop-drop c (a + b) text ∙ ap (λ (n : ℕ). drop n text) sum

-- a byte that ends it
inner_ends : (w rest : List ℕ) → inner_len (w ++ rest) ≡ length w → after_white (behind (w ++ rest)) ≡ rest
inner_ends w rest is = inner_behind (w ++ rest) ∙ drop_at w rest (inner_len (w ++ rest)) (sym is)

closed_alike : (old new : List ℕ) → Alike (close_round ∷ old) (close_round ∷ new)
closed_alike old new = alike_first close_round old new refl refl refl

white_same : (old new w : List ℕ) → run white_unit (w ++ close_round ∷ old) ≤ length w → run white_unit (w ++ close_round ∷ new) ≡ run white_unit (w ++ close_round ∷ old)
white_same old new w fits = run_fits white_unit (close_round ∷ old) (close_round ∷ new) refl (white_fits (close_round ∷ old) (close_round ∷ new) (closed_alike old new)) w fits

units_same : (old new w : List ℕ) → run url_unit (w ++ close_round ∷ old) ≤ length w → run url_unit (w ++ close_round ∷ new) ≡ run url_unit (w ++ close_round ∷ old)
units_same old new w fits =
    let none : escape_after (close_round ∷ old) ≡ 0 → escape_after (close_round ∷ new) ≡ 0 = λ is. absurd (omega (arith, is)) in
    let units : Fits url_unit (close_round ∷ old) (close_round ∷ new) = url_fits (close_round ∷ old) (close_round ∷ new) (closed_alike old new) none (λ _. refl) in
    run_fits url_unit (close_round ∷ old) (close_round ∷ new) refl units w fits

inner_same : (old new w : List ℕ) → inner_len (w ++ close_round ∷ old) ≤ length w → inner_len (w ++ close_round ∷ new) ≡ inner_len (w ++ close_round ∷ old)
inner_same old new w fits =
    seq_same (λ cs. run white_unit cs) rest_len (close_round ∷ old) (close_round ∷ new) w (white_same old new w)
    (λ _ rest. seq_same (λ cs. run url_unit cs) (λ cs. run white_unit cs) (close_round ∷ old) (close_round ∷ new) (drop (run white_unit (w ++ close_round ∷ old)) w)
    (units_same old new (drop (run white_unit (w ++ close_round ∷ old)) w))
    (λ _ last. white_same old new (drop (run url_unit (drop (run white_unit (w ++ close_round ∷ old)) w ++ close_round ∷ old)) (drop (run white_unit (w ++ close_round ∷ old)) w)) last) rest) fits

quote_same : (old new t : List ℕ) → first_passes is_quote (t ++ close_round ∷ new) ≡ first_passes is_quote (t ++ close_round ∷ old)
quote_same old new [] = refl
quote_same old new (c ∷ cs) = refl

quoted_same : (old new w : List ℕ) → run white_unit (w ++ close_round ∷ old) ≤ length w → begins_quoted (w ++ close_round ∷ new) ≡ begins_quoted (w ++ close_round ∷ old)
quoted_same old new w fits =
    let m = run white_unit (w ++ close_round ∷ old) in
    let same = white_same old new w fits in
    let before : after_white (w ++ close_round ∷ old) ≡ drop m w ++ close_round ∷ old = drop-append-le m w (close_round ∷ old) fits in
    let now : after_white (w ++ close_round ∷ new) ≡ drop m w ++ close_round ∷ new = ap (λ (n : ℕ). drop n (w ++ close_round ∷ new)) same ∙ drop-append-le m w (close_round ∷ new) fits in
    ap (λ (cs : List ℕ). first_passes is_quote cs) now ∙ quote_same old new (drop m w) ∙ sym (ap (λ (cs : List ℕ). first_passes is_quote cs) before)

-- a url, after n bytes of it
abbrev pub url_of : ℕ → List ℕ → Result Shape TokenFlaw
url_of n text = url_shape (n + run white_unit text) (after_white text)

-- what a url reads, by the byte that ends it
record UrlParts (k : Option TokenKind) (n m : ℕ) (text : List ℕ) : Type 0 where
  is_url : Some kind.Url ≡ k
  len : n + inner_len text + 1 ≡ m
  closed : begins close_round (after_white (behind text)) ≡ true

url_parts : (k : Option TokenKind) (n m : ℕ) (text : List ℕ) → url_of n text ≡ Ok (k, m) → UrlParts k n m text
url_parts k n m text = which (begins close_round (after_white (behind text))) refl
  where
    which : (b : Bool) → begins close_round (after_white (behind text)) ≡ b
        → cond b (done kind.Url (n + run white_unit text + run url_unit (after_white text) + run white_unit (behind text) + 1)) (cond (length (after_white (behind text)) == 0) (Err flaw.EndInside) (Err flaw.BadUrl)) ≡ Ok (k, m)
        → UrlParts k n m text
    which true closed is =
        let parts = shape_parts (Some kind.Url) k (n + run white_unit text + run url_unit (after_white text) + run white_unit (behind text) + 1) m is in
        record { is_url = parts.0; len = omega (arith, parts.1); closed = closed }
    which false closed is = absurd (both_wrong (length (after_white (behind text)) == 0) flaw.EndInside flaw.BadUrl (k, m) is)

url_from : (k : Option TokenKind) (n m : ℕ) (text : List ℕ) → UrlParts k n m text → url_of n text ≡ Ok (k, m)
url_from k n m text parts =
    let whole : n + run white_unit text + run url_unit (after_white text) + run white_unit (behind text) + 1 ≡ m = omega (arith, parts.len) in
    rw parts.closed (same_shape (Some kind.Url) k (n + run white_unit text + run url_unit (after_white text) + run white_unit (behind text) + 1) m parts.is_url whole)

-- a string or a url behind `url(`
abbrev pub inner_shape : ℕ → List ℕ → Result Shape TokenFlaw
inner_shape n text = cond (begins_quoted text) (done kind.Function n) (url_of n text)

-- a url by its last byte
url_closed : (n : ℕ) (w old new : List ℕ) (k : Option TokenKind) → UrlParts k n (suc n + length w) (w ++ close_round ∷ old) → begins_quoted (w ++ close_round ∷ old) ≡ false
    → (begins_quoted (w ++ close_round ∷ new) ≡ false) × UrlParts k n (suc n + length w) (w ++ close_round ∷ new)
url_closed n w old new k parts unquoted =
    let before : inner_len (w ++ close_round ∷ old) ≡ length w = omega (arith, parts.len) in
    let now : inner_len (w ++ close_round ∷ new) ≡ length w = inner_same old new w (omega (arith, before)) ∙ before in
    let ended = inner_ends w (close_round ∷ new) now in (
      quoted_same old new w (omega (arith, before)) ∙ unquoted,
      record { is_url = parts.is_url; len = omega (arith, now); closed = ap (λ (cs : List ℕ). begins close_round cs) ended },
    )

inner_at : (n : ℕ) (w : List ℕ) (x : ℕ) (old new : List ℕ) (k : Option TokenKind) → inner_shape n (w ++ x ∷ old) ≡ Ok (k, suc n + length w) → inner_shape n (w ++ x ∷ new) ≡ Ok (k, suc n + length w)
inner_at n w x old new k =
    tested_again (begins_quoted (w ++ x ∷ old)) (begins_quoted (w ++ x ∷ new)) (done kind.Function n) (url_of n (w ++ x ∷ old)) (done kind.Function n) (url_of n (w ++ x ∷ new)) (Ok (k, suc n + length w))
    (λ _ is. let parts = shape_parts (Some kind.Function) k n (suc n + length w) is in absurd (omega (arith, parts.1)))
    (λ unquoted is. ended unquoted (url_parts k n (suc n + length w) (w ++ x ∷ old) is))
  where
    C : ℕ → Type 0
    C x = UrlParts k n (suc n + length w) (w ++ x ∷ old) → begins_quoted (w ++ x ∷ old) ≡ false
        → (begins_quoted (w ++ x ∷ new) ≡ false) × UrlParts k n (suc n + length w) (w ++ x ∷ new)

    ended : begins_quoted (w ++ x ∷ old) ≡ false → UrlParts k n (suc n + length w) (w ++ x ∷ old)
        → (begins_quoted (w ++ x ∷ new) ≡ false) × (url_of n (w ++ x ∷ new) ≡ Ok (k, suc n + length w))
    ended unquoted parts =
        let before : inner_len (w ++ x ∷ old) ≡ length w = omega (arith, parts.len) in
        let at : (x == close_round) ≡ true = sym (ap (λ (cs : List ℕ). begins close_round cs) (inner_ends w (x ∷ old) before)) ∙ parts.closed in
        let now = subst C (sym (eqb-true x close_round at)) (url_closed n w old new k) parts unquoted in
        (now.0, url_from k n (suc n + length w) (w ++ x ∷ new) now.1)

-- What stands behind `url(` ends alike, where a string that begins there stays one.
pub inner_again : (n : ℕ) (old new : List ℕ) (k : Option TokenKind) (v : List ℕ) → (v ≡ [] → k ≡ Some kind.Function → begins_quoted old ≡ true → begins_quoted new ≡ true)
    → inner_shape n (v ++ old) ≡ Ok (k, n + length v) → inner_shape n (v ++ new) ≡ Ok (k, n + length v)
inner_again n old new k =
    by_last (λ v. (v ≡ [] → k ≡ Some kind.Function → begins_quoted old ≡ true → begins_quoted new ≡ true)
    → inner_shape n (v ++ old) ≡ Ok (k, n + length v) → inner_shape n (v ++ new) ≡ Ok (k, n + length v))
    (λ stays. tested_again (begins_quoted old) (begins_quoted new) (done kind.Function n) (url_of n old) (done kind.Function n) (url_of n new) (Ok (k, n + 0))
    (λ quoted is. (stays refl (sym (shape_parts (Some kind.Function) k n (n + 0) is).0) quoted, is))
    (λ _ is. let parts = url_parts k n (n + 0) old is in let len = parts.len in absurd (omega (arith, len))))
    (λ w x _. again_last (inner_shape n) k n w x old new (inner_at n w x old new k))
