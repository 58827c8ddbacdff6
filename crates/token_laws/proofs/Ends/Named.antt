-- Tokens that are names, or end with one, before another rest.
use Rattle.std.proofs.Common.{ℕ, suc, ◌+◌, ◌<◌, ◌≤◌, ◌≡◌, Bool, true, false, cond, ltb, ◌==◌, List, [], ◌∷◌, ◌++◌, Result, Option, Ok, Some, length, drop, take, refl, sym, ap, ◌∙◌, subst, arith, append_assoc}
use Rattle.std.proofs.lemmas.Bool.{eqb-true, ltb-true, ltb-false, lt-ltb, le-ltb}
use Rattle.std.proofs.lemmas.List.{drop_at, drop-drop, take_at, length-append}
use Rattle.css_model.specs.declared.token.TokenKind.{TokenKind}
use Rattle.css_model.specs.declared.token.TokenKind.TheVariants as kind
use Rattle.css_model.specs.declared.token.TokenFlaw.{TokenFlaw}
use Rattle.css_model.specs.Text.Characters.{hash, at_sign, open_round, begins}
use Rattle.css_model.specs.Text.Units.{name_unit, name_start, name_len}
use Rattle.css_model.specs.Text.Names.{is_url}
use Rattle.css_model.specs.Text.TokenAt.{Shape, hash_shape, at_shape, opened_shape, named_shape, done}
use Rattle.token_laws.specs.Alike.{Alike, KeepsString, ends_itself}
use Rattle.token_laws.proofs.Ends.Runs.{run_begins, unit_le_run}
use Rattle.token_laws.proofs.Ends.Names.{name_len_again, name_again, no_name_again}
use Rattle.token_laws.proofs.Ends.Alike.{alike_first}
use Rattle.token_laws.proofs.Ends.RuleBounds.{opened_len}
use Rattle.token_laws.proofs.Ends.Shapes.{chosen_again, tested_again, shape_parts, same_shape, same_any, by_cut}
use Rattle.token_laws.proofs.Ends.Urls.{inner_shape, inner_again}

-- a token that is one byte
pub single_again : (k k' : Option TokenKind) (cs : List ℕ) → ◌≡◌ {A = Result Shape TokenFlaw} (Ok (k', 1)) (Ok (k, suc (length cs))) → (k' ≡ k) × (cs ≡ [])
single_again k k' [] is = ((shape_parts k' k 1 1 is).0, refl)
single_again k k' (c ∷ cs) is = let parts = shape_parts k' k 1 (suc (length (c ∷ cs))) is in absurd (omega (arith, parts.1))

hash_open : (b : Bool) (k : Option TokenKind) → Some (cond b kind.IdHash kind.Hash) ≡ k → ends_itself k ≡ false
hash_open true k is = ap ends_itself (sym is)
hash_open false k is = ap ends_itself (sym is)

-- after `#`
pub hash_again : (old new : List ℕ) (k : Option TokenKind) → (ends_itself k ≡ false → Alike old new) → (k ≡ Some (kind.Delim hash) → name_unit old ≡ 0 → name_unit new ≡ 0)
    → (cs : List ℕ) → hash_shape (cs ++ old) ≡ Ok (k, suc (length cs)) → hash_shape (cs ++ new) ≡ Ok (k, suc (length cs))
hash_again old new k alike looks cs =
    let some = name_unit (cs ++ old) in
    let some' = name_unit (cs ++ new) in
    let named = ltb 0 (name_start (cs ++ old)) in
    let named' = ltb 0 (name_start (cs ++ new)) in
    tested_again (ltb 0 some) (ltb 0 some')
    (done (cond named kind.IdHash kind.Hash) (1 + name_len (cs ++ old))) (done (kind.Delim hash) 1)
    (done (cond named' kind.IdHash kind.Hash) (1 + name_len (cs ++ new))) (done (kind.Delim hash) 1) (Ok (k, suc (length cs)))
    (λ begins is.
    let parts = shape_parts (Some (cond named kind.IdHash kind.Hash)) k (1 + name_len (cs ++ old)) (suc (length cs)) is in
    let h = alike (hash_open named k parts.0) in
    let before : name_len (cs ++ old) ≡ length cs = omega (arith, parts.1) in
    let behind : name_len (cs ++ new) ≡ length cs = name_len_again old new h cs before in
    let first = ltb-true 0 some begins in
    let longer : some ≤ name_len (cs ++ old) = unit_le_run name_unit (cs ++ old) refl in
    let first' : 0 < some' = run_begins name_unit (cs ++ new) (omega (arith, first, longer, before, behind)) in
    let same : named' ≡ named = same_any (name_start (cs ++ old)) (name_start (cs ++ new))
    (λ none. no_name_again old new h cs none before) (λ start. (name_again old new h cs start before).0) in
    let kinds : Some (cond named' kind.IdHash kind.Hash) ≡ Some (cond named kind.IdHash kind.Hash) = ap (λ (b : Bool). Some (cond b kind.IdHash kind.Hash)) same in
    (lt-ltb 0 some' first', same_shape (Some (cond named' kind.IdHash kind.Hash)) k (1 + name_len (cs ++ new)) (suc (length cs)) (kinds ∙ parts.0) (omega (arith, behind)))
    )
    (λ none is. single none is (single_again k (Some (kind.Delim hash)) cs is))
  where
    single : ltb 0 (name_unit (cs ++ old)) ≡ false → done (kind.Delim hash) 1 ≡ Ok (k, suc (length cs)) → (Some (kind.Delim hash) ≡ k) × (cs ≡ [])
        → (ltb 0 (name_unit (cs ++ new)) ≡ false) × (done (kind.Delim hash) 1 ≡ Ok (k, suc (length cs)))
    single none is (kinds, empty) =
        let at : (rest : List ℕ) → name_unit (cs ++ rest) ≡ name_unit rest = λ rest. ap (λ (v : List ℕ). name_unit (v ++ rest)) empty in
        let before : name_unit old ≡ 0 = omega (arith, at old, ltb-false 0 (name_unit (cs ++ old)) none) in
        (le-ltb 0 (name_unit (cs ++ new)) (omega (arith, at new, looks (sym kinds) before)), is)

-- after `@`
pub at_again : (old new : List ℕ) (k : Option TokenKind) → (ends_itself k ≡ false → Alike old new) → (k ≡ Some (kind.Delim at_sign) → name_start old ≡ 0 → name_start new ≡ 0)
    → (cs : List ℕ) → at_shape (cs ++ old) ≡ Ok (k, suc (length cs)) → at_shape (cs ++ new) ≡ Ok (k, suc (length cs))
at_again old new k alike looks cs =
    let start = name_start (cs ++ old) in
    let start' = name_start (cs ++ new) in
    tested_again (ltb 0 start) (ltb 0 start') (done kind.AtKeyword (1 + name_len (cs ++ old))) (done (kind.Delim at_sign) 1)
    (done kind.AtKeyword (1 + name_len (cs ++ new))) (done (kind.Delim at_sign) 1) (Ok (k, suc (length cs)))
    (λ begins is.
    let parts = shape_parts (Some kind.AtKeyword) k (1 + name_len (cs ++ old)) (suc (length cs)) is in
    let now = name_again old new (alike (ap ends_itself (sym parts.0))) cs (ltb-true 0 start begins) (omega (arith, parts.1)) in
    (lt-ltb 0 start' now.0, same_shape (Some kind.AtKeyword) k (1 + name_len (cs ++ new)) (suc (length cs)) parts.0 (omega (arith, now.1)))
    )
    (λ none is. single none is (single_again k (Some (kind.Delim at_sign)) cs is))
  where
    single : ltb 0 (name_start (cs ++ old)) ≡ false → done (kind.Delim at_sign) 1 ≡ Ok (k, suc (length cs)) → (Some (kind.Delim at_sign) ≡ k) × (cs ≡ [])
        → (ltb 0 (name_start (cs ++ new)) ≡ false) × (done (kind.Delim at_sign) 1 ≡ Ok (k, suc (length cs)))
    single none is (kinds, empty) =
        let at : (rest : List ℕ) → name_start (cs ++ rest) ≡ name_start rest = λ rest. ap (λ (v : List ℕ). name_start (v ++ rest)) empty in
        let before : name_start old ≡ 0 = omega (arith, at old, ltb-false 0 (name_start (cs ++ old)) none) in
        (le-ltb 0 (name_start (cs ++ new)) (omega (arith, at new, looks (sym kinds) before)), is)

-- a name and `(`
named_opened : (w rest : List ℕ) → name_len (w ++ open_round ∷ rest) ≡ length w → named_shape (w ++ open_round ∷ rest) ≡ opened_shape w (length w + 1) rest
named_opened w rest is =
    let text = w ++ open_round ∷ rest in
    let n = length w in
    let front : take n text ≡ w = take_at w (open_round ∷ rest) n refl in
    let at : drop n text ≡ open_round ∷ rest = drop_at w (open_round ∷ rest) n refl in
    let more : drop (n + 1) text ≡ rest = sym (drop-drop 1 n text) ∙ ap (λ (cs : List ℕ). drop 1 cs) at in
    ap (λ (m : ℕ). cond (begins open_round (drop m text)) (opened_shape (take m text) (m + 1) (drop (m + 1) text)) (done kind.Ident m)) is
    ∙ ap (λ (cs : List ℕ). cond (begins open_round cs) (opened_shape (take n text) (n + 1) (drop (n + 1) text)) (done kind.Ident n)) at
    ∙ ap (λ (cs : List ℕ). opened_shape cs (n + 1) (drop (n + 1) text)) front ∙ ap (λ (cs : List ℕ). opened_shape w (n + 1) cs) more

open_again : (w z old new : List ℕ) (k : Option TokenKind) → KeepsString k (w ++ open_round ∷ z) old new → name_len (w ++ open_round ∷ (z ++ old)) ≡ length w
    → named_shape (w ++ open_round ∷ (z ++ old)) ≡ Ok (k, length w + 1 + length z) → named_shape (w ++ open_round ∷ (z ++ new)) ≡ Ok (k, length w + 1 + length z)
open_again w z old new k keeps before is =
    let h : Alike (open_round ∷ (z ++ old)) (open_round ∷ (z ++ new)) = alike_first open_round (z ++ old) (z ++ new) refl refl refl in
    let behind = name_len_again (open_round ∷ (z ++ old)) (open_round ∷ (z ++ new)) h w before in
    let m = length w + 1 in
    named_opened w (z ++ new) behind
    ∙ chosen_again (is_url w) (inner_shape m (z ++ old)) (done kind.Function m) (inner_shape m (z ++ new)) (done kind.Function m) (Ok (k, m + length z))
    (λ url. inner_again m old new k z (λ empty called. keeps w called (ap (λ (cs : List ℕ). w ++ open_round ∷ cs) empty) url))
    (λ _ same. same) (sym (named_opened w (z ++ old) before) ∙ is)

-- the name is cut off by its length
function_again : (old new : List ℕ) (k : Option TokenKind) (n : ℕ) (v : List ℕ) → n < length v → KeepsString k v old new → name_len (v ++ old) ≡ n → begins open_round (drop n (v ++ old)) ≡ true
    → named_shape (v ++ old) ≡ Ok (k, length v) → named_shape (v ++ new) ≡ Ok (k, length v)
function_again old new k n v inside =
    by_cut (λ v. KeepsString k v old new → name_len (v ++ old) ≡ n → begins open_round (drop n (v ++ old)) ≡ true → named_shape (v ++ old) ≡ Ok (k, length v) → named_shape (v ++ new) ≡ Ok (k, length v))
    n cut v inside
  where
    C : List ℕ → List ℕ → ℕ → Type 0
    C w z x = KeepsString k (w ++ x ∷ z) old new → name_len (w ++ x ∷ (z ++ old)) ≡ length w
        → named_shape (w ++ x ∷ (z ++ old)) ≡ Ok (k, length w + 1 + length z) → named_shape (w ++ x ∷ (z ++ new)) ≡ Ok (k, length w + 1 + length z)

    cut : (w : List ℕ) (x : ℕ) (z : List ℕ) → length w ≡ n → KeepsString k (w ++ x ∷ z) old new → name_len ((w ++ x ∷ z) ++ old) ≡ n
        → begins open_round (drop n ((w ++ x ∷ z) ++ old)) ≡ true → named_shape ((w ++ x ∷ z) ++ old) ≡ Ok (k, length (w ++ x ∷ z)) → named_shape ((w ++ x ∷ z) ++ new) ≡ Ok (k, length (w ++ x ∷ z))
    cut w x z size keeps len opened is =
        let moved : (rest : List ℕ) → (w ++ x ∷ z) ++ rest ≡ w ++ x ∷ (z ++ rest) = λ rest. append_assoc w (x ∷ z) rest in
        let at : (x == open_round) ≡ true = sym (ap (λ (cs : List ℕ). begins open_round cs) (ap (λ (cs : List ℕ). drop n cs) (moved old) ∙ drop_at w (x ∷ (z ++ old)) n size)) ∙ opened in
        let whole : length (w ++ x ∷ z) ≡ length w + 1 + length z = omega (arith, length-append w (x ∷ z)) in
        let sized : ◌≡◌ {A = Result Shape TokenFlaw} (Ok (k, length (w ++ x ∷ z))) (Ok (k, length w + 1 + length z)) = ap (λ (m : ℕ). Ok (k, m)) whole in
        let shaped : (rest : List ℕ) → named_shape ((w ++ x ∷ z) ++ rest) ≡ named_shape (w ++ x ∷ (z ++ rest)) = λ rest. ap (λ (cs : List ℕ). named_shape cs) (moved rest) in
        let name : name_len (w ++ x ∷ (z ++ old)) ≡ length w = sym (ap (λ (cs : List ℕ). name_len cs) (moved old)) ∙ len ∙ sym size in
        let again : C w z x = subst (C w z) (sym (eqb-true x open_round at)) (open_again w z old new k) in
        shaped new ∙ again keeps name (sym (shaped old) ∙ is ∙ sized) ∙ sym sized

-- an ident, a function or a url
pub named_again : (old new : List ℕ) (k : Option TokenKind) → (ends_itself k ≡ false → Alike old new) → (v : List ℕ) → KeepsString k v old new
    → named_shape (v ++ old) ≡ Ok (k, length v) → named_shape (v ++ new) ≡ Ok (k, length v)
named_again old new k alike v keeps is = which (begins open_round (drop (name_len (v ++ old)) (v ++ old))) refl is
  where
    which : (b : Bool) → begins open_round (drop (name_len (v ++ old)) (v ++ old)) ≡ b
        → cond b (opened_shape (take (name_len (v ++ old)) (v ++ old)) (name_len (v ++ old) + 1) (drop (name_len (v ++ old) + 1) (v ++ old))) (done kind.Ident (name_len (v ++ old))) ≡ Ok (k, length v)
        → named_shape (v ++ new) ≡ Ok (k, length v)
    which true opened shape =
        let m = name_len (v ++ old) in
        let longer = opened_len (take m (v ++ old)) (m + 1) (drop (m + 1) (v ++ old)) (k, length v) shape in
        function_again old new k m v (omega (arith, longer)) keeps refl opened is
    which false closed shape =
        let m = name_len (v ++ old) in
        let parts = shape_parts (Some kind.Ident) k m (length v) shape in
        let h = alike (ap ends_itself (sym parts.0)) in
        let behind : name_len (v ++ new) ≡ length v = name_len_again old new h v parts.1 in
        let ended : begins open_round old ≡ false = sym (ap (λ (cs : List ℕ). begins open_round cs) (drop_at v old m (sym parts.1))) ∙ closed in
        let ended' : begins open_round (drop (name_len (v ++ new)) (v ++ new)) ≡ false = ap (λ (cs : List ℕ). begins open_round cs) (drop_at v new (name_len (v ++ new)) (sym behind)) ∙ h.bracket ended in
        rw ended' (same_shape (Some kind.Ident) k (name_len (v ++ new)) (length v) parts.0 behind)
