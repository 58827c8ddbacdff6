-- The rules of tokens before another rest, one after another.
use Rattle.std.proofs.Common.{ℕ, suc, ◌+◌, ◌<◌, ◌≤◌, ◌≡◌, Bool, true, false, cond, ltb, ◌==◌, List, [], ◌∷◌, ◌++◌, Result, Option, Ok, Some, length, drop, refl, sym, ap, ◌∙◌, arith}
use Rattle.std.proofs.lemmas.Bool.{ltb-true, ltb-false, lt-ltb, le-ltb}
use Rattle.std.proofs.lemmas.List.{length-append}
use Rattle.css_model.specs.declared.token.TokenKind.{TokenKind}
use Rattle.css_model.specs.declared.token.TokenKind.TheVariants as kind
use Rattle.css_model.specs.declared.token.TokenFlaw.{TokenFlaw}
use Rattle.css_model.specs.Text.Characters.{star, slash, hash, less_than, at_sign, is_white, begins}
use Rattle.css_model.specs.Text.Runs.{run}
use Rattle.css_model.specs.Text.Units.{white_unit, signed_decimal, number_len}
use Rattle.css_model.specs.Text.TokenAt.{Shape, part_at, within, rule_at, symbol_at, word_at, slash_shape, comment_shape, string_shape, hash_shape, number_shape, less_shape, at_shape, done, is_quote}
use Rattle.token_laws.specs.Alike.{Alike, LooksAlike, PartsEndAlike, ends_itself, begins_bang_dashes}
use Rattle.token_laws.proofs.Ends.Runs.{run_fits}
use Rattle.token_laws.proofs.Ends.Units.{white_fits}
use Rattle.token_laws.proofs.Ends.Named.{hash_again, at_again}
use Rattle.token_laws.proofs.Ends.NumberRule.{number_read_again}
use Rattle.token_laws.proofs.Ends.Closed.{comment_again, comment_len, string_again}
use Rattle.css_tokens.proofs.ForCallers.{part_len, part_rule}
use Rattle.token_laws.proofs.Ends.Words.{other_at, word_again, number_none}
use Rattle.token_laws.proofs.Ends.Shapes.{chosen_again, tested_again, shape_parts, same_shape}

-- after `/`
slash_again : (old new : List ℕ) (k : Option TokenKind) → (k ≡ Some (kind.Delim slash) → begins star old ≡ false → begins star new ≡ false)
    → (cs : List ℕ) → slash_shape (cs ++ old) ≡ Ok (k, suc (length cs)) → slash_shape (cs ++ new) ≡ Ok (k, suc (length cs))
slash_again old new k looks [] =
    tested_again (begins star old) (begins star new) (comment_shape (drop 1 old)) (done (kind.Delim slash) 1) (comment_shape (drop 1 new)) (done (kind.Delim slash) 1) (Ok (k, 1))
    (λ _ is. absurd (omega (arith, comment_len (drop 1 old) k 1 is)))
    (λ none is. (looks (sym (shape_parts (Some (kind.Delim slash)) k 1 1 is).0) none, is))
slash_again old new k looks (d ∷ ds) =
    let sized : ◌≡◌ {A = Result Shape TokenFlaw} (Ok (k, 2 + length ds)) (Ok (k, suc (suc (length ds)))) = ap (λ (m : ℕ). Ok (k, m)) (omega arith) in
    chosen_again (d == star) (comment_shape (ds ++ old)) (done (kind.Delim slash) 1) (comment_shape (ds ++ new)) (done (kind.Delim slash) 1) (Ok (k, suc (suc (length ds))))
    (λ _ is. comment_again old new k ds (is ∙ sym sized) ∙ sized) (λ _ is. is)

white_again : (old new : List ℕ) (k : Option TokenKind) → (ends_itself k ≡ false → Alike old new) → (v : List ℕ) → done kind.White (run white_unit (v ++ old)) ≡ Ok (k, length v)
    → done kind.White (run white_unit (v ++ new)) ≡ Ok (k, length v)
white_again old new k alike v is =
    let parts = shape_parts (Some kind.White) k (run white_unit (v ++ old)) (length v) is in
    let h = alike (ap ends_itself (sym parts.0)) in
    let same = run_fits white_unit old new refl (white_fits old new h) v (omega (arith, parts.1)) in
    same_shape (Some kind.White) k (run white_unit (v ++ new)) (length v) parts.0 (same ∙ parts.1)

-- `<` and two or three bytes are no token
less_wrong : (n : ℕ) (rest rest' : List ℕ) (k : Option TokenKind) → 0 < n → n < 3 → less_shape rest ≡ Ok (k, suc n) → less_shape rest' ≡ Ok (k, suc n)
less_wrong n rest rest' k low high = which (begins_bang_dashes rest)
  where
    which : (b : Bool) → cond b (done kind.CommentOpen 4) (done (kind.Delim less_than) 1) ≡ Ok (k, suc n) → less_shape rest' ≡ Ok (k, suc n)
    which true is = let parts = shape_parts (Some kind.CommentOpen) k 4 (suc n) is in absurd (omega (arith, parts.1, high))
    which false is = let parts = shape_parts (Some (kind.Delim less_than)) k 1 (suc n) is in absurd (omega (arith, parts.1, low))

-- after `<`
less_again : (old new : List ℕ) (k : Option TokenKind) → (k ≡ Some (kind.Delim less_than) → begins_bang_dashes old ≡ false → begins_bang_dashes new ≡ false)
    → (cs : List ℕ) → less_shape (cs ++ old) ≡ Ok (k, suc (length cs)) → less_shape (cs ++ new) ≡ Ok (k, suc (length cs))
less_again old new k looks [] =
    tested_again (begins_bang_dashes old) (begins_bang_dashes new) (done kind.CommentOpen 4) (done (kind.Delim less_than) 1) (done kind.CommentOpen 4) (done (kind.Delim less_than) 1) (Ok (k, 1))
    (λ _ is. let parts = shape_parts (Some kind.CommentOpen) k 4 1 is in absurd (omega (arith, parts.1)))
    (λ none is. (looks (sym (shape_parts (Some (kind.Delim less_than)) k 1 1 is).0) none, is))
less_again old new k looks (c ∷ []) = less_wrong 1 (c ∷ old) (c ∷ new) k (omega arith) (omega arith)
less_again old new k looks (c ∷ d ∷ []) = less_wrong 2 (c ∷ d ∷ old) (c ∷ d ∷ new) k (omega arith) (omega arith)
less_again old new k looks (c ∷ d ∷ e ∷ es) = λ is. is

-- a text that begins with a number, `<` or `@`, or with none of these
symbol_again : (old new : List ℕ) (k : Option TokenKind) → (ends_itself k ≡ false → Alike old new) → (c : ℕ) (cs : List ℕ) → LooksAlike k (c ∷ cs) old new
    → symbol_at (c ∷ cs ++ old) ≡ Ok (k, suc (length cs)) → symbol_at (c ∷ cs ++ new) ≡ Ok (k, suc (length cs))
symbol_again old new k alike c cs looks =
    let text = c ∷ cs ++ old in
    let text' = c ∷ cs ++ new in
    let shape = number_shape (number_len text) (drop (number_len text) text) in
    let shape' = number_shape (number_len text') (drop (number_len text') text') in
    let all : Result Shape TokenFlaw = Ok (k, suc (length cs)) in
    tested_again (ltb 0 (signed_decimal text)) (ltb 0 (signed_decimal text')) shape (other_at c (cs ++ old)) shape' (other_at c (cs ++ new)) all
    (λ some is.
    let now = number_read_again old new k alike c cs looks.at_exponent (record { some = ltb-true 0 (signed_decimal text) some; is = is }) in
    (lt-ltb 0 (signed_decimal text') now.some, now.is)
    )
    (λ none is.
    let never = number_none old new k c cs looks is (omega (arith, ltb-false 0 (signed_decimal text) none)) in (
      le-ltb 0 (signed_decimal text') (omega (arith, never)),
      chosen_again (c == less_than) (less_shape (cs ++ old)) (cond (c == at_sign) (at_shape (cs ++ old)) (word_at text))
          (less_shape (cs ++ new)) (cond (c == at_sign) (at_shape (cs ++ new)) (word_at text')) all
          (λ _. less_again old new k looks.at_less_than cs)
          (λ _. chosen_again (c == at_sign) (at_shape (cs ++ old)) (word_at text) (at_shape (cs ++ new)) (word_at text') all
          (λ _. at_again old new k alike looks.at_at_sign cs) (λ _. word_again old new k alike c cs looks)) is,
    )
    )

rule_again : (old new : List ℕ) (k : Option TokenKind) → (ends_itself k ≡ false → Alike old new) → (c : ℕ) (cs : List ℕ) → LooksAlike k (c ∷ cs) old new
    → rule_at (c ∷ cs ++ old) ≡ Ok (k, suc (length cs)) → rule_at (c ∷ cs ++ new) ≡ Ok (k, suc (length cs))
rule_again old new k alike c cs looks =
    let text = c ∷ cs ++ old in
    let text' = c ∷ cs ++ new in
    let all : Result Shape TokenFlaw = Ok (k, suc (length cs)) in
    let white = done kind.White (run white_unit text) in
    let white' = done kind.White (run white_unit text') in
    let hashes = cond (c == hash) (hash_shape (cs ++ old)) (symbol_at text) in
    let hashes' = cond (c == hash) (hash_shape (cs ++ new)) (symbol_at text') in
    let strings = cond (is_quote c) (string_shape c (cs ++ old)) hashes in
    let strings' = cond (is_quote c) (string_shape c (cs ++ new)) hashes' in
    let sized : ◌≡◌ {A = Result Shape TokenFlaw} (Ok (k, 1 + length cs)) all = ap (λ (m : ℕ). Ok (k, m)) (omega arith) in
    chosen_again (c == slash) (slash_shape (cs ++ old)) (cond (is_white c) white strings) (slash_shape (cs ++ new)) (cond (is_white c) white' strings') all
    (λ _. slash_again old new k looks.at_slash cs)
    (λ _. chosen_again (is_white c) white strings white' strings' all (λ _. white_again old new k alike (c ∷ cs))
    (λ _. chosen_again (is_quote c) (string_shape c (cs ++ old)) hashes (string_shape c (cs ++ new)) hashes' all
    (λ quoted is. string_again old new k c quoted cs (is ∙ sym sized) ∙ sized)
    (λ _. chosen_again (c == hash) (hash_shape (cs ++ old)) (symbol_at text) (hash_shape (cs ++ new)) (symbol_at text') all
    (λ _. hash_again old new k alike looks.at_hash cs) (λ _. symbol_again old new k alike c cs looks))))

-- what a rule reads that fits is a part
pub rule_part : (text : List ℕ) (k : Option TokenKind) (n : ℕ) → rule_at text ≡ Ok (k, n) → n ≤ length text → part_at text ≡ Ok (k, n)
rule_part text k n is fits =
    let short : ltb (length text) n ≡ false = le-ltb (length text) n fits in
    ap (λ (r : Result Shape TokenFlaw). within text r) is ∙ rw short refl

pub part_again : PartsEndAlike
part_again [] old new k alike looks is = absurd (omega (arith, part_len old (k, 0) is))
part_again (c ∷ cs) old new k alike looks is =
    let rule = part_rule (c ∷ cs ++ old) (k, suc (length cs)) is in
    rule_part (c ∷ cs ++ new) k (suc (length cs)) (rule_again old new k alike c cs looks rule.0) (omega (arith, length-append (c ∷ cs) new))
