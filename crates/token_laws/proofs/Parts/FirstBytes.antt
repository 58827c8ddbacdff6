-- What the first byte of a token tells of its kind.
use Rattle.std.proofs.Common.{ℕ, suc, ◌+◌, ◌<◌, ◌≡◌, ◌==◌, Bool, true, false, cond, ltb, List, [], ◌∷◌, ◌++◌, length, drop, take, Ok, Err, Option, Some, None, refl, sym, ap, ◌∙◌, subst, arith}
use Rattle.std.specs.Prelude.{◌&&◌}
use Rattle.std.specs.Char.{is_ascii_digit}
use Rattle.std.proofs.lemmas.Bool.{eqb-true, ltb-false, true≢false}
use Rattle.css_model.specs.declared.token.TokenKind.{TokenKind}
use Rattle.css_model.specs.declared.token.TokenKind.TheVariants as kind
use Rattle.css_model.specs.declared.token.TokenFlaw.{TokenFlaw}
use Rattle.css_model.specs.declared.token.TokenFlaw.TheVariants as flaw
use Rattle.css_model.specs.Text.Characters.{dash, slash, star, hash, is_white, is_sign, is_newline, less_than, greater_than, at_sign, percent, open_round, close_round, begins, first_passes, is_plus_or_minus}
use Rattle.css_model.specs.Text.Runs.{run}
use Rattle.css_model.specs.Text.Units.{white_unit, comment_unit, string_unit, name_unit, name_start, name_len, number_len, digit_unit, signed_decimal, url_unit}
use Rattle.css_model.specs.Text.TokenAt.{Shape, rule_at, part_at, slash_shape, comment_shape, string_shape, hash_shape, number_shape, less_shape, at_shape, url_shape, url_end, opened_shape, named_shape, word_at, symbol_at, done, is_quote, after_white}
use Rattle.css_model.specs.Text.Names.{is_url}
use Rattle.css_tokens.proofs.ForCallers.{Holds, part_len, part_rule, run_unit, branch}

-- a delim or a sign is its byte alone, an ident begins with no digit, and a hash with `#`
pub record Told (c : ℕ) (s : Shape) : Type 0 where
  pub delim : (d : ℕ) → s.0 ≡ Some (kind.Delim d) → (d ≡ c) × (s.1 ≡ 1)
  pub ident : s.0 ≡ Some kind.Ident → is_ascii_digit c ≡ false
  pub sign : (d : ℕ) → s.0 ≡ Some (kind.Sign d) → (d ≡ c) × (s.1 ≡ 1)
  pub id_hash : s.0 ≡ Some kind.IdHash → c ≡ hash

flawed : (c : ℕ) (f : TokenFlaw) → Holds (Told c) (Err f)
flawed c f = record { holds = tt }

-- the kinds of these
abbrev tells : Option TokenKind → Bool
tells None = false
tells (Some kind.Ident) = true
tells (Some kind.IdHash) = true
tells (Some (kind.Delim d)) = true
tells (Some (kind.Sign d)) = true
tells (Some k) = false

-- a kind that is none of these
other : (c : ℕ) (k : Option TokenKind) (n : ℕ) → tells k ≡ false → Holds (Told c) (Ok (k, n))
other c k n none = record {
  holds = record {
    delim = λ d is. absurd (true≢false (sym (ap tells is) ∙ none));
    ident = λ is. absurd (true≢false (sym (ap tells is) ∙ none));
    sign = λ d is. absurd (true≢false (sym (ap tells is) ∙ none));
    id_hash = λ is. absurd (true≢false (sym (ap tells is) ∙ none));
  };
}

single : (c d : ℕ) → d ≡ c → Holds (Told c) (Ok (Some (kind.Delim d), 1))
single c d same = record { holds = record { delim = λ e is. (let h : kind.Delim d ≡ kind.Delim e = cc in (sym (code (kind.Delim d) (kind.Delim e) h) ∙ same, refl)); ident = λ is. absurd cc; sign = λ e is. absurd cc; id_hash = λ is. absurd cc } }
  where
    code_of : TokenKind → ℕ
    code_of (kind.Delim d) = d
    code_of _ = 0

    code : (j k : TokenKind) → j ≡ k → code_of j ≡ code_of k
    code j k is = ap code_of is

sign-byte : (c d : ℕ) → ◌≡◌ {A = Option TokenKind} (Some (kind.Sign c)) (Some (kind.Sign d)) → d ≡ c
sign-byte c d is = sym (ap byte is)
  where
    byte : Option TokenKind → ℕ
    byte (Some (kind.Sign b)) = b
    byte k = 0

digit-number : (c : ℕ) (cs : List ℕ) → is_ascii_digit c ≡ true → 0 < signed_decimal (c ∷ cs)
digit-number c cs digit =
    let unit : digit_unit (c ∷ cs) ≡ 1 = rw digit refl in
    let more : run digit_unit (c ∷ cs) ≡ 1 + run digit_unit (drop 1 (c ∷ cs)) = run_unit digit_unit (c ∷ cs) 1 (omega arith) unit (omega arith) in
    let no_sign : is_plus_or_minus c ≡ false = grind (arith, digit) in
    rw no_sign (omega (arith, more))

not-digit : (c : ℕ) (cs : List ℕ) → ltb 0 (signed_decimal (c ∷ cs)) ≡ false → is_ascii_digit c ≡ false
not-digit c cs none = which (is_ascii_digit c) refl
  where
    which : (b : Bool) → is_ascii_digit c ≡ b → is_ascii_digit c ≡ false
    which false is = is
    which true is = absurd (let h = digit-number c cs is in let k = ltb-false 0 (signed_decimal (c ∷ cs)) none in omega (arith, h, k))

url-told : (c n : ℕ) (rest : List ℕ) → Holds (Told c) (url_end n rest)
url-told c n rest =
    branch (begins close_round rest) (done kind.Url (n + 1)) _ (λ _. other c (Some kind.Url) (n + 1) refl)
    (λ _. branch (length rest == 0) (Err flaw.EndInside) (Err flaw.BadUrl) (λ _. flawed c _) (λ _. flawed c _))

opened-told : (c : ℕ) (name : List ℕ) (n : ℕ) (rest : List ℕ) → Holds (Told c) (opened_shape name n rest)
opened-told c name n rest =
    let call : Holds (Told c) (done kind.Function n) = other c (Some kind.Function) n refl in
    let text = after_white rest in
    let inner = drop (run url_unit text) text in
    branch (is_url name) (cond (first_passes is_quote text) (done kind.Function n) (url_shape (n + run white_unit rest) text)) (done kind.Function n)
    (λ _. branch (first_passes is_quote text) (done kind.Function n) (url_shape (n + run white_unit rest) text) (λ _. call)
    (λ _. url-told c (n + run white_unit rest + run url_unit text + run white_unit inner) (after_white inner)))
    (λ _. call)

word-told : (c : ℕ) (cs : List ℕ) → is_ascii_digit c ≡ false → Holds (Told c) (word_at (c ∷ cs))
word-told c cs no_digit =
    let text = c ∷ cs in
    let n = name_len text in
    branch (c == dash && (begins dash cs && begins greater_than (drop 1 cs))) (done kind.CommentClose 3) _ (λ _. other c (Some kind.CommentClose) 3 refl)
    (λ _. branch (ltb 0 (name_start text)) (named_shape text) (done (cond (is_sign c) (kind.Sign c) (kind.Delim c)) 1)
    (λ _. branch (begins open_round (drop n text)) (opened_shape (take n text) (n + 1) (drop (n + 1) text)) (done kind.Ident n)
    (λ _. opened-told c (take n text) (n + 1) (drop (n + 1) text))
    (λ _. record { holds = record { delim = λ d is. absurd cc; ident = λ _. no_digit; sign = λ d is. absurd cc; id_hash = λ is. absurd cc } }))
    (λ _. sign-or (is_sign c)))
  where
    sign-or : (b : Bool) → Holds (Told c) (done (cond b (kind.Sign c) (kind.Delim c)) 1)
    sign-or true = record { holds = record { delim = λ d is. absurd cc; ident = λ is. absurd cc; sign = λ d is. (sign-byte c d is, refl); id_hash = λ is. absurd cc } }
    sign-or false = single c c refl

rule-told : (c : ℕ) (cs : List ℕ) → Holds (Told c) (rule_at (c ∷ cs))
rule-told c cs =
    let text = c ∷ cs in
    let rest = drop (number_len text) text in
    branch (c == slash) (slash_shape cs) _
    (λ is. branch (begins star cs) (comment_shape (drop 1 cs)) (done (kind.Delim slash) 1)
    (λ _. branch (begins star (drop (run comment_unit (drop 1 cs)) (drop 1 cs))) (Ok (None, 4 + run comment_unit (drop 1 cs))) (Err flaw.EndInside)
    (λ _. other c None _ refl) (λ _. flawed c _))
    (λ _. single c slash (sym (eqb-true c slash is))))
    (λ _. branch (is_white c) (done kind.White (run white_unit text)) _ (λ _. other c (Some kind.White) _ refl)
    (λ _. branch (is_quote c) (string_shape c cs) _
    (λ _. branch (begins c (drop (run (string_unit c) cs) cs)) (done kind.Str (2 + run (string_unit c) cs)) _ (λ _. other c (Some kind.Str) _ refl)
    (λ _. branch (first_passes is_newline (drop (run (string_unit c) cs) cs)) (Err flaw.BadString) (Err flaw.EndInside) (λ _. flawed c _) (λ _. flawed c _)))
    (λ _. branch (c == hash) (hash_shape cs) (symbol_at text)
    (λ is. branch (ltb 0 (name_unit cs)) (done (cond (ltb 0 (name_start cs)) kind.IdHash kind.Hash) (1 + name_len cs)) (done (kind.Delim hash) 1)
    (λ _. hash-kind (ltb 0 (name_start cs)) (1 + name_len cs) (eqb-true c hash is)) (λ _. single c hash (sym (eqb-true c hash is))))
    (λ _. branch (ltb 0 (signed_decimal text)) (number_shape (number_len text) rest) _
    (λ _. branch (ltb 0 (name_start rest)) (done kind.Dimension (number_len text + name_len rest)) _ (λ _. other c (Some kind.Dimension) _ refl)
    (λ _. branch (begins percent rest) (done kind.Percentage (number_len text + 1)) (done kind.Number (number_len text))
    (λ _. other c (Some kind.Percentage) _ refl) (λ _. other c (Some kind.Number) _ refl)))
    (λ none. branch (c == less_than) (less_shape cs) _
    (λ is. branch (begins 33 cs && (begins dash (drop 1 cs) && begins dash (drop 2 cs))) (done kind.CommentOpen 4) (done (kind.Delim less_than) 1)
    (λ _. other c (Some kind.CommentOpen) 4 refl) (λ _. single c less_than (sym (eqb-true c less_than is))))
    (λ _. branch (c == at_sign) (at_shape cs) (word_at text)
    (λ is. branch (ltb 0 (name_start cs)) (done kind.AtKeyword (1 + name_len cs)) (done (kind.Delim at_sign) 1)
    (λ _. other c (Some kind.AtKeyword) _ refl) (λ _. single c at_sign (sym (eqb-true c at_sign is))))
    (λ _. word-told c cs (not-digit c cs none))))))))
  where
    hash-kind : (b : Bool) (n : ℕ) → c ≡ hash → Holds (Told c) (done (cond b kind.IdHash kind.Hash) n)
    hash-kind true n same = record { holds = record { delim = λ d is. absurd cc; ident = λ is. absurd cc; sign = λ d is. absurd cc; id_hash = λ _. same } }
    hash-kind false n same = other c (Some kind.Hash) n refl

-- a delim has the byte that it is told by
pub delim-text : (v old : List ℕ) (d : ℕ) → part_at (v ++ old) ≡ Ok (Some (kind.Delim d), length v) → v ≡ d ∷ []
delim-text [] old d read = absurd (let len = part_len old (Some (kind.Delim d), 0) read in omega (arith, len.0))
delim-text (c ∷ cs) old d read =
    let rule = (part_rule (c ∷ cs ++ old) (Some (kind.Delim d), suc (length cs)) read).0 in
    let told = (subst (Holds (Told c)) rule (rule-told c (cs ++ old))).holds in
    alone cs (told.delim d refl).0 (told.delim d refl).1
  where
    alone : (cs : List ℕ) → d ≡ c → suc (length cs) ≡ 1 → c ∷ cs ≡ d ∷ []
    alone [] same one = ap (λ (b : ℕ). b ∷ []) (sym same)
    alone (e ∷ es) same one = absurd (omega (arith, one))

-- an ident begins with no digit
pub ident-no_digit : (v old : List ℕ) → part_at (v ++ old) ≡ Ok (Some kind.Ident, length v) → (rest : List ℕ) → digit_unit (v ++ rest) ≡ 0
ident-no_digit [] old read rest = absurd (let len = part_len old (Some kind.Ident, 0) read in omega (arith, len.0))
ident-no_digit (c ∷ cs) old read rest =
    let rule = (part_rule (c ∷ cs ++ old) (Some kind.Ident, suc (length cs)) read).0 in
    let told = (subst (Holds (Told c)) rule (rule-told c (cs ++ old))).holds in
    rw (told.ident refl) refl

-- so has a sign
pub sign-text : (v old : List ℕ) (d : ℕ) → part_at (v ++ old) ≡ Ok (Some (kind.Sign d), length v) → v ≡ d ∷ []
sign-text [] old d read = absurd (let len = part_len old (Some (kind.Sign d), 0) read in omega (arith, len.0))
sign-text (c ∷ cs) old d read =
    let rule = (part_rule (c ∷ cs ++ old) (Some (kind.Sign d), suc (length cs)) read).0 in
    let told = (subst (Holds (Told c)) rule (rule-told c (cs ++ old))).holds in
    alone cs (told.sign d refl).0 (told.sign d refl).1
  where
    alone : (cs : List ℕ) → d ≡ c → suc (length cs) ≡ 1 → c ∷ cs ≡ d ∷ []
    alone [] same one = ap (λ (b : ℕ). b ∷ []) (sym same)
    alone (e ∷ es) same one = absurd (omega (arith, one))

-- a hash whose name is an ident begins with `#`
pub hash-text : (v old : List ℕ) → part_at (v ++ old) ≡ Ok (Some kind.IdHash, length v) → begins hash v ≡ true
hash-text [] old read = absurd (let len = part_len old (Some kind.IdHash, 0) read in omega (arith, len.0))
hash-text (c ∷ cs) old read =
    let rule = (part_rule (c ∷ cs ++ old) (Some kind.IdHash, suc (length cs)) read).0 in
    let told = (subst (Holds (Told c)) rule (rule-told c (cs ++ old))).holds in
    ap (λ (b : ℕ). b == hash) (told.id_hash refl)
