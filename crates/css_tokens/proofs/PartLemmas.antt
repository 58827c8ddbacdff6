-- Every part has a byte, and lies in its text.
use Rattle.std.proofs.Common.{ℕ, ◌+◌, ◌<◌, ◌≤◌, ◌≡◌, Bool, true, false, cond, ltb, ◌==◌, List, [], ◌∷◌, Result, Ok, Err, Some, None, IfOk, subst, ap, length, drop, take, refl, arith}
use Rattle.std.proofs.lemmas.Bool.{ltb-true, ltb-false, eqb-true}
use Rattle.css_model.specs.declared.token.TokenKind.{TokenKind}
use Rattle.css_model.specs.declared.token.TokenFlaw.{TokenFlaw}
use Rattle.css_model.specs.declared.token.TokenFlaw.TheVariants as flaw
use Rattle.css_model.specs.declared.token.TokenKind.TheVariants as kind
use Rattle.css_model.specs.Text.Characters.{dash, backslash, slash, star, hash, is_start, is_white, is_sign, open_round, begins, first_passes}
use Rattle.css_model.specs.Text.Runs.{run}
use Rattle.css_model.specs.Text.Units.{white_unit, comment_unit, url_unit, name_unit, start_unit, name_start, name_len, number_len, signed_decimal, escape_after}
use Rattle.css_model.specs.Text.TokenAt.{Shape, rule_at, part_at, within, slash_shape, comment_shape, string_shape, hash_shape, number_shape, less_shape, at_shape, url_shape, url_end, opened_shape, named_shape, word_at, symbol_at, done, is_quote, after_white}
use Rattle.css_model.specs.Text.Names.{is_url}
use Rattle.css_tokens.proofs.RunLemmas.{run_unit}

-- what a rule reads, if it reads anything, has this property
pub record Holds (P : Shape → Type 0) (r : Result Shape TokenFlaw) : Type 0 where
  pub holds : IfOk r P

run_some : (unit : List ℕ → ℕ) (text : List ℕ) → 0 < length text → 0 < unit text → 0 < run unit text
run_some unit text some positive = omega (arith, run_unit unit text (unit text) some refl positive)

cond_positive : (b : Bool) (m n : ℕ) → 0 < m → 0 < n → 0 < cond b m n
cond_positive true m n left right = left
cond_positive false m n left right = right

pub white_some : (c : ℕ) (cs : List ℕ) → is_white c ≡ true → 0 < white_unit (c ∷ cs)
white_some c cs white = rw white (search (arith, cond_positive))

start_name : (c : ℕ) (cs : List ℕ) → 0 < start_unit (c ∷ cs) → 0 < name_unit (c ∷ cs)
start_name c cs = which (is_start c) refl
  where
    which : (b : Bool) → is_start c ≡ b → 0 < start_unit (c ∷ cs) → 0 < name_unit (c ∷ cs)
    which true start positive = rw start (omega arith)
    which false start positive =
        let escape : 0 < cond (c == backslash) (escape_after cs) 0 = rw start at positive in
        rw start (search (arith, cond_positive, escape))

name_some : (c : ℕ) (cs : List ℕ) → 0 < name_start (c ∷ cs) → 0 < name_len (c ∷ cs)
name_some c cs positive = run_some name_unit (c ∷ cs) (omega arith) (which (c == dash) refl)
  where
    which : (b : Bool) → (c == dash) ≡ b → 0 < name_unit (c ∷ cs)
    which true is = rw (eqb-true c dash is) (omega arith)
    which false is = start_name c cs (rw is at positive)

-- a property that each token of at least one byte has
module _ (P : Shape → Type 0) (token : (k : TokenKind) (n : ℕ) → 0 < n → P (Some k, n)) where
  some_token : (k : TokenKind) (n : ℕ) → 0 < n → Holds P (Ok (Some k, n))
  some_token k n positive = record { holds = token k n positive }

  pub no_shape : (f : TokenFlaw) → Holds P (Err f)
  no_shape f = record { holds = tt }

  pub either : (b : Bool) (x y : Result Shape TokenFlaw) → Holds P x → Holds P y → Holds P (cond b x y)
  either true x y left right = left
  either false x y left right = right

  -- the same where the test helps
  pub if_so : (b : Bool) (x y : Result Shape TokenFlaw) → (b ≡ true → Holds P x) → Holds P y → Holds P (cond b x y)
  if_so true x y left right = left refl
  if_so false x y left right = right

  url_end_some : (n : ℕ) (rest : List ℕ) → 0 < n → Holds P (url_end n rest)
  url_end_some n rest positive = search (arith, either, some_token, no_shape)

  url_some : (n : ℕ) (text : List ℕ) → 0 < n → Holds P (url_shape n text)
  url_some n text positive =
      let rest = drop (run url_unit text) text in
      url_end_some (n + run url_unit text + run white_unit rest) (after_white rest) (omega arith)

  opened_some : (name : List ℕ) (n : ℕ) (rest : List ℕ) → 0 < n → Holds P (opened_shape name n rest)
  opened_some name n rest positive =
      let ended = url_some (n + run white_unit rest) (after_white rest) (omega arith) in
      let called : Holds P (done kind.Function n) = some_token kind.Function n positive in
      either (is_url name) (cond (first_passes is_quote (after_white rest)) (done kind.Function n) (url_shape (n + run white_unit rest) (after_white rest)))
      (done kind.Function n) (either (first_passes is_quote (after_white rest)) (done kind.Function n) (url_shape (n + run white_unit rest) (after_white rest)) called ended) called

  named_some : (text : List ℕ) → 0 < name_len text → Holds P (named_shape text)
  named_some text positive =
      let n = name_len text in
      either (begins open_round (drop n text)) (opened_shape (take n text) (n + 1) (drop (n + 1) text)) (done kind.Ident n)
      (opened_some (take n text) (n + 1) (drop (n + 1) text) (omega arith)) (some_token kind.Ident n positive)

  word_some : (c : ℕ) (cs : List ℕ) → Holds P (word_at (c ∷ cs))
  word_some c cs =
      let name : ltb 0 (name_start (c ∷ cs)) ≡ true → Holds P (named_shape (c ∷ cs)) =
      λ starts. named_some (c ∷ cs) (name_some c cs (ltb-true 0 (name_start (c ∷ cs)) starts)) in
      let single : Holds P (done (cond (is_sign c) (kind.Sign c) (kind.Delim c)) 1) = some_token _ 1 (omega arith) in
      let close : Holds P (done kind.CommentClose 3) = some_token _ 3 (omega arith) in
      either _ (done kind.CommentClose 3) _ close
      (if_so (ltb 0 (name_start (c ∷ cs))) (named_shape (c ∷ cs)) (done (cond (is_sign c) (kind.Sign c) (kind.Delim c)) 1) name single)

  number_some : (n : ℕ) (rest : List ℕ) → 0 < n → Holds P (number_shape n rest)
  number_some n rest positive = search (arith, either, some_token)

  symbol_some : (c : ℕ) (cs : List ℕ) → Holds P (symbol_at (c ∷ cs))
  symbol_some c cs =
      let text = c ∷ cs in
      let number : ltb 0 (signed_decimal text) ≡ true → Holds P (number_shape (number_len text) (drop (number_len text) text)) =
      λ some. number_some (number_len text) (drop (number_len text) text) (omega (arith, ltb-true 0 (signed_decimal text) some)) in
      let less : Holds P (less_shape cs) = search (arith, either, some_token) in
      let at : Holds P (at_shape cs) = search (arith, either, some_token) in
      let word : Holds P (word_at text) = word_some c cs in
      search (arith, either, if_so, number, less, at, word)

  string_some : (q : ℕ) (cs : List ℕ) → Holds P (string_shape q cs)
  string_some q cs = search (arith, either, some_token, no_shape)

  hash_some : (cs : List ℕ) → Holds P (hash_shape cs)
  hash_some cs = search (arith, either, some_token)

  pub rule_holds : (c : ℕ) (cs : List ℕ) → (c == slash ≡ true → Holds P (slash_shape cs)) → Holds P (rule_at (c ∷ cs))
  rule_holds c cs slashes =
      let white : is_white c ≡ true → Holds P (done kind.White (run white_unit (c ∷ cs))) =
      λ is. some_token kind.White (run white_unit (c ∷ cs)) (run_some white_unit (c ∷ cs) (omega arith) (white_some c cs is)) in
      let strings : Holds P (string_shape c cs) = string_some c cs in
      let hashes : Holds P (hash_shape cs) = hash_some cs in
      let symbols : Holds P (symbol_at (c ∷ cs)) = symbol_some c cs in
      if_so (c == slash) (slash_shape cs) _ slashes
      (if_so (is_white c) (done kind.White (run white_unit (c ∷ cs))) _ white
      (either (is_quote c) (string_shape c cs) _ strings
      (either (c == hash) (hash_shape cs) (symbol_at (c ∷ cs)) hashes symbols)))

-- a shape has a byte
abbrev HasByte : Shape → Type 0
HasByte s = 0 < s.1

slash_byte : (cs : List ℕ) → Holds HasByte (slash_shape cs)
slash_byte cs =
    let token : (k : TokenKind) (n : ℕ) → 0 < n → HasByte (Some k, n) = λ (k : TokenKind) (n : ℕ) (positive : 0 < n). positive in
    let inner = drop 1 cs in
    let n = run comment_unit inner in
    let comment : Holds HasByte (Ok (None, 4 + n)) = record { holds = omega arith } in
    let cut : Holds HasByte (Err flaw.EndInside) = record { holds = tt } in
    let single : Holds HasByte (done (kind.Delim slash) 1) = record { holds = omega arith } in
    either HasByte token (begins star cs) (comment_shape inner) (done (kind.Delim slash) 1)
    (either HasByte token (begins star (drop n inner)) (Ok (None, 4 + n)) (Err flaw.EndInside) comment cut)
    single

rule_byte : (text : List ℕ) → Holds HasByte (rule_at text)
rule_byte [] = record { holds = tt }
rule_byte (c ∷ cs) =
    let token : (k : TokenKind) (n : ℕ) → 0 < n → HasByte (Some k, n) = λ (k : TokenKind) (n : ℕ) (positive : 0 < n). positive in
    rule_holds HasByte token c cs (λ _. slash_byte cs)

-- a shape that was read has a byte
pub rule_len : (text : List ℕ) (s : Shape) → rule_at text ≡ Ok s → 0 < s.1
rule_len text s is = let Read : Result Shape TokenFlaw → Type 0 = Holds HasByte in (subst Read is (rule_byte text)).holds

-- a part that was read is what the first rule gives, and is no longer than its text
within_ok : (text : List ℕ) (r : Result Shape TokenFlaw) (s : Shape) → within text r ≡ Ok s → (r ≡ Ok s) × (s.1 ≤ length text)
within_ok text (Err f) s is = absurd (cc)
within_ok text (Ok t) s is = which (ltb (length text) t.1) refl is
  where
    which : (b : Bool) → ltb (length text) t.1 ≡ b → cond b (Err flaw.EndInside) (Ok t) ≡ Ok s → (◌≡◌ {A = Result Shape TokenFlaw} (Ok t) (Ok s)) × (s.1 ≤ length text)
    which true longer is = absurd (cc)
    which false longer is =
        let same : t ≡ s = cc in
        let sizes : t.1 ≡ s.1 = ap (λ (s : Shape). s.1) same in
        (is, omega (arith, ltb-false (length text) t.1 longer, sizes))

pub part_rule : (text : List ℕ) (s : Shape) → part_at text ≡ Ok s → (rule_at text ≡ Ok s) × (s.1 ≤ length text)
part_rule text s is = within_ok text (rule_at text) s is

-- the same of its length
pub part_len : (text : List ℕ) (s : Shape) → part_at text ≡ Ok s → (0 < s.1) × (s.1 ≤ length text)
part_len text s is = let rule = part_rule text s is in (rule_len text s rule.0, rule.1)
