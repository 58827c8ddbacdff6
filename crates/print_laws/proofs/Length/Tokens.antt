-- What white space, a lone backslash and comments are read from, and what stands behind an open token.
use Rattle.std.proofs.Common.{ℕ, suc, ◌+◌, ◌<◌, ◌≤◌, ◌≡◌, Bool, true, false, cond, ltb, ◌==◌, List, [], ◌∷◌, ◌++◌, Option, Ok, Err, Some, None, length, drop, take, refl, sym, ap, ◌∙◌, subst, arith}
use Rattle.std.specs.Prelude.{⊤, ◌||◌, ◌&&◌}
use Rattle.std.specs.Char.{is_ascii_hexdigit}
use Rattle.std.specs.List.{flat_map}
use Rattle.std.proofs.lemmas.Bool.{eqb-true, false≢true, true≢false, ltb-false}
use Rattle.std.proofs.lemmas.List.{length-append}
use Rattle.css_model.specs.declared.token.TokenKind.{TokenKind}
use Rattle.css_model.specs.declared.token.TokenKind.TheVariants as kind
use Rattle.css_model.specs.declared.token.TokenFlaw.{TokenFlaw}
use Rattle.css_model.specs.Text.Characters.{dash, slash, star, hash, percent, less_than, greater_than, at_sign, backslash, open_round, close_round, is_white, is_newline, is_sign, begins, first_passes}
use Rattle.css_model.specs.Text.Kept.{is_lone, is_open}
use Rattle.css_model.specs.Text.Lexemes.{is_white_kind}
use Rattle.css_model.specs.Text.Runs.{run}
use Rattle.css_model.specs.Text.TokenAt.{Shape, rule_at, part_at, slash_shape, comment_shape, string_shape, hash_shape, number_shape, less_shape, at_shape, url_shape, url_end, opened_shape, named_shape, word_at, symbol_at, done, is_quote, after_white}
use Rattle.css_model.specs.Text.Units.{white_unit, comment_unit, url_unit, string_unit, escape_after, hex_rest, name_unit, name_start, name_len, number_len, signed_decimal}
use Rattle.css_model.specs.Text.Names.{is_url}
use Rattle.css_tokens.specs.Laws.{AreComments, comment_of}
use Rattle.token_laws.proofs.ForCallers.{alike_space, looks_byte, white_rule, space_closes, part_again, shape_parts}
use Rattle.css_tokens.proofs.ForCallers.{Holds, white_some, part_rule, branch}

-- what the kind of white space, and that of a backslash, tell of the text where they are read
abbrev Tells : ℕ → List ℕ → TokenKind → ℕ → Type 0
Tells c cs kind.White n = is_white c ≡ true
Tells c cs (kind.Delim b) n = (b == backslash) ≡ true → (n ≡ 1) × (name_start (c ∷ cs) ≡ 0) × (c ≡ b)
Tells c cs _ n = ⊤

abbrev KindTells : ℕ → List ℕ → Option TokenKind → ℕ → Type 0
KindTells c cs None n = ⊤
KindTells c cs (Some k) n = Tells c cs k n

abbrev ShapeTells : ℕ → List ℕ → Shape → Type 0
ShapeTells c cs s = KindTells c cs s.0 s.1

told : (c : ℕ) (cs : List ℕ) (k : TokenKind) (n : ℕ) → Tells c cs k n → Holds (ShapeTells c cs) (done k n)
told c cs k n tells = record { holds = tells }

wrong : (c : ℕ) (cs : List ℕ) (f : TokenFlaw) → Holds (ShapeTells c cs) (Err f)
wrong c cs f = record { holds = tt }

not_lone : {A : Type 0} → false ≡ true → A
not_lone is = absurd (false≢true is)

module _ (c : ℕ) (cs : List ℕ) where
  slash_tells : Holds (ShapeTells c cs) (slash_shape cs)
  slash_tells =
      branch (begins star cs) (comment_shape (drop 1 cs)) (done (kind.Delim slash) 1)
      (λ _. branch (begins star (drop (run comment_unit (drop 1 cs)) (drop 1 cs))) (Ok (None, 4 + run comment_unit (drop 1 cs))) (Err _) (λ _. record { holds = tt }) (λ _. wrong c cs _))
      (λ _. told c cs (kind.Delim slash) 1 (λ is. not_lone is))

  string_tells : (q : ℕ) → Holds (ShapeTells c cs) (string_shape q cs)
  string_tells q =
      let n = run (string_unit q) cs in
      branch (begins q (drop n cs)) (done kind.Str (2 + n)) _ (λ _. told c cs kind.Str (2 + n) tt)
      (λ _. branch (first_passes is_newline (drop n cs)) (Err _) (Err _) (λ _. wrong c cs _) (λ _. wrong c cs _))

  id_or_hash : (b : Bool) (n : ℕ) → Holds (ShapeTells c cs) (done (cond b kind.IdHash kind.Hash) n)
  id_or_hash true n = told c cs kind.IdHash n tt
  id_or_hash false n = told c cs kind.Hash n tt

  hash_tells : Holds (ShapeTells c cs) (hash_shape cs)
  hash_tells =
      branch (ltb 0 (name_unit cs)) (done (cond (ltb 0 (name_start cs)) kind.IdHash kind.Hash) (1 + name_len cs)) (done (kind.Delim hash) 1)
      (λ _. id_or_hash (ltb 0 (name_start cs)) (1 + name_len cs))
      (λ _. told c cs (kind.Delim hash) 1 (λ is. not_lone is))

  number_tells : (n : ℕ) (rest : List ℕ) → Holds (ShapeTells c cs) (number_shape n rest)
  number_tells n rest =
      branch (ltb 0 (name_start rest)) (done kind.Dimension (n + name_len rest)) _ (λ _. told c cs kind.Dimension (n + name_len rest) tt)
      (λ _. branch (begins percent rest) (done kind.Percentage (n + 1)) (done kind.Number n)
      (λ _. told c cs kind.Percentage (n + 1) tt) (λ _. told c cs kind.Number n tt))

  less_tells : Holds (ShapeTells c cs) (less_shape cs)
  less_tells =
      branch (begins 33 cs && (begins dash (drop 1 cs) && begins dash (drop 2 cs))) (done kind.CommentOpen 4) (done (kind.Delim less_than) 1)
      (λ _. told c cs kind.CommentOpen 4 tt) (λ _. told c cs (kind.Delim less_than) 1 (λ is. not_lone is))

  at_tells : Holds (ShapeTells c cs) (at_shape cs)
  at_tells =
      branch (ltb 0 (name_start cs)) (done kind.AtKeyword (1 + name_len cs)) (done (kind.Delim at_sign) 1)
      (λ _. told c cs kind.AtKeyword (1 + name_len cs) tt) (λ _. told c cs (kind.Delim at_sign) 1 (λ is. not_lone is))

  url_tells : (n : ℕ) (rest : List ℕ) → Holds (ShapeTells c cs) (url_end n rest)
  url_tells n rest =
      branch (begins close_round rest) (done kind.Url (n + 1)) _ (λ _. told c cs kind.Url (n + 1) tt)
      (λ _. branch (length rest == 0) (Err _) (Err _) (λ _. wrong c cs _) (λ _. wrong c cs _))

  opened_tells : (name : List ℕ) (n : ℕ) (rest : List ℕ) → Holds (ShapeTells c cs) (opened_shape name n rest)
  opened_tells name n rest =
      let inner = after_white rest in
      let m = n + run white_unit rest in
      let called : Holds (ShapeTells c cs) (done kind.Function n) = told c cs kind.Function n tt in
      let url : Holds (ShapeTells c cs) (url_shape m inner) = url_tells (m + run url_unit inner + run white_unit (drop (run url_unit inner) inner)) (after_white (drop (run url_unit inner) inner)) in
      branch (is_url name) (cond (first_passes is_quote inner) (done kind.Function n) (url_shape m inner)) (done kind.Function n)
      (λ _. branch (first_passes is_quote inner) (done kind.Function n) (url_shape m inner) (λ _. called) (λ _. url)) (λ _. called)

  named_tells : (text : List ℕ) → Holds (ShapeTells c cs) (named_shape text)
  named_tells text =
      let n = name_len text in
      branch (begins open_round (drop n text)) (opened_shape (take n text) (n + 1) (drop (n + 1) text)) (done kind.Ident n)
      (λ _. opened_tells (take n text) (n + 1) (drop (n + 1) text)) (λ _. told c cs kind.Ident n tt)

  sign_or_delim : (b : Bool) → name_start (c ∷ cs) ≡ 0 → Holds (ShapeTells c cs) (done (cond b (kind.Sign c) (kind.Delim c)) 1)
  sign_or_delim true none = told c cs (kind.Sign c) 1 tt
  sign_or_delim false none = told c cs (kind.Delim c) 1 (λ is. (refl, none, refl))

  word_tells : Holds (ShapeTells c cs) (word_at (c ∷ cs))
  word_tells =
      branch (c == dash && (begins dash cs && begins greater_than (drop 1 cs))) (done kind.CommentClose 3) _ (λ _. told c cs kind.CommentClose 3 tt)
      (λ _. branch (ltb 0 (name_start (c ∷ cs))) (named_shape (c ∷ cs)) (done (cond (is_sign c) (kind.Sign c) (kind.Delim c)) 1)
      (λ _. named_tells (c ∷ cs))
      (λ none. sign_or_delim (is_sign c) (let none = ltb-false 0 (name_start (c ∷ cs)) none in omega arith)))

  symbol_tells : Holds (ShapeTells c cs) (symbol_at (c ∷ cs))
  symbol_tells =
      let text = c ∷ cs in
      branch (ltb 0 (signed_decimal text)) (number_shape (number_len text) (drop (number_len text) text)) _ (λ _. number_tells (number_len text) (drop (number_len text) text))
      (λ _. branch (c == less_than) (less_shape cs) _ (λ _. less_tells)
      (λ _. branch (c == at_sign) (at_shape cs) (word_at text) (λ _. at_tells) (λ _. word_tells)))

  rule_tells : Holds (ShapeTells c cs) (rule_at (c ∷ cs))
  rule_tells =
      branch (c == slash) (slash_shape cs) _ (λ _. slash_tells)
      (λ _. branch (is_white c) (done kind.White (run white_unit (c ∷ cs))) _ (λ white. told c cs kind.White (run white_unit (c ∷ cs)) white)
      (λ _. branch (is_quote c) (string_shape c cs) _ (λ _. string_tells c)
      (λ _. branch (c == hash) (hash_shape cs) (symbol_at (c ∷ cs)) (λ _. hash_tells) (λ _. symbol_tells))))

part_tells : (c : ℕ) (cs : List ℕ) (k : TokenKind) (n : ℕ) → part_at (c ∷ cs) ≡ Ok (Some k, n) → Tells c cs k n
part_tells c cs k n is = (subst (Holds (ShapeTells c cs)) (part_rule (c ∷ cs) (Some k, n) is).0 (rule_tells c cs)).holds

-- white space is read where some begins
pub white_begins : (text : List ℕ) (k : TokenKind) (n : ℕ) → is_white_kind k ≡ true → part_at text ≡ Ok (Some k, n) → 0 < white_unit text
white_begins [] k n white is = absurd (cc)
white_begins (c ∷ cs) kind.White n white is = white_some c cs (part_tells c cs kind.White n is)
white_begins (c ∷ cs) _ n white is = absurd (false≢true white)

newline_none : (b h : Bool) (m : ℕ) → ◌≡◌ {A = ℕ} (cond b 0 (cond h (2 + m) 2)) 0 → b ≡ true
newline_none true h m none = refl
newline_none false true m none = absurd (omega (arith, none))
newline_none false false m none = absurd (omega (arith, none))

escape_none : (cs : List ℕ) → escape_after cs ≡ 0 → first_passes is_newline cs ≡ true
escape_none [] none = absurd (omega (arith, none))
escape_none (d ∷ ds) none = newline_none (is_newline d) (is_ascii_hexdigit d) (hex_rest 5 ds) none

-- a lone backslash is one byte before a newline
pub lone_newline : (text : List ℕ) (k : TokenKind) (n : ℕ) → is_lone k ≡ true → part_at text ≡ Ok (Some k, n) → (n ≡ 1) × (first_passes is_newline (drop 1 text) ≡ true)
lone_newline [] k n lone is = absurd (cc)
lone_newline (c ∷ cs) (kind.Delim b) n lone is =
    let tells = part_tells c cs (kind.Delim b) n is lone in
    let same : c ≡ backslash = tells.2 ∙ eqb-true b backslash lone in
    let none : name_start (backslash ∷ cs) ≡ 0 = ap (λ (d : ℕ). name_start (d ∷ cs)) (sym same) ∙ tells.1 in
    (tells.0, escape_none cs none)
lone_newline (c ∷ cs) _ n lone is = absurd (false≢true lone)

newline_is_white : (c : ℕ) → is_newline c ≡ true → is_white c ≡ true
newline_is_white c is = which (c == 32 || c == 9)
  where
    which : (b : Bool) → (b || is_newline c) ≡ true
    which true = refl
    which false = is

-- white space is read before a newline
pub newline_white : (text : List ℕ) (k : TokenKind) (n : ℕ) → first_passes is_newline text ≡ true → part_at text ≡ Ok (Some k, n) → is_white_kind k ≡ true
newline_white [] k n newline is = absurd (false≢true newline)
newline_white (c ∷ cs) k n newline is =
    let rule = white_rule cs c (newline_is_white c newline) in
    let parts = shape_parts (Some kind.White) (Some k) (run white_unit (c ∷ cs)) n (sym rule ∙ (part_rule (c ∷ cs) (Some k, n) is).0) in
    let same : kind.White ≡ k = let kinds = parts.0 in cc in
    ap is_white_kind (sym same)

-- comments begin with a slash, and are at least four bytes
pub comments_size : (text : List ℕ) → AreComments text → 0 < length text → (4 ≤ length text) × (begins slash text ≡ true)
comments_size text are some = which are.insides are.reads
  where
    which : (insides : List (List ℕ)) → text ≡ flat_map comment_of insides → (4 ≤ length text) × (begins slash text ≡ true)
    which [] reads = absurd (omega (arith, some, ap length reads))
    which (inside ∷ insides) reads =
        let long : length (comment_of inside) ≡ 2 + (length inside + 2) = let inner = length-append inside (star ∷ slash ∷ []) in omega (arith, inner) in
        let whole : length text ≡ length (comment_of inside) + length (flat_map comment_of insides) = ap length reads ∙ length-append (comment_of inside) (flat_map comment_of insides) in
        (omega (arith, long, whole), ap (begins slash) reads)

pub newline_no_slash : (text : List ℕ) → first_passes is_newline text ≡ true → begins slash text ≡ true → ⊥
newline_no_slash [] newline slashed = absurd (false≢true newline)
newline_no_slash (c ∷ cs) newline slashed = absurd (true≢false (sym newline ∙ ap is_newline (eqb-true c slash slashed)))

-- A token before white space is not open: it would have taken that.
pub white_closes : (v old : List ℕ) (k : TokenKind) → is_white_kind k ≡ false → is_lone k ≡ false → 0 < white_unit old → part_at (v ++ old) ≡ Ok (Some k, length v) → is_open v ≡ false
white_closes v old k solid other white is = which (is_open v) refl
  where
    not_delim : (k : TokenKind) → is_lone k ≡ false → Some k ≡ Some (kind.Delim backslash) → ⊥
    not_delim k other same = let kinds : k ≡ kind.Delim backslash = cc in absurd (false≢true (sym other ∙ ap is_lone kinds))

    which : (b : Bool) → is_open v ≡ b → is_open v ≡ false
    which false open_end = open_end
    which true open_end =
        let new : List ℕ = 32 ∷ 32 ∷ 34 ∷ [] in
        let takes = (space_closes v old (34 ∷ []) k (record { no_white = solid; no_lone = other; read = is }) open_end).0 in
        let looks = looks_byte (Some k) v old 32 (32 ∷ 34 ∷ []) refl (not_delim k other) (λ _ _ _ _ _. refl) in
        let stays : part_at (v ++ new) ≡ Ok (Some k, length v) = part_again v old new (Some k) (λ _. alike_space old (32 ∷ 34 ∷ []) white) looks is in
        let sizes = (shape_parts (Some k) (Some k) (suc (length v)) (length v) (sym takes ∙ stays)).1 in
        absurd (omega (arith, sizes))
