-- A token before a white space: it is the same, or takes the white space, where it ends in an open escape.
use Rattle.std.proofs.Common.{ℕ, suc, ◌≤◌, ◌≡◌, inl, Bool, true, false, cond, ltb, ◌==◌, ◌&&◌, List, [], ◌∷◌, ◌++◌, Some, Option, length, drop, refl, sym, ap, ◌∙◌, subst, arith, ◌⊎◌, inr}
use Rattle.std.proofs.lemmas.Bool.{eqb-true, ltb-false, false≢true}
use Rattle.css_model.specs.declared.token.TokenKind.{TokenKind}
use Rattle.css_model.specs.declared.token.TokenKind.TheVariants as kind
use Rattle.css_model.specs.Text.Characters.{space, backslash, dash, slash, hash, less_than, greater_than, at_sign, is_white, is_sign, begins}
use Rattle.css_model.specs.Text.Kept.{is_lone}
use Rattle.css_model.specs.Text.Lexemes.{is_white_kind}
use Rattle.css_model.specs.Text.Runs.{run}
use Rattle.css_model.specs.Text.Units.{white_unit, name_unit, name_start, signed_decimal, number_len}
use Rattle.css_model.specs.Text.TokenAt.{Shape, rule_at, done, is_quote, slash_shape, string_shape, hash_shape, number_shape, less_shape, at_shape, named_shape, word_at, symbol_at}
use Rattle.css_model.specs.Text.Kept.{is_open}
use Rattle.token_laws.proofs.Spaces.Numbers.{signed_decimal_pass}
use Rattle.token_laws.specs.Alike.{ends_itself}
use Rattle.token_laws.proofs.Spaces.LastBytes.{last_closed, done_len, itself_of, string_shut, IsShut}
use Rattle.token_laws.proofs.Spaces.Rules.{Nearly, Apart, slash_near, hash_near, at_near, number_near, number_least, less_near}
use Rattle.token_laws.proofs.Spaces.Names.{IdentNear, named_near}

-- what is read of a text by its first byte and the tests that look further
word_close : (c : ℕ) (cs : List ℕ) → (c == dash && (begins dash cs && begins greater_than (drop 1 cs))) ≡ true → word_at (c ∷ cs) ≡ done kind.CommentClose 3
word_close c cs close = rw close refl

word_named : (c : ℕ) (cs : List ℕ) → (c == dash && (begins dash cs && begins greater_than (drop 1 cs))) ≡ false → ltb 0 (name_start (c ∷ cs)) ≡ true
    → word_at (c ∷ cs) ≡ named_shape (c ∷ cs)
word_named c cs close starts = rw close (rw starts refl)

word_single : (c : ℕ) (cs : List ℕ) → (c == dash && (begins dash cs && begins greater_than (drop 1 cs))) ≡ false → ltb 0 (name_start (c ∷ cs)) ≡ false
    → word_at (c ∷ cs) ≡ done (cond (is_sign c) (kind.Sign c) (kind.Delim c)) 1
word_single c cs close starts = rw close (rw starts refl)

symbol_number : (c : ℕ) (cs : List ℕ) → ltb 0 (signed_decimal (c ∷ cs)) ≡ true → symbol_at (c ∷ cs) ≡ number_shape (number_len (c ∷ cs)) (drop (number_len (c ∷ cs)) (c ∷ cs))
symbol_number c cs number = rw number refl

symbol_less : (c : ℕ) (cs : List ℕ) → ltb 0 (signed_decimal (c ∷ cs)) ≡ false → (c == less_than) ≡ true → symbol_at (c ∷ cs) ≡ less_shape cs
symbol_less c cs number less = rw number (rw less refl)

symbol_keyword : (c : ℕ) (cs : List ℕ) → ltb 0 (signed_decimal (c ∷ cs)) ≡ false → (c == less_than) ≡ false → (c == at_sign) ≡ true → symbol_at (c ∷ cs) ≡ at_shape cs
symbol_keyword c cs number less sign = rw number (rw less (rw sign refl))

symbol_word : (c : ℕ) (cs : List ℕ) → ltb 0 (signed_decimal (c ∷ cs)) ≡ false → (c == less_than) ≡ false → (c == at_sign) ≡ false → symbol_at (c ∷ cs) ≡ word_at (c ∷ cs)
symbol_word c cs number less sign = rw number (rw less (rw sign refl))

rule_slash : (c : ℕ) (cs : List ℕ) → (c == slash) ≡ true → rule_at (c ∷ cs) ≡ slash_shape cs
rule_slash c cs first = rw first refl

rule_white : (c : ℕ) (cs : List ℕ) → (c == slash) ≡ false → is_white c ≡ true → rule_at (c ∷ cs) ≡ done kind.White (run white_unit (c ∷ cs))
rule_white c cs first white = rw first (rw white refl)

rule_string : (c : ℕ) (cs : List ℕ) → (c == slash) ≡ false → is_white c ≡ false → is_quote c ≡ true → rule_at (c ∷ cs) ≡ string_shape c cs
rule_string c cs first white quoted = rw first (rw white (rw quoted refl))

rule_hash : (c : ℕ) (cs : List ℕ) → (c == slash) ≡ false → is_white c ≡ false → is_quote c ≡ false → (c == hash) ≡ true → rule_at (c ∷ cs) ≡ hash_shape cs
rule_hash c cs first white quoted hashed = rw first (rw white (rw quoted (rw hashed refl)))

rule_symbol : (c : ℕ) (cs : List ℕ) → (c == slash) ≡ false → is_white c ≡ false → is_quote c ≡ false → (c == hash) ≡ false → rule_at (c ∷ cs) ≡ symbol_at (c ∷ cs)
rule_symbol c cs first white quoted hashed = rw first (rw white (rw quoted (rw hashed refl)))

white_kind : (k : TokenKind) (n m : ℕ) → done kind.White n ≡ done k m → is_white_kind k ≡ true
white_kind k n m is =
    let shapes : ◌≡◌ {A = Shape} (Some kind.White, n) (Some k, m) = cc in
    let kinds : ◌≡◌ {A = Option TokenKind} (Some kind.White) (Some k) = ap (λ (s : Shape). s.0) shapes in
    let same : kind.White ≡ k = cc in
    ap is_white_kind (sym same)

-- a backslash alone begins no name, and is a delimiter
lone_kind : (k : TokenKind) → done (cond (is_sign backslash) (kind.Sign backslash) (kind.Delim backslash)) 1 ≡ done k 1 → is_lone k ≡ true
lone_kind k is =
    let shapes : ◌≡◌ {A = Shape} (Some (kind.Delim backslash), 1) (Some k, 1) = cc in
    let kinds : ◌≡◌ {A = Option TokenKind} (Some (kind.Delim backslash)) (Some k) = ap (λ (s : Shape). s.0) shapes in
    let same : kind.Delim backslash ≡ k = cc in
    ap is_lone (sym same)

module _ (old more : List ℕ) (k : TokenKind) where
  abbrev new : List ℕ
  new = space ∷ more

  -- `-->` or not, as before
  close_same : (c : ℕ) (cs : List ℕ) → (c == dash && (begins dash (cs ++ old) && begins greater_than (drop 1 (cs ++ old)))) ≡ false
      → (c == dash && (begins dash (cs ++ new) && begins greater_than (drop 1 (cs ++ new)))) ≡ false
  close_same c [] is = which (c == dash)
    where
      which : (b : Bool) → (b && false) ≡ false
      which true = refl
      which false = refl
  close_same c (a ∷ []) is = which (c == dash) (a == dash)
    where
      which : (b d : Bool) → (b && (d && false)) ≡ false
      which true true = refl
      which true false = refl
      which false d = refl
  close_same c (a ∷ b ∷ cs) is = is

  close_shut : (c : ℕ) (cs : List ℕ) → (c == dash && (begins dash (cs ++ old) && begins greater_than (drop 1 (cs ++ old)))) ≡ true → done kind.CommentClose 3 ≡ done k (suc (length cs)) → IsShut k (c ∷ cs)
  close_shut c [] first is = absurd (let len = done_len kind.CommentClose k 3 1 is in omega (arith, len))
  close_shut c (a ∷ []) first is = absurd (let len = done_len kind.CommentClose k 3 2 is in omega (arith, len))
  close_shut c (a ∷ b ∷ []) first is =
      let last : b ≡ greater_than = eqb-true b greater_than (third (c == dash) (a == dash) (b == greater_than) first) in
      record {
        itself = itself_of kind.CommentClose k 3 3 is refl;
        closed = last_closed greater_than (c ∷ a ∷ b ∷ []) (record { no_digit = refl; no_backslash = refl }) (record { at = 2; is = ap (λ (b : ℕ). b ∷ []) last });
      }
    where
      third : (x y z : Bool) → (x && (y && z)) ≡ true → z ≡ true
      third true true z is = is
      third true false z is = absurd (false≢true is)
      third false y z is = absurd (false≢true is)
  close_shut c (a ∷ b ∷ d ∷ cs) first is = absurd (let len = done_len kind.CommentClose k 3 (suc (suc (suc (suc (length cs))))) is in omega (arith, len))

  -- a sign, or a code point by itself
  single_shut : (c : ℕ) (cs : List ℕ) → is_lone k ≡ false → done (cond (is_sign c) (kind.Sign c) (kind.Delim c)) 1 ≡ done k (suc (length cs)) → IsShut k (c ∷ cs)
  single_shut c (d ∷ ds) other is = absurd (let len = done_len (cond (is_sign c) (kind.Sign c) (kind.Delim c)) k 1 (suc (suc (length ds))) is in omega (arith, len))
  single_shut c [] other is = record { itself = itself_of (cond (is_sign c) (kind.Sign c) (kind.Delim c)) k 1 1 is (alone (is_sign c)); closed = which (c == backslash) refl }
    where
      alone : (b : Bool) → ends_itself (Some (cond b (kind.Sign c) (kind.Delim c))) ≡ true
      alone true = refl
      alone false = refl

      which : (b : Bool) → (c == backslash) ≡ b → is_open (c ∷ []) ≡ false
      which true slash = absurd (false≢true (sym other ∙ lone_kind k (rw (eqb-true c backslash slash) at is)))
      which false slash = rw slash refl

  word_near : (c : ℕ) (cs : List ℕ) → Apart (c ∷ cs) more → is_lone k ≡ false → word_at (c ∷ cs ++ old) ≡ done k (suc (length cs)) → Nearly k (c ∷ cs) (word_at (c ∷ cs ++ new))
  word_near c cs apart other is = which (c == dash && (begins dash (cs ++ old) && begins greater_than (drop 1 (cs ++ old)))) (ltb 0 (name_start (c ∷ cs ++ old))) refl refl
    where
      named : (c == dash && (begins dash (cs ++ old) && begins greater_than (drop 1 (cs ++ old)))) ≡ false → IdentNear old more k (c ∷ cs) ⊎ IsShut k (c ∷ cs) → Nearly k (c ∷ cs) (word_at (c ∷ cs ++ new))
      named close (inl ident) = inl (word_named c (cs ++ new) (close_same c cs close) ident.starts ∙ ident.near)
      named close (inr shut) = inr shut

      which : (b s : Bool) → (c == dash && (begins dash (cs ++ old) && begins greater_than (drop 1 (cs ++ old)))) ≡ b → ltb 0 (name_start (c ∷ cs ++ old)) ≡ s
          → Nearly k (c ∷ cs) (word_at (c ∷ cs ++ new))
      which true s close starts = inr (close_shut c cs close (sym (word_close c (cs ++ old) close) ∙ is))
      which false true close starts =
          let here : named_shape (c ∷ cs ++ old) ≡ done k (suc (length cs)) = sym (word_named c (cs ++ old) close starts) ∙ is in
          named close (named_near old more k (c ∷ cs) apart starts here)
      which false false close starts = inr (single_shut c cs other (sym (word_single c (cs ++ old) close starts) ∙ is))

  symbol_near : (c : ℕ) (cs : List ℕ) → Apart (c ∷ cs) more → is_lone k ≡ false → symbol_at (c ∷ cs ++ old) ≡ done k (suc (length cs)) → Nearly k (c ∷ cs) (symbol_at (c ∷ cs ++ new))
  symbol_near c cs apart other is = which (ltb 0 (signed_decimal (c ∷ cs ++ old))) (c == less_than) (c == at_sign) refl refl refl
    where
      same : signed_decimal (c ∷ cs ++ old) ≤ suc (length cs) → ltb 0 (signed_decimal (c ∷ cs ++ new)) ≡ ltb 0 (signed_decimal (c ∷ cs ++ old))
      same fits = ap (ltb 0) (signed_decimal_pass old more (c ∷ cs) fits).same

      which : (n l a : Bool) → ltb 0 (signed_decimal (c ∷ cs ++ old)) ≡ n → (c == less_than) ≡ l → (c == at_sign) ≡ a → Nearly k (c ∷ cs) (symbol_at (c ∷ cs ++ new))
      which true l a number less sign =
          let here : number_shape (number_len (c ∷ cs ++ old)) (drop (number_len (c ∷ cs ++ old)) (c ∷ cs ++ old)) ≡ done k (suc (length cs)) = sym (symbol_number c (cs ++ old) number) ∙ is in
          let least = number_least (number_len (c ∷ cs ++ old)) (drop (number_len (c ∷ cs ++ old)) (c ∷ cs ++ old)) k (suc (length cs)) here in
          let near = number_near old more k (c ∷ cs) apart.no_name here in
          subst (Nearly k (c ∷ cs)) (sym (symbol_number c (cs ++ new) (same (omega (arith, least)) ∙ number))) near
      which false true a number less sign =
          let none = ltb-false 0 (signed_decimal (c ∷ cs ++ old)) number in
          let here : less_shape (cs ++ old) ≡ done k (suc (length cs)) = sym (symbol_less c (cs ++ old) number less) ∙ is in
          let near = less_near old more k cs here in
          let N : ℕ → Type 0 = λ (c : ℕ). Nearly k (c ∷ cs) (less_shape (cs ++ new)) in
          subst (Nearly k (c ∷ cs)) (sym (symbol_less c (cs ++ new) (same (omega (arith, none)) ∙ number) less)) (subst N (sym (eqb-true c less_than less)) near)
      which false false true number less sign =
          let none = ltb-false 0 (signed_decimal (c ∷ cs ++ old)) number in
          let here : at_shape (cs ++ old) ≡ done k (suc (length cs)) = sym (symbol_keyword c (cs ++ old) number less sign) ∙ is in
          let is_sign : c ≡ at_sign = eqb-true c at_sign sign in
          let named : is_open cs ≡ true → name_unit more ≡ 0 = λ open_end. apart.no_name (rw is_sign open_end) in
          let near = at_near old more k cs named here in
          let N : ℕ → Type 0 = λ (c : ℕ). Nearly k (c ∷ cs) (at_shape (cs ++ new)) in
          subst (Nearly k (c ∷ cs)) (sym (symbol_keyword c (cs ++ new) (same (omega (arith, none)) ∙ number) less sign)) (subst N (sym is_sign) near)
      which false false false number less sign =
          let none = ltb-false 0 (signed_decimal (c ∷ cs ++ old)) number in
          let here : word_at (c ∷ cs ++ old) ≡ done k (suc (length cs)) = sym (symbol_word c (cs ++ old) number less sign) ∙ is in
          subst (Nearly k (c ∷ cs)) (sym (symbol_word c (cs ++ new) (same (omega (arith, none)) ∙ number) less sign)) (word_near c cs apart other here)

  pub rule_near : (c : ℕ) (cs : List ℕ) → Apart (c ∷ cs) more → is_lone k ≡ false → is_white_kind k ≡ false → rule_at (c ∷ cs ++ old) ≡ done k (suc (length cs))
      → Nearly k (c ∷ cs) (rule_at (c ∷ cs ++ new))
  rule_near c cs apart other solid is = which (c == slash) (is_white c) (is_quote c) (c == hash) refl refl refl refl
    where
      which : (s w q h : Bool) → (c == slash) ≡ s → is_white c ≡ w → is_quote c ≡ q → (c == hash) ≡ h → Nearly k (c ∷ cs) (rule_at (c ∷ cs ++ new))
      which true w q h first white quoted hashed =
          let here : slash_shape (cs ++ old) ≡ done k (suc (length cs)) = sym (rule_slash c (cs ++ old) first) ∙ is in
          let near = slash_near old more k cs here in
          let N : ℕ → Type 0 = λ (c : ℕ). Nearly k (c ∷ cs) (slash_shape (cs ++ new)) in
          subst (Nearly k (c ∷ cs)) (sym (rule_slash c (cs ++ new) first)) (subst N (sym (eqb-true c slash first)) near)
      which false true q h first white quoted hashed =
          absurd (false≢true (sym solid ∙ white_kind k (run white_unit (c ∷ cs ++ old)) (suc (length cs)) (sym (rule_white c (cs ++ old) first white) ∙ is)))
      which false false true h first white quoted hashed =
          let here : string_shape c (cs ++ old) ≡ done k (suc (length cs)) = sym (rule_string c (cs ++ old) first white quoted) ∙ is in
          inr (string_shut c cs old k quoted here)
      which false false false true first white quoted hashed =
          let here : hash_shape (cs ++ old) ≡ done k (suc (length cs)) = sym (rule_hash c (cs ++ old) first white quoted hashed) ∙ is in
          let is_hash : c ≡ hash = eqb-true c hash hashed in
          let named : is_open cs ≡ true → name_unit more ≡ 0 = λ open_end. apart.no_name (rw is_hash open_end) in
          let near = hash_near old more k cs named here in
          let N : ℕ → Type 0 = λ (c : ℕ). Nearly k (c ∷ cs) (hash_shape (cs ++ new)) in
          subst (Nearly k (c ∷ cs)) (sym (rule_hash c (cs ++ new) first white quoted hashed)) (subst N (sym is_hash) near)
      which false false false false first white quoted hashed =
          let here : symbol_at (c ∷ cs ++ old) ≡ done k (suc (length cs)) = sym (rule_symbol c (cs ++ old) first white quoted hashed) ∙ is in
          subst (Nearly k (c ∷ cs)) (sym (rule_symbol c (cs ++ new) first white quoted hashed)) (symbol_near c cs apart other here)
