-- The tokens of the printed form of a step and an offset.
use Rattle.std.proofs.Common.{◌≡◌, ℕ, zero, suc, ◌+◌, ◌^◌, ◌<◌, ◌⊎◌, inl, inr, Bool, true, false, ◌&&◌, ◌||◌, ◌==◌, cond, List, [], ◌∷◌, ◌++◌, Ok, Some, length, drop, ℤ, pos, negsuc, refl, sym, ap, subst, ◌∙◌, arith, eqb-true, append_assoc, length-append}
use Rattle.std.specs.Prelude.{codes, decimal, unsigned_abs}
use Rattle.std.specs.Fmt.{signed_decimal as signed_text}
use Rattle.std.specs.Char.{is_ascii_digit}
use Rattle.std.specs.List.{list_all, list_any}
use Rattle.std.proofs.lemmas.List.{append-nil, drop_at}
use Rattle.css_model.specs.declared.token.TokenKind.{TokenKind}
use Rattle.css_model.specs.declared.token.TokenKind.TheVariants as kind
use Rattle.css_model.specs.Text.Characters.{backslash, dash, slash, hash, open_round, is_white, is_name, is_start, is_sign, is_plus_or_minus, begins}
use Rattle.css_model.specs.Text.Kept.{is_lone, is_open}
use Rattle.css_model.specs.Text.Lexemes.{is_white_kind}
use Rattle.css_model.specs.Positions.Notation.{AreDigits}
use Rattle.css_model.specs.Text.Runs.{run}
use Rattle.css_model.specs.Text.TokenAt.{part_at, rule_at, symbol_at, named_shape, number_shape, done, is_quote}
use Rattle.css_model.specs.Text.Tokens.{Part, text_of}
use Rattle.css_model.specs.Text.Units.{name_unit, digit_unit, name_len, number_len, signed_decimal, decimal as decimal_len, fraction, exponent, one_and}
use Rattle.token_laws.specs.Alike.{EndsAlike}
use Rattle.css_tokens.specs.Lexed.{IsLexed}
use Rattle.token_laws.proofs.ForCallers.{ends_sign}
use Rattle.token_laws.proofs.ForCallers.{is_plain}
use Rattle.token_laws.proofs.ForCallers.{rows_again}
use Rattle.css_tokens.proofs.ForCallers.{symbol_number}
use Rattle.token_laws.proofs.ForCallers.{rule_part}
use Rattle.nth_positions.proofs.ForCallers.{both_are}
use Rattle.css_model.specs.Positions.Printed.{is_number, size_text, step_text, offset_text, numbers_text, anb_text}
use Rattle.selector_text_laws.specs.Notation.Tokens.{is_word_kind, IsWord, StandsBeforeSigns, TextStands}
use Rattle.selector_text_laws.proofs.Notation.Shapes.{decimal_writes}

-- ---- rows of bytes

-- bytes of names
pub names_run : (w rest : List ℕ) → list_all is_name w ≡ true → run name_unit rest ≡ 0 → run name_unit (w ++ rest) ≡ length w
names_run [] rest all none = none
names_run (c ∷ cs) rest all none =
    let b = both_are (is_name c) (list_all is_name cs) all in
    let one : name_unit (c ∷ cs ++ rest) ≡ 1 = rw b.0 refl in
    let more : run name_unit (cs ++ rest) ≡ length cs = names_run cs rest b.1 none in
    rw one (ap suc more)

pub digits_run : (ds rest : List ℕ) → list_all is_ascii_digit ds ≡ true → run digit_unit rest ≡ 0 → run digit_unit (ds ++ rest) ≡ length ds
digits_run [] rest all none = none
digits_run (c ∷ cs) rest all none =
    let b = both_are (is_ascii_digit c) (list_all is_ascii_digit cs) all in
    let one : digit_unit (c ∷ cs ++ rest) ≡ 1 = rw b.0 refl in
    let more : run digit_unit (cs ++ rest) ≡ length cs = digits_run cs rest b.1 none in
    rw one (ap suc more)

middle : (a b c : Bool) → b ≡ true → ((a || b) || c) ≡ true
middle true b c e = refl
middle false true c e = refl
middle false false c e = absurd (cc)

digits_names : (ds : List ℕ) → list_all is_ascii_digit ds ≡ true → list_all is_name ds ≡ true
digits_names [] all = refl
digits_names (c ∷ cs) all =
    let b = both_are (is_ascii_digit c) (list_all is_ascii_digit cs) all in
    let one : is_name c ≡ true = middle (is_start c) (is_ascii_digit c) (c == dash) b.0 in
    ap (λ b. b && list_all is_name cs) one ∙ digits_names cs b.1

-- names have no backslash
not_backslash : (c : ℕ) (b : Bool) → is_name c ≡ true → (c == backslash) ≡ b → b ≡ false
not_backslash c false name e = refl
not_backslash c true name e = absurd (let f : is_name backslash ≡ true = subst (λ (c : ℕ). is_name c ≡ true) (eqb-true c backslash e) name in cc)

names_plain : (w : List ℕ) → list_all is_name w ≡ true → list_any (λ c. c == backslash) w ≡ false
names_plain [] all = refl
names_plain (c ∷ cs) all =
    let b = both_are (is_name c) (list_all is_name cs) all in
    ap (λ b. b || list_any (λ c. c == backslash) cs) (not_backslash c (c == backslash) b.0 refl) ∙ names_plain cs b.1

-- where there is no backslash, no escape is open
pub plain_shut : (w : List ℕ) → list_any (λ c. c == backslash) w ≡ false → is_open w ≡ false
plain_shut [] none = refl
plain_shut (c ∷ cs) none = which (c == backslash) refl none (plain_shut cs)
  where
    which : (b : Bool) → (c == backslash) ≡ b → (b || list_any (λ c. c == backslash) cs) ≡ false → (list_any (λ c. c == backslash) cs ≡ false → is_open cs ≡ false) → is_open (c ∷ cs) ≡ false
    which true e h later = absurd (cc)
    which false e h later = rw e (later h)

-- ---- a name

named_read : (c : ℕ) (w rest : List ℕ) → rule_at (c ∷ w ++ rest) ≡ named_shape (c ∷ w ++ rest) → list_all is_name (c ∷ w) ≡ true → run name_unit rest ≡ 0 → begins open_round rest ≡ false
    → part_at (c ∷ w ++ rest) ≡ Ok (Some kind.Ident, suc (length w))
named_read c w rest rule all none unopened =
    let len : name_len (c ∷ w ++ rest) ≡ suc (length w) = names_run (c ∷ w) rest all none in
    let behind : drop (name_len (c ∷ w ++ rest)) (c ∷ w ++ rest) ≡ rest = drop_at (c ∷ w) rest (name_len (c ∷ w ++ rest)) (sym len) in
    let unbracketed : begins open_round (drop (name_len (c ∷ w ++ rest)) (c ∷ w ++ rest)) ≡ false = ap (λ (cs : List ℕ). begins open_round cs) behind ∙ unopened in
    let shape : named_shape (c ∷ w ++ rest) ≡ done kind.Ident (name_len (c ∷ w ++ rest)) = rw unbracketed refl in
    let sized : done kind.Ident (name_len (c ∷ w ++ rest)) ≡ done kind.Ident (suc (length w)) = ap (λ (n : ℕ). done kind.Ident n) len in
    rule_part (c ∷ w ++ rest) (Some kind.Ident) (suc (length w)) (rule ∙ shape ∙ sized) (omega (arith, length-append w rest))

-- ---- a number

pub pick : {A : Type 0} (s w q h : Bool) (a b d e f : A) → s ≡ false → w ≡ false → q ≡ false → h ≡ false → cond s a (cond w b (cond q d (cond h e f))) ≡ f
pick false false false false a b d e f i j k l = refl
pick true w q h a b d e f i j k l = absurd (cc)
pick false true q h a b d e f i j k l = absurd (cc)
pick false false true h a b d e f i j k l = absurd (cc)
pick false false false true a b d e f i j k l = absurd (cc)

-- what ends a number
pub record EndsNumber (rest : List ℕ) : Type 0 where
  pub no_digit : run digit_unit rest ≡ 0
  pub no_fraction : fraction rest ≡ 0
  pub no_exponent : exponent rest ≡ 0

digits_decimal : (ds rest : List ℕ) → list_all is_ascii_digit ds ≡ true → EndsNumber rest → decimal_len (ds ++ rest) ≡ length ds
digits_decimal ds rest all ends =
    let n : run digit_unit (ds ++ rest) ≡ length ds = digits_run ds rest all ends.no_digit in
    let behind : drop (run digit_unit (ds ++ rest)) (ds ++ rest) ≡ rest = drop_at ds rest (run digit_unit (ds ++ rest)) (sym n) in
    let f : fraction (drop (run digit_unit (ds ++ rest)) (ds ++ rest)) ≡ 0 = ap (λ (cs : List ℕ). fraction cs) behind ∙ ends.no_fraction in
    omega (arith, n, f)

-- a sign or none, and digits
number_at : (c : ℕ) (cs rest : List ℕ) → rule_at (c ∷ cs ++ rest) ≡ symbol_at (c ∷ cs ++ rest) → signed_decimal (c ∷ cs ++ rest) ≡ suc (length cs) → EndsNumber rest
    → rule_at (c ∷ cs ++ rest) ≡ number_shape (suc (length cs)) rest
number_at c cs rest rule len ends =
    let text = c ∷ cs ++ rest in
    let behind : drop (signed_decimal text) text ≡ rest = drop_at (c ∷ cs) rest (signed_decimal text) (sym len) in
    let more : exponent (drop (signed_decimal text) text) ≡ 0 = ap (λ (cs : List ℕ). exponent cs) behind ∙ ends.no_exponent in
    let n : number_len text ≡ suc (length cs) = omega (arith, len, more) in
    let left : drop (number_len text) text ≡ rest = drop_at (c ∷ cs) rest (number_len text) (sym n) in
    rule ∙ symbol_number text (omega arith) (omega (arith, len)) ∙ ap (λ (m : ℕ). number_shape m (drop (number_len text) text)) n ∙ ap (λ (t : List ℕ). number_shape (suc (length cs)) t) left

record IsDigitByte (c : ℕ) : Type 0 where
  no_slash : (c == slash) ≡ false
  no_white : is_white c ≡ false
  no_quote : is_quote c ≡ false
  no_hash : (c == hash) ≡ false
  no_sign : is_plus_or_minus c ≡ false

digit_byte : (c : ℕ) → is_ascii_digit c ≡ true → IsDigitByte c
digit_byte c digit = record {
  no_slash = grind (arith, digit);
  no_white = grind (arith, digit);
  no_quote = grind (arith, digit);
  no_hash = grind (arith, digit);
  no_sign = grind (arith, digit);
}

unsigned_rule : (ds rest : List ℕ) → AreDigits ds → EndsNumber rest → rule_at (ds ++ rest) ≡ number_shape (length ds) rest
unsigned_rule [] rest d ends = absurd (let l : 0 < length {A = ℕ} [] = d.some in omega arith)
unsigned_rule (c ∷ cs) rest d ends =
    let b = both_are (is_ascii_digit c) (list_all is_ascii_digit cs) d.each in
    let is = digit_byte c b.0 in
    let rule : rule_at (c ∷ cs ++ rest) ≡ symbol_at (c ∷ cs ++ rest) = pick (c == slash) (is_white c) (is_quote c) (c == hash) _ _ _ _ (symbol_at (c ∷ cs ++ rest)) is.no_slash is.no_white is.no_quote is.no_hash in
    let same : signed_decimal (c ∷ cs ++ rest) ≡ decimal_len (c ∷ cs ++ rest) = rw is.no_sign refl in
    let len : decimal_len (c ∷ cs ++ rest) ≡ suc (length cs) = digits_decimal (c ∷ cs) rest d.each ends in
    number_at c cs rest rule (same ∙ len) ends

one_and_of : (m n : ℕ) → m ≡ n → 0 < n → one_and m ≡ suc n
one_and_of m zero e some = absurd (omega (arith, some))
one_and_of m (suc n) e some = rw e (omega arith)

signed_rule : (c : ℕ) (ds rest : List ℕ) → (c ≡ 43) ⊎ (c ≡ 45) → AreDigits ds → EndsNumber rest → rule_at (c ∷ ds ++ rest) ≡ number_shape (suc (length ds)) rest
signed_rule c ds rest (inl e) d ends = subst (λ (b : ℕ). rule_at (b ∷ ds ++ rest) ≡ number_shape (suc (length ds)) rest) (sym e)
    (number_at 43 ds rest refl (one_and_of (decimal_len (ds ++ rest)) (length ds) (digits_decimal ds rest d.each ends) d.some) ends)
signed_rule c ds rest (inr e) d ends = subst (λ (b : ℕ). rule_at (b ∷ ds ++ rest) ≡ number_shape (suc (length ds)) rest) (sym e)
    (number_at 45 ds rest refl (one_and_of (decimal_len (ds ++ rest)) (length ds) (digits_decimal ds rest d.each ends) d.some) ends)

-- ---- tokens

-- a token that is read before this rest, and that may be the last one
record IsToken (k : TokenKind) (v rest : List ℕ) : Type 0 where
  kinds : is_word_kind (Some k) ≡ true
  plain : list_any (λ c. c == backslash) v ≡ false
  read : part_at (v ++ rest) ≡ Ok (Some k, length v)

word_no_white : (k : TokenKind) → is_word_kind (Some k) ≡ true → (is_white_kind k ≡ false) × (is_lone k ≡ false) × (is_plain (Some k) ≡ true)
word_no_white kind.Ident e = (refl, refl, refl)
word_no_white kind.Number e = (refl, refl, refl)
word_no_white kind.Dimension e = (refl, refl, refl)
word_no_white _ e = absurd (cc)

token_word : (k : TokenKind) (v rest : List ℕ) → IsToken k v rest → IsWord (record { kind = Some k; bytes = v })
token_word k v rest is =
    let no = word_no_white k is.kinds in
    record { kinds = is.kinds; plain = is.plain; shut = plain_shut v is.plain }

-- before a sign but `(`
before_sign : (ps : List Part) (k : TokenKind) (v : List ℕ) → is_plain (Some k) ≡ true → IsLexed (ps ++ record { kind = Some k; bytes = v } ∷ [])
    → (rest : List Part) (c : ℕ) (cs : List ℕ) → IsLexed rest → text_of rest ≡ c ∷ cs → is_sign c ≡ true → (c == open_round) ≡ false → IsLexed (ps ++ record { kind = Some k; bytes = v } ∷ rest)
before_sign ps k v plain alone rest c cs lexed begins sign closer =
    let p : Part = record { kind = Some k; bytes = v } in
    rows_again ps p [] rest alone lexed (subst (λ (t : List ℕ). EndsAlike p [] t) (sym begins) (ends_sign p [] c cs plain sign closer))

one_token : (k : TokenKind) (v text : List ℕ) → v ≡ text → IsToken k v [] → StandsBeforeSigns text
one_token k v text same is =
    let p : Part = record { kind = Some k; bytes = v } in
    record {
      parts = p ∷ [];
      spells = append-nil v ∙ same;
      words = (token_word k v [] is, tt);
      alone = (is.read, tt);
      before = before_sign [] k v (word_no_white k is.kinds).2 (is.read, tt);
    }

two_tokens : (k j : TokenKind) (v w text : List ℕ) → v ++ w ≡ text → IsToken k v (w ++ []) → IsToken j w [] → StandsBeforeSigns text
two_tokens k j v w text same first second =
    let p : Part = record { kind = Some k; bytes = v } in
    let q : Part = record { kind = Some j; bytes = w } in
    record {
      parts = p ∷ q ∷ [];
      spells = ap (λ (t : List ℕ). v ++ t) (append-nil w) ∙ same;
      words = (token_word k v (w ++ []) first, (token_word j w [] second, tt));
      alone = (first.read, (second.read, tt));
      before = before_sign (p ∷ []) j w (word_no_white j second.kinds).2 (first.read, (second.read, tt));
    }

name_token : (c : ℕ) (w rest : List ℕ) → rule_at (c ∷ w ++ rest) ≡ named_shape (c ∷ w ++ rest) → list_all is_name (c ∷ w) ≡ true → run name_unit rest ≡ 0 → begins open_round rest ≡ false
    → IsToken kind.Ident (c ∷ w) rest
name_token c w rest rule all none unopened = record { kinds = refl; plain = names_plain (c ∷ w) all; read = named_read c w rest rule all none unopened }

digits_plain : (ds : List ℕ) → list_all is_ascii_digit ds ≡ true → list_any (λ c. c == backslash) ds ≡ false
digits_plain ds all = names_plain ds (digits_names ds all)

any_append : (u w : List ℕ) → list_any (λ c. c == backslash) u ≡ false → list_any (λ c. c == backslash) w ≡ false → list_any (λ c. c == backslash) (u ++ w) ≡ false
any_append [] w e f = f
any_append (c ∷ cs) w e f = which (c == backslash) e (λ h. any_append cs w h f)
  where
    which : (b : Bool) → (b || list_any (λ c. c == backslash) cs) ≡ false → (list_any (λ c. c == backslash) cs ≡ false → list_any (λ c. c == backslash) (cs ++ w) ≡ false)
        → (b || list_any (λ c. c == backslash) (cs ++ w)) ≡ false
    which true h later = absurd (cc)
    which false h later = later h

nothing_ends : EndsNumber []
nothing_ends = record { no_digit = refl; no_fraction = refl; no_exponent = refl }

-- a number by itself
number_token : (v : List ℕ) → rule_at (v ++ []) ≡ number_shape (length v) [] → list_any (λ c. c == backslash) v ≡ false → IsToken kind.Number v []
number_token v rule plain = record { kinds = refl; plain = plain; read = rule_part (v ++ []) (Some kind.Number) (length v) rule (omega (arith, length-append v [])) }

-- a number and a name behind it
dimension_token : (v w rest : List ℕ) → rule_at (v ++ (110 ∷ w ++ rest)) ≡ number_shape (length v) (110 ∷ w ++ rest) → list_any (λ c. c == backslash) v ≡ false → list_all is_name w ≡ true
    → run name_unit rest ≡ 0 → IsToken kind.Dimension (v ++ 110 ∷ w) rest
dimension_token v w rest rule plain all none =
    let len : name_len (110 ∷ w ++ rest) ≡ suc (length w) = names_run (110 ∷ w) rest all none in
    let sized : length v + name_len (110 ∷ w ++ rest) ≡ length (v ++ 110 ∷ w) = omega (arith, len, length-append v (110 ∷ w)) in
    let moved : (v ++ 110 ∷ w) ++ rest ≡ v ++ (110 ∷ w ++ rest) = append_assoc v (110 ∷ w) rest in
    record {
      kinds = refl;
      plain = any_append v (110 ∷ w) plain (names_plain (110 ∷ w) all);
      read = rule_part ((v ++ 110 ∷ w) ++ rest) (Some kind.Dimension) (length (v ++ 110 ∷ w))
          (ap rule_at moved ∙ rule ∙ ap (λ (n : ℕ). done kind.Dimension n) sized) (omega (arith, length-append (v ++ 110 ∷ w) rest));
    }

-- what may stand before a number that is a step's
name_ends : (w rest : List ℕ) → EndsNumber (110 ∷ w ++ rest)
name_ends w rest = record { no_digit = refl; no_fraction = refl; no_exponent = refl }

-- ---- the step's token

-- a step and what of the offset belongs to its token
step_token : (a : ℤ) (w rest : List ℕ) → unsigned_abs a < 2 ^ 63 → list_all is_name w ≡ true → run name_unit rest ≡ 0 → begins open_round rest ≡ false
    → (k : TokenKind) × IsToken k (step_text a ++ 110 ∷ w) rest
step_token (pos n) w rest small all none unopened = which (n == 1) refl
  where
    T : List ℕ → Type 0
    T t = (k : TokenKind) × IsToken k (t ++ 110 ∷ w) rest

    which : (b : Bool) → (n == 1) ≡ b → T (size_text n)
    which true e = subst T (sym (ap (λ b. cond b [] (decimal n)) e)) (kind.Ident, name_token 110 w rest refl all none unopened)
    which false e = subst T (sym (ap (λ b. cond b [] (decimal n)) e)) (let d = (decimal_writes n (omega (arith, small))).digits in
        (kind.Dimension, dimension_token (decimal n) w rest (unsigned_rule (decimal n) (110 ∷ w ++ rest) d (name_ends w rest)) (digits_plain (decimal n) d.each) all none))
step_token (negsuc n) w rest small all none unopened = which (suc n == 1) refl
  where
    T : List ℕ → Type 0
    T t = (k : TokenKind) × IsToken k (45 ∷ t ++ 110 ∷ w) rest

    which : (b : Bool) → (suc n == 1) ≡ b → T (size_text (suc n))
    which true e = subst T (sym (ap (λ b. cond b [] (decimal (suc n))) e)) (kind.Ident, name_token 45 (110 ∷ w) rest refl all none unopened)
    which false e = subst T (sym (ap (λ b. cond b [] (decimal (suc n))) e)) (let d = (decimal_writes (suc n) (omega (arith, small))).digits in
        (kind.Dimension, dimension_token (45 ∷ decimal (suc n)) w rest (signed_rule 45 (decimal (suc n)) (110 ∷ w ++ rest) (inr refl) d (name_ends w rest)) (digits_plain (decimal (suc n)) d.each) all none))

-- an offset alone
alone_stands : (b : ℤ) → unsigned_abs b < 2 ^ 63 → StandsBeforeSigns (signed_text b)
alone_stands (pos n) small =
    let d = (decimal_writes n (omega (arith, small))).digits in
    one_token kind.Number (decimal n) (decimal n) refl (number_token (decimal n) (unsigned_rule (decimal n) [] d nothing_ends) (digits_plain (decimal n) d.each))
alone_stands (negsuc n) small =
    let d = (decimal_writes (suc n) (omega (arith, small))).digits in
    one_token kind.Number (45 ∷ decimal (suc n)) (45 ∷ decimal (suc n)) refl
    (number_token (45 ∷ decimal (suc n)) (signed_rule 45 (decimal (suc n)) [] (inr refl) d nothing_ends) (digits_plain (decimal (suc n)) d.each))

-- a step and its offset
step_stands : (a b : ℤ) → unsigned_abs a < 2 ^ 63 → unsigned_abs b < 2 ^ 63 → StandsBeforeSigns (step_text a ++ (110 ∷ offset_text b))
step_stands a (pos n) small few = which (n == 0) refl
  where
    S : List ℕ → Type 0
    S t = StandsBeforeSigns (step_text a ++ (110 ∷ t))

    which : (c : Bool) → (n == 0) ≡ c → S (offset_text (pos n))
    which true e = subst S (sym (ap (λ b. cond b [] (43 ∷ decimal n)) e)) (let t = step_token a [] [] small refl refl refl in one_token t.0 (step_text a ++ 110 ∷ []) (step_text a ++ (110 ∷ [])) refl t.1)
    which false e = subst S (sym (ap (λ b. cond b [] (43 ∷ decimal n)) e)) (
        let d = (decimal_writes n (omega (arith, few))).digits in
        let t = step_token a [] (43 ∷ decimal n ++ []) small refl refl refl in
        two_tokens t.0 kind.Number (step_text a ++ 110 ∷ []) (43 ∷ decimal n) (step_text a ++ (110 ∷ (43 ∷ decimal n))) (append_assoc (step_text a) (110 ∷ []) (43 ∷ decimal n)) t.1
        (number_token (43 ∷ decimal n) (signed_rule 43 (decimal n) [] (inl refl) d nothing_ends) (digits_plain (decimal n) d.each)))
step_stands a (negsuc n) small few =
    let d = (decimal_writes (suc n) (omega (arith, few))).digits in
    let t = step_token a (45 ∷ decimal (suc n)) [] small (digits_names (decimal (suc n)) d.each) refl refl in
    one_token t.0 (step_text a ++ 110 ∷ 45 ∷ decimal (suc n)) (step_text a ++ (110 ∷ (45 ∷ decimal (suc n)))) refl t.1

pub text_stands : TextStands
text_stands x sized = which (is_number 2 x.a && is_number 1 x.b) refl
  where
    numbers : (b : Bool) → is_number 0 x.a ≡ b → StandsBeforeSigns (numbers_text x)
    numbers true e = subst StandsBeforeSigns (sym (ap (λ b. cond b (signed_text x.b) (step_text x.a ++ (110 ∷ offset_text x.b))) e)) (alone_stands x.b sized.offset)
    numbers false e = subst StandsBeforeSigns (sym (ap (λ b. cond b (signed_text x.b) (step_text x.a ++ (110 ∷ offset_text x.b))) e)) (step_stands x.a x.b sized.step sized.offset)

    which : (b : Bool) → (is_number 2 x.a && is_number 1 x.b) ≡ b → StandsBeforeSigns (anb_text x)
    which true e = subst StandsBeforeSigns (sym (ap (λ b. cond b (codes "odd") (numbers_text x)) e))
        (one_token kind.Ident (111 ∷ 100 ∷ 100 ∷ []) (codes "odd") refl (name_token 111 (100 ∷ 100 ∷ []) [] refl refl refl refl))
    which false e = subst StandsBeforeSigns (sym (ap (λ b. cond b (codes "odd") (numbers_text x)) e)) (numbers (is_number 0 x.a) refl)
