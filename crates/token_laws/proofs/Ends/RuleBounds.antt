-- What a rule reads is no shorter than the number and the start of a name that begin its text.
use Rattle.std.proofs.Common.{ℕ, ◌+◌, ◌<◌, ◌≤◌, ◌≡◌, inl, inr, ◌⊎◌, Bool, true, false, cond, ltb, leb, ◌&&◌, ◌||◌, ◌==◌, List, [], ◌∷◌, Result, Option, Ok, Err, Some, IfOk, drop, take, refl, sym, subst, arith}
use Rattle.std.specs.Char.{is_ascii_digit}
use Rattle.std.proofs.lemmas.Bool.{eqb-true, or_cases, and_parts, and_left, or_from, ne_eqb, ltb-true, ltb-false, leb-true, false_from_ne_true}
use Rattle.css_model.specs.declared.token.TokenKind.{TokenKind}
use Rattle.css_model.specs.declared.token.TokenKind.TheVariants as kind
use Rattle.css_model.specs.declared.token.TokenFlaw.{TokenFlaw}
use Rattle.css_model.specs.Text.Characters.{dash, plus, dot, backslash, slash, hash, quote, apostrophe, less_than, at_sign, greater_than, is_start, is_white, is_newline, is_plus_or_minus, is_sign, open_round, begins, first_passes}
use Rattle.css_model.specs.Text.Runs.{run}
use Rattle.css_model.specs.Text.Units.{white_unit, url_unit, name_start, name_len, decimal, signed_decimal, number_len}
use Rattle.css_model.specs.Text.Names.{is_url}
use Rattle.css_model.specs.Text.TokenAt.{Shape, rule_at, symbol_at, word_at, slash_shape, string_shape, hash_shape, number_shape, less_shape, at_shape, url_shape, url_end, opened_shape, named_shape, done, is_quote, after_white}
use Rattle.token_laws.proofs.Ends.Names.{name_start_le}
use Rattle.token_laws.proofs.Ends.OneAnd.{some_one_and}

-- what is read, if anything is, has at least n bytes
pub record AtLeast (n : ℕ) (r : Result Shape TokenFlaw) : Type 0 where
  pub least : IfOk r (λ s. n ≤ s.1)

pub least_of : (n : ℕ) (r : Result Shape TokenFlaw) (s : Shape) → AtLeast n r → r ≡ Ok s → n ≤ s.1
least_of n r s h is = let L : Result Shape TokenFlaw → Type 0 = AtLeast n in (subst L is h).least

some_least : (n m : ℕ) (k : Option TokenKind) → n ≤ m → AtLeast n (Ok (k, m))
some_least n m k le = record { least = le }

no_least : (n : ℕ) (f : TokenFlaw) → AtLeast n (Err f)
no_least n f = record { least = tt }

zero_least : (n : ℕ) (r : Result Shape TokenFlaw) → n ≡ 0 → AtLeast n r
zero_least n (Ok s) is = record { least = omega (arith, is) }
zero_least n (Err f) is = record { least = tt }

cond_least : (n : ℕ) (b : Bool) (x y : Result Shape TokenFlaw) → (b ≡ true → AtLeast n x) → (b ≡ false → AtLeast n y) → AtLeast n (cond b x y)
cond_least n true x y left right = left refl
cond_least n false x y left right = right refl

either_least : (n : ℕ) (b : Bool) (x y : Result Shape TokenFlaw) → AtLeast n x → AtLeast n y → AtLeast n (cond b x y)
either_least n true x y left right = left
either_least n false x y left right = right

url_end_least : (m n : ℕ) (rest : List ℕ) → m ≤ n → AtLeast m (url_end n rest)
url_end_least m n rest le = search (arith, either_least, some_least, no_least)

opened_least : (name : List ℕ) (n : ℕ) (rest : List ℕ) → AtLeast n (opened_shape name n rest)
opened_least name n rest =
    let called : AtLeast n (done kind.Function n) = some_least n n (Some kind.Function) (omega arith) in
    let inner = after_white rest in
    let behind = drop (run url_unit inner) inner in
    let ended : AtLeast n (url_shape (n + run white_unit rest) inner) =
    url_end_least n (n + run white_unit rest + run url_unit inner + run white_unit behind) (after_white behind) (omega arith) in
    let either = either_least n (first_passes is_quote inner) (done kind.Function n) (url_shape (n + run white_unit rest) inner) called ended in
    either_least n (is_url name) (cond (first_passes is_quote inner) (done kind.Function n) (url_shape (n + run white_unit rest) inner)) (done kind.Function n) either called

pub opened_len : (name : List ℕ) (n : ℕ) (rest : List ℕ) (s : Shape) → opened_shape name n rest ≡ Ok s → n ≤ s.1
opened_len name n rest s is = least_of n (opened_shape name n rest) s (opened_least name n rest) is

least_le : (m n : ℕ) (r : Result Shape TokenFlaw) → m ≤ n → AtLeast n r → AtLeast m r
least_le m n (Ok s) le h = let has = h.least in record { least = omega (arith, has, le) }
least_le m n (Err f) le h = record { least = tt }

named_least : (text : List ℕ) → AtLeast (name_len text) (named_shape text)
named_least text =
    let n = name_len text in
    either_least n (begins open_round (drop n text)) (opened_shape (take n text) (n + 1) (drop (n + 1) text)) (done kind.Ident n)
    (least_le n (n + 1) (opened_shape (take n text) (n + 1) (drop (n + 1) text)) (omega arith) (opened_least (take n text) (n + 1) (drop (n + 1) text)))
    (some_least n n (Some kind.Ident) (omega arith))

pub named_len : (text : List ℕ) (s : Shape) → named_shape text ≡ Ok s → name_len text ≤ s.1
named_len text s is = least_of (name_len text) (named_shape text) s (named_least text) is

number_least : (n : ℕ) (rest : List ℕ) → AtLeast n (number_shape n rest)
number_least n rest = search (arith, either_least, some_least)

-- what holds of each white space holds of this one
pub white_is : (P : ℕ → Type 0) → P 32 → P 9 → P 10 → P 13 → P 12 → (c : ℕ) → is_white c ≡ true → P c
white_is P space tab feed return form c is = which (or_cases (c == 32 || c == 9) (is_newline c) is)
  where
    at : (b : ℕ) → (c == b) ≡ true → P b → P c
    at b same p = subst P (sym (eqb-true c b same)) p

    blank : (c == 32 ≡ true) ⊎ (c == 9 ≡ true) → P c
    blank (inl e) = at 32 e space
    blank (inr e) = at 9 e tab

    line : (c == 10 ≡ true) ⊎ (c == 13 ≡ true) → P c
    line (inl e) = at 10 e feed
    line (inr e) = at 13 e return

    newline : ((c == 10 || c == 13) ≡ true) ⊎ (c == 12 ≡ true) → P c
    newline (inl e) = line (or_cases (c == 10) (c == 13) e)
    newline (inr e) = at 12 e form

    which : ((c == 32 || c == 9) ≡ true) ⊎ (is_newline c ≡ true) → P c
    which (inl e) = blank (or_cases (c == 32) (c == 9) e)
    which (inr e) = newline (or_cases (c == 10 || c == 13) (c == 12) e)

pub quote_is : (P : ℕ → Type 0) → P quote → P apostrophe → (c : ℕ) → is_quote c ≡ true → P c
quote_is P double single c is = which (or_cases (c == quote) (c == apostrophe) is)
  where
    which : (c == quote ≡ true) ⊎ (c == apostrophe ≡ true) → P c
    which (inl e) = subst P (sym (eqb-true c quote e)) double
    which (inr e) = subst P (sym (eqb-true c apostrophe e)) single

pub sign_is : (P : ℕ → Type 0) → P plus → P dash → (c : ℕ) → is_plus_or_minus c ≡ true → P c
sign_is P positive negative c is = which (or_cases (c == plus) (c == dash) is)
  where
    which : (c == plus ≡ true) ⊎ (c == dash ≡ true) → P c
    which (inl e) = subst P (sym (eqb-true c plus e)) positive
    which (inr e) = subst P (sym (eqb-true c dash e)) negative

-- a byte that starts no name
pub record StartsNoName (c : ℕ) : Type 0 where
  pub no_dash : (c == dash) ≡ false
  pub no_start : is_start c ≡ false
  pub no_escape : (c == backslash) ≡ false

digit_starts_none : (c : ℕ) → is_ascii_digit c ≡ true → StartsNoName c
digit_starts_none c digit =
    let range = and_parts (leb 48 c) (leb c 57) digit in
    let low = leb-true 48 c range.0 in
    let high = leb-true c 57 range.1 in
    let above : (b : ℕ) → 57 < b → leb b c ≡ false = λ b over. false_from_ne_true _ (λ yes. absurd (omega (arith, over, high, leb-true b c yes))) in
    let upper : (leb 65 c && leb c 90) ≡ false = and_left (leb 65 c) (leb c 90) (above 65 (omega arith)) in
    let lower : (leb 97 c && leb c 122) ≡ false = and_left (leb 97 c) (leb c 122) (above 97 (omega arith)) in
    let under : (c == 95) ≡ false = ne_eqb c 95 (λ e. absurd (omega (arith, high, e))) in
    let null : (c == 0) ≡ false = ne_eqb c 0 (λ e. absurd (omega (arith, low, e))) in
    record {
      no_dash = ne_eqb c dash (λ e. absurd (omega (arith, low, e)));
      no_start = or_from _ (c == 0) (or_from _ (leb 128 c) (or_from _ (c == 95) (or_from _ _ upper lower) under) (above 128 (omega arith))) null;
      no_escape = ne_eqb c backslash (λ e. absurd (omega (arith, high, e)));
    }

-- where digits or a fraction begin, no name does
decimal_starts_none : (c : ℕ) (cs : List ℕ) → 0 < decimal (c ∷ cs) → StartsNoName c
decimal_starts_none c cs some = which (is_ascii_digit c) refl (c == dot) refl
  where
    at_dot : StartsNoName dot
    at_dot = record { no_dash = refl; no_start = refl; no_escape = refl }

    which : (b : Bool) → is_ascii_digit c ≡ b → (e : Bool) → (c == dot) ≡ e → StartsNoName c
    which true digit e is = digit_starts_none c digit
    which false digit true is = subst StartsNoName (sym (eqb-true c dot is)) at_dot
    which false digit false is =
        let none : decimal (c ∷ cs) ≡ 0 = rw (digit, is) refl in
        absurd (omega (arith, some, none))

negative_no_start : (cs : List ℕ) → 0 < signed_decimal (dash ∷ cs) → name_start (dash ∷ cs) ≡ 0
negative_no_start [] some = absurd (omega (arith, some))
negative_no_start (d ∷ ds) some =
    let none = decimal_starts_none d ds (some_one_and (decimal (d ∷ ds)) some) in
    rw (none.no_dash, none.no_start, none.no_escape) refl

-- where a number begins, no name does
pub number_no_start : (c : ℕ) (cs : List ℕ) → 0 < signed_decimal (c ∷ cs) → name_start (c ∷ cs) ≡ 0
number_no_start c cs = which (is_plus_or_minus c) refl
  where
    which : (b : Bool) → is_plus_or_minus c ≡ b → 0 < signed_decimal (c ∷ cs) → name_start (c ∷ cs) ≡ 0
    which true sign = sign_is (λ c. 0 < signed_decimal (c ∷ cs) → name_start (c ∷ cs) ≡ 0) (λ _. refl) (negative_no_start cs) c sign
    which false sign = λ some.
        let same : signed_decimal (c ∷ cs) ≡ decimal (c ∷ cs) = rw sign refl in
        let none = decimal_starts_none c cs (omega (arith, some, same)) in
        rw (none.no_dash, none.no_start, none.no_escape) refl

number_bound : (c : ℕ) (cs : List ℕ) → AtLeast (signed_decimal (c ∷ cs)) (number_shape (number_len (c ∷ cs)) (drop (number_len (c ∷ cs)) (c ∷ cs)))
number_bound c cs = least_le (signed_decimal (c ∷ cs)) (number_len (c ∷ cs)) _ (omega arith) (number_least (number_len (c ∷ cs)) (drop (number_len (c ∷ cs)) (c ∷ cs)))

word_bound : (c : ℕ) (cs : List ℕ) → AtLeast (name_start (c ∷ cs)) (word_at (c ∷ cs))
word_bound c cs =
    let n = name_start (c ∷ cs) in
    let single = done (cond (is_sign c) (kind.Sign c) (kind.Delim c)) 1 in
    cond_least n (c == dash && (begins dash cs && begins greater_than (drop 1 cs))) (done kind.CommentClose 3) (cond (ltb 0 n) (named_shape (c ∷ cs)) single)
    (λ is. close (and_parts (c == dash) (begins dash cs && begins greater_than (drop 1 cs)) is))
    (λ _. cond_least n (ltb 0 n) (named_shape (c ∷ cs)) single
    (λ _. least_le n (name_len (c ∷ cs)) (named_shape (c ∷ cs)) (name_start_le (c ∷ cs)) (named_least (c ∷ cs)))
    (λ none. zero_least n single (omega (arith, ltb-false 0 n none))))
  where
    close : (c == dash ≡ true) × ((begins dash cs && begins greater_than (drop 1 cs)) ≡ true) → AtLeast (name_start (c ∷ cs)) (done kind.CommentClose 3)
    close (first, rest) =
        let second = (and_parts (begins dash cs) (begins greater_than (drop 1 cs)) rest).0 in
        let two : name_start (c ∷ cs) ≡ 2 = rw (first, second) refl in
        some_least (name_start (c ∷ cs)) 3 (Some kind.CommentClose) (omega (arith, two))

-- what reads both, where all other rules begin with bytes that begin neither
rule_bound : (f : List ℕ → ℕ) (c : ℕ) (cs : List ℕ)
    → ((b : ℕ) → (b ≡ slash) ⊎ ((is_white b ≡ true) ⊎ ((is_quote b ≡ true) ⊎ (b ≡ hash))) → f (b ∷ cs) ≡ 0)
    → AtLeast (f (c ∷ cs)) (symbol_at (c ∷ cs)) → AtLeast (f (c ∷ cs)) (rule_at (c ∷ cs))
rule_bound f c cs none symbol =
    let n = f (c ∷ cs) in
    cond_least n (c == slash) (slash_shape cs) _ (λ is. zero_least n (slash_shape cs) (none c (inl (eqb-true c slash is))))
    (λ _. cond_least n (is_white c) (done kind.White (run white_unit (c ∷ cs))) _ (λ is. zero_least n (done kind.White (run white_unit (c ∷ cs))) (none c (inr (inl is))))
    (λ _. cond_least n (is_quote c) (string_shape c cs) _ (λ is. zero_least n (string_shape c cs) (none c (inr (inr (inl is)))))
    (λ _. cond_least n (c == hash) (hash_shape cs) (symbol_at (c ∷ cs)) (λ is. zero_least n (hash_shape cs) (none c (inr (inr (inr (eqb-true c hash is)))))) (λ _. symbol))))

name_none_at : (cs : List ℕ) (c : ℕ) → (c ≡ slash) ⊎ ((is_white c ≡ true) ⊎ ((is_quote c ≡ true) ⊎ (c ≡ hash))) → name_start (c ∷ cs) ≡ 0
name_none_at cs c (inl is) = rw is refl
name_none_at cs c (inr (inl is)) = white_is (λ c. name_start (c ∷ cs) ≡ 0) refl refl refl refl refl c is
name_none_at cs c (inr (inr (inl is))) = quote_is (λ c. name_start (c ∷ cs) ≡ 0) refl refl c is
name_none_at cs c (inr (inr (inr is))) = rw is refl

number_none_at : (cs : List ℕ) (c : ℕ) → (c ≡ slash) ⊎ ((is_white c ≡ true) ⊎ ((is_quote c ≡ true) ⊎ (c ≡ hash))) → signed_decimal (c ∷ cs) ≡ 0
number_none_at cs c (inl is) = rw is refl
number_none_at cs c (inr (inl is)) = white_is (λ c. signed_decimal (c ∷ cs) ≡ 0) refl refl refl refl refl c is
number_none_at cs c (inr (inr (inl is))) = quote_is (λ c. signed_decimal (c ∷ cs) ≡ 0) refl refl c is
number_none_at cs c (inr (inr (inr is))) = rw is refl

-- the start of a name
name_least : (c : ℕ) (cs : List ℕ) → AtLeast (name_start (c ∷ cs)) (rule_at (c ∷ cs))
name_least c cs =
    let n = name_start (c ∷ cs) in
    let m = number_len (c ∷ cs) in
    let word = word_bound c cs in
    rule_bound name_start c cs (λ b is. name_none_at cs b is)
    (cond_least n (ltb 0 (signed_decimal (c ∷ cs))) (number_shape m (drop m (c ∷ cs))) _
    (λ some. zero_least n (number_shape m (drop m (c ∷ cs))) (number_no_start c cs (ltb-true 0 (signed_decimal (c ∷ cs)) some)))
    (λ _. cond_least n (c == less_than) (less_shape cs) _ (λ is. zero_least n (less_shape cs) (rw (eqb-true c less_than is) refl))
    (λ _. cond_least n (c == at_sign) (at_shape cs) (word_at (c ∷ cs)) (λ is. zero_least n (at_shape cs) (rw (eqb-true c at_sign is) refl)) (λ _. word))))

-- the number
number_least_of : (c : ℕ) (cs : List ℕ) → AtLeast (signed_decimal (c ∷ cs)) (rule_at (c ∷ cs))
number_least_of c cs =
    let n = signed_decimal (c ∷ cs) in
    let m = number_len (c ∷ cs) in
    let rest : Result Shape TokenFlaw = cond (c == less_than) (less_shape cs) (cond (c == at_sign) (at_shape cs) (word_at (c ∷ cs))) in
    rule_bound signed_decimal c cs (λ b is. number_none_at cs b is)
    (cond_least n (ltb 0 n) (number_shape m (drop m (c ∷ cs))) rest (λ _. number_bound c cs) (λ none. zero_least n rest (omega (arith, ltb-false 0 n none))))

pub rule_name_start : (text : List ℕ) (s : Shape) → rule_at text ≡ Ok s → name_start text ≤ s.1
rule_name_start [] s is = omega arith
rule_name_start (c ∷ cs) s is = least_of (name_start (c ∷ cs)) (rule_at (c ∷ cs)) s (name_least c cs) is

pub rule_number : (text : List ℕ) (s : Shape) → rule_at text ≡ Ok s → signed_decimal text ≤ s.1
rule_number [] s is = omega arith
rule_number (c ∷ cs) s is = least_of (signed_decimal (c ∷ cs)) (rule_at (c ∷ cs)) s (number_least_of c cs) is
