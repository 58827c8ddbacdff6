-- A white space that closes the open escape of a name changes no name.
use Rattle.std.proofs.Common.{◌≡◌, ◌⊎◌, inl, inr, subst, ℕ, zero, suc, ◌+◌, ◌*◌, ◌==◌, Bool, true, false, List, [], ◌∷◌, ◌++◌, length, take, drop, Some, None, Result, Ok, Err, refl, sym, ◌∙◌, ap, arith}
use Rattle.std.proofs.lemmas.Bool.{false≢true, eqb-true}
use Rattle.std.proofs.Math.Seq.{drop-append_seam}
use Rattle.std.specs.Prelude.{⊤, ◌&&◌, ◌||◌, if◌then◌else◌, nat_lt, encode_utf8}
use Rattle.std.specs.Char.{is_ascii_hexdigit, digit_value}
use Rattle.css_model.specs.declared.token.TokenKind.{TokenKind}
use Rattle.css_model.specs.declared.token.TokenKind.TheVariants as kind
use Rattle.css_model.specs.declared.token.TokenFlaw.{TokenFlaw}
use Rattle.css_model.specs.declared.token.TokenFlaw.TheVariants as flaw
use Rattle.css_model.specs.Text.Characters.{backslash, space, slash, star, dash, hash, at_sign, apostrophe, quote, less_than, greater_than, percent, open_round, close_round, is_newline, is_white, is_name, is_sign, begins, first_passes}
use Rattle.css_model.specs.declared.token.Lexeme.{Lexeme}
use Rattle.css_model.specs.Text.Kept.{is_open}
use Rattle.css_model.specs.Text.Source.{text_at}
use Rattle.sheet_laws.proofs.Shown.Alike.{IsClosable, name_in}
use Rattle.sheet_laws.proofs.Shown.Values.{IsShut}
use Rattle.css_model.specs.Text.Runs.{run, run_from, unit_then}
use Rattle.css_model.specs.Text.TokenAt.{Shape, done, comment_shape, slash_shape, string_shape, hash_shape, number_shape, less_shape, at_shape, after_white, url_end, url_shape, is_quote, opened_shape, named_shape, word_at, symbol_at, rule_at, within, part_at}
use Rattle.css_model.specs.Text.Units.{white_unit, hex_rest, escape_after, name_unit, name_start, name_len, string_unit, comment_unit, url_unit, signed_decimal, number_len}
use Rattle.css_model.specs.Text.Names.{is_url, hex_value, escaped_code, byte_text, after_backslash_len, after_backslash_text, first_len, first_text, unescaped_from, unescaped}
use Rattle.css_model.specs.Lists.{less_one}

white_near : (e : ℕ) (es : List ℕ) → (white_unit (e ∷ es ++ space ∷ []) ≡ white_unit (e ∷ es)) × (white_unit (e ∷ es ++ space ∷ space ∷ []) ≡ white_unit (e ∷ es))
white_near e [] = (refl, refl)
white_near e (c ∷ cs) = (refl, refl)

-- hex digits and a white space: they end in the text, or they are all of it and take the first space
hex_near : (n : ℕ) (ds : List ℕ)
    → ((hex_rest n (ds ++ space ∷ []) ≡ hex_rest n ds) × (hex_rest n (ds ++ space ∷ space ∷ []) ≡ hex_rest n ds)) ⊎ ((hex_rest n ds ≡ length ds) × (hex_rest n (ds ++ space ∷ []) ≡ suc (length ds)))
hex_near zero [] = inr (refl, refl)
hex_near (suc n) [] = inr (refl, refl)
hex_near zero (e ∷ es) = inl (white_near e es)
hex_near (suc n) (e ∷ es) = which (is_ascii_hexdigit e) (hex_near n es)
  where
    which : (b : Bool) → ((hex_rest n (es ++ space ∷ []) ≡ hex_rest n es) × (hex_rest n (es ++ space ∷ space ∷ []) ≡ hex_rest n es)) ⊎ ((hex_rest n es ≡ length es) × (hex_rest n (es ++ space ∷ []) ≡ suc (length es)))
        → (((if b then suc (hex_rest n (es ++ space ∷ [])) else white_unit (e ∷ es ++ space ∷ [])) ≡ (if b then suc (hex_rest n es) else white_unit (e ∷ es)))
        × ((if b then suc (hex_rest n (es ++ space ∷ space ∷ [])) else white_unit (e ∷ es ++ space ∷ space ∷ [])) ≡ (if b then suc (hex_rest n es) else white_unit (e ∷ es))))
        ⊎ (((if b then suc (hex_rest n es) else white_unit (e ∷ es)) ≡ suc (length es)) × ((if b then suc (hex_rest n (es ++ space ∷ [])) else white_unit (e ∷ es ++ space ∷ [])) ≡ suc (suc (length es))))
    which false later = inl (white_near e es)
    which true (inl same) = inl (ap suc same.0, ap suc same.1)
    which true (inr all) = inr (ap suc all.0, ap suc all.1)

hex_value_space : (n value : ℕ) (ds : List ℕ) → hex_value n value (ds ++ space ∷ []) ≡ hex_value n value ds
hex_value_space zero value [] = refl
hex_value_space (suc n) value [] = refl
hex_value_space zero value (d ∷ ds) = refl
hex_value_space (suc n) value (d ∷ ds) = ap (λ (m : ℕ). if is_ascii_hexdigit d then m else value) (hex_value_space n (value * 16 + digit_value d) ds)

all_left : (xs : List ℕ) → unescaped_from (length xs) xs ≡ []
all_left [] = refl
all_left (x ∷ xs) = all_left xs

-- what is asked of the bytes behind the first
abbrev Again : List ℕ → Type 0
Again cs = (left : ℕ) → run_from name_unit left cs ≡ length cs → run_from name_unit left (cs ++ space ∷ space ∷ []) ≡ suc (length cs) → unescaped_from left (cs ++ space ∷ []) ≡ unescaped_from left cs

-- what is read of the first bytes, and then of the others
both_read : (first' first text : List ℕ) (len' len left' left : ℕ) (rest' rest : List ℕ) → first' ≡ text → first ≡ text → len' ≡ suc left' → len ≡ suc left
    → unescaped_from left' rest' ≡ unescaped_from left rest → first' ++ unescaped_from (less_one len') rest' ≡ first ++ unescaped_from (less_one len) rest
both_read first' first text len' len left' left rest' rest is' is long' long same =
    ap (λ (t : List ℕ). t ++ unescaped_from (less_one len') rest') is'
    ∙ ap (λ (n : ℕ). text ++ unescaped_from (less_one n) rest') long'
    ∙ ap (λ (t : List ℕ). text ++ t) same
    ∙ sym (ap (λ (t : List ℕ). t ++ unescaped_from (less_one len) rest) is ∙ ap (λ (n : ℕ). text ++ unescaped_from (less_one n) rest) long)

hex_text : (d : ℕ) (ds : List ℕ) → is_newline d ≡ false → is_ascii_hexdigit d ≡ true → after_backslash_text (d ∷ ds) ≡ encode_utf8 (escaped_code (hex_value 5 (0 * 16 + digit_value d) ds))
hex_text d ds line hex = rw (line, hex) refl

hex_len : (d : ℕ) (ds : List ℕ) → is_newline d ≡ false → is_ascii_hexdigit d ≡ true → escape_after (d ∷ ds) ≡ suc (suc (hex_rest 5 ds))
hex_len d ds line hex = rw (line, hex) (omega arith)

other_text : (d : ℕ) (ds : List ℕ) → is_newline d ≡ false → is_ascii_hexdigit d ≡ false → after_backslash_text (d ∷ ds) ≡ byte_text d
other_text d ds line hex = rw (line, hex) refl

other_len : (d : ℕ) (ds : List ℕ) → is_newline d ≡ false → is_ascii_hexdigit d ≡ false → escape_after (d ∷ ds) ≡ 2
other_len d ds line hex = rw (line, hex) refl

escape_len : (d : ℕ) (ds : List ℕ) → is_newline d ≡ false → after_backslash_len (d ∷ ds) ≡ escape_after (d ∷ ds)
escape_len d ds line = rw line refl

-- behind a backslash
escape_closed : (cs : List ℕ) → Again cs → unit_then (escape_after cs) (λ n. run_from name_unit n cs) ≡ suc (length cs)
    → unit_then (escape_after (cs ++ space ∷ space ∷ [])) (λ n. run_from name_unit n (cs ++ space ∷ space ∷ [])) ≡ suc (suc (length cs))
    → after_backslash_text (cs ++ space ∷ []) ++ unescaped_from (less_one (after_backslash_len (cs ++ space ∷ []))) (cs ++ space ∷ [])
    ≡ after_backslash_text cs ++ unescaped_from (less_one (after_backslash_len cs)) cs
escape_closed [] again alone near = absurd (omega arith)
escape_closed (d ∷ ds) again alone near = which (is_newline d) refl (is_ascii_hexdigit d) refl
  where
    alone_of : (n : ℕ) → escape_after (d ∷ ds) ≡ suc n → run_from name_unit n (d ∷ ds) ≡ suc (length ds)
    alone_of n e = omega (arith, alone, ap (λ (m : ℕ). unit_then m (λ n. run_from name_unit n (d ∷ ds))) e)

    near_of : (n : ℕ) → escape_after (d ∷ ds ++ space ∷ space ∷ []) ≡ suc n → run_from name_unit n (d ∷ ds ++ space ∷ space ∷ []) ≡ suc (suc (length ds))
    near_of n e = omega (arith, near, ap (λ (m : ℕ). unit_then m (λ n. run_from name_unit n (d ∷ ds ++ space ∷ space ∷ []))) e)

    by_hex : is_newline d ≡ false → is_ascii_hexdigit d ≡ true
        → ((hex_rest 5 (ds ++ space ∷ []) ≡ hex_rest 5 ds) × (hex_rest 5 (ds ++ space ∷ space ∷ []) ≡ hex_rest 5 ds)) ⊎ ((hex_rest 5 ds ≡ length ds) × (hex_rest 5 (ds ++ space ∷ []) ≡ suc (length ds)))
        → unescaped_from (suc (hex_rest 5 (ds ++ space ∷ []))) (d ∷ ds ++ space ∷ []) ≡ unescaped_from (suc (hex_rest 5 ds)) (d ∷ ds)
    by_hex line hex (inl same) =
        ap (λ (n : ℕ). unescaped_from n (ds ++ space ∷ [])) same.0
        ∙ again (suc (hex_rest 5 ds))
        (alone_of (suc (hex_rest 5 ds)) (hex_len d ds line hex))
        (near_of (suc (hex_rest 5 ds)) (hex_len d (ds ++ space ∷ space ∷ []) line hex ∙ ap (λ (n : ℕ). suc (suc n)) same.1))
    by_hex line hex (inr all) =
        ap (λ (n : ℕ). unescaped_from n (ds ++ space ∷ [])) (all.1 ∙ longer ds)
        ∙ all_left (ds ++ space ∷ [])
        ∙ sym (ap (λ (n : ℕ). unescaped_from n ds) all.0 ∙ all_left ds)
      where
        longer : (ds : List ℕ) → suc (length ds) ≡ length (ds ++ space ∷ [])
        longer [] = refl
        longer (d ∷ ds) = ap suc (longer ds)

    which : (l : Bool) → is_newline d ≡ l → (x : Bool) → is_ascii_hexdigit d ≡ x
        → after_backslash_text (d ∷ ds ++ space ∷ []) ++ unescaped_from (less_one (after_backslash_len (d ∷ ds ++ space ∷ []))) (d ∷ ds ++ space ∷ [])
        ≡ after_backslash_text (d ∷ ds) ++ unescaped_from (less_one (after_backslash_len (d ∷ ds))) (d ∷ ds)
    which true line x hex =
        let none : escape_after (d ∷ ds) ≡ 0 = rw line refl in
        absurd (omega (arith, alone, ap (λ (m : ℕ). unit_then m (λ n. run_from name_unit n (d ∷ ds))) none))
    which false line false hex =
        both_read (after_backslash_text (d ∷ ds ++ space ∷ [])) (after_backslash_text (d ∷ ds)) (byte_text d) (after_backslash_len (d ∷ ds ++ space ∷ [])) (after_backslash_len (d ∷ ds)) 1 1 (d ∷ ds ++ space ∷ []) (d ∷ ds)
        (other_text d (ds ++ space ∷ []) line hex) (other_text d ds line hex)
        (escape_len d (ds ++ space ∷ []) line ∙ other_len d (ds ++ space ∷ []) line hex) (escape_len d ds line ∙ other_len d ds line hex)
        (again 1 (alone_of 1 (other_len d ds line hex)) (near_of 1 (other_len d (ds ++ space ∷ space ∷ []) line hex)))
    which false line true hex =
        both_read (after_backslash_text (d ∷ ds ++ space ∷ [])) (after_backslash_text (d ∷ ds)) (encode_utf8 (escaped_code (hex_value 5 (0 * 16 + digit_value d) ds)))
        (after_backslash_len (d ∷ ds ++ space ∷ [])) (after_backslash_len (d ∷ ds)) (suc (hex_rest 5 (ds ++ space ∷ []))) (suc (hex_rest 5 ds)) (d ∷ ds ++ space ∷ []) (d ∷ ds)
        (hex_text d (ds ++ space ∷ []) line hex ∙ ap (λ (n : ℕ). encode_utf8 (escaped_code n)) (hex_value_space 5 (0 * 16 + digit_value d) ds)) (hex_text d ds line hex)
        (escape_len d (ds ++ space ∷ []) line ∙ hex_len d (ds ++ space ∷ []) line hex) (escape_len d ds line ∙ hex_len d ds line hex)
        (by_hex line hex (hex_near 5 ds))

unescaped_closed : (left : ℕ) (v : List ℕ) → run_from name_unit left v ≡ length v → run_from name_unit left (v ++ space ∷ space ∷ []) ≡ suc (length v)
    → unescaped_from left (v ++ space ∷ []) ≡ unescaped_from left v
unescaped_closed zero [] alone near = absurd (omega (arith, near))
unescaped_closed (suc left) [] alone near = absurd (omega (arith, alone))
unescaped_closed (suc left) (c ∷ cs) alone near = unescaped_closed left cs (omega (arith, alone)) (omega (arith, near))
unescaped_closed zero (c ∷ cs) alone near = which (λ left. unescaped_closed left cs) (c == backslash) refl (is_name c) refl
  where
    which : Again cs → (b : Bool) → (c == backslash) ≡ b → (n : Bool) → is_name c ≡ n → unescaped_from zero (c ∷ cs ++ space ∷ []) ≡ unescaped_from zero (c ∷ cs)
    which again true is n name =
        let e = eqb-true c backslash is in
        let alone_of : run_from name_unit 0 (backslash ∷ cs) ≡ suc (length cs) = ap (λ (m : ℕ). run_from name_unit 0 (m ∷ cs)) (sym e) ∙ alone in
        let near_of : run_from name_unit 0 (backslash ∷ cs ++ space ∷ space ∷ []) ≡ suc (suc (length cs)) = ap (λ (m : ℕ). run_from name_unit 0 (m ∷ cs ++ space ∷ space ∷ [])) (sym e) ∙ near in
        subst (λ (m : ℕ). unescaped_from 0 (m ∷ cs ++ space ∷ []) ≡ unescaped_from 0 (m ∷ cs)) (sym e) (escape_closed cs again alone_of near_of)
    which again false is true name =
        let unit : (rest : List ℕ) → name_unit (c ∷ rest) ≡ 1 = λ rest. ap (λ (b : Bool). if b then 1 else if c == backslash then escape_after rest else 0) name in
        let text : (rest : List ℕ) → first_text c rest ≡ byte_text c = λ rest. ap (λ (b : Bool). if b then after_backslash_text rest else byte_text c) is in
        let len : (rest : List ℕ) → first_len c rest ≡ 1 = λ rest. ap (λ (b : Bool). if b then after_backslash_len rest else 1) is in
        both_read (first_text c (cs ++ space ∷ [])) (first_text c cs) (byte_text c) (first_len c (cs ++ space ∷ [])) (first_len c cs) 0 0 (cs ++ space ∷ []) cs
        (text (cs ++ space ∷ [])) (text cs) (len (cs ++ space ∷ [])) (len cs)
        (again 0
        (omega (arith, alone, ap (λ (m : ℕ). unit_then m (λ n. run_from name_unit n cs)) (unit cs)))
        (omega (arith, near, ap (λ (m : ℕ). unit_then m (λ n. run_from name_unit n (cs ++ space ∷ space ∷ []))) (unit (cs ++ space ∷ space ∷ [])))))
    which again false is false name =
        let none : name_unit (c ∷ cs) ≡ 0 =
        ap (λ (b : Bool). if b then 1 else if c == backslash then escape_after cs else 0) name ∙ ap (λ (b : Bool). if b then escape_after cs else 0) is in
        absurd (omega (arith, alone, ap (λ (m : ℕ). unit_then m (λ n. run_from name_unit n cs)) none))

-- A name that ends in its text and takes the first of two spaces says the same with that space.
pub name_closed : (v : List ℕ) → name_len v ≡ length v → name_len (v ++ space ∷ space ∷ []) ≡ suc (length v) → unescaped (v ++ space ∷ []) ≡ unescaped v
name_closed v = unescaped_closed 0 v

-- the last of the first n bytes is a sign other than a space
record EndsWithSign (text : List ℕ) (n : ℕ) : Type 0 where
  before : ℕ
  sign : ℕ
  size : before + 1 ≡ n
  last : begins sign (drop before text) ≡ true
  other : (space == sign) ≡ false

-- where the name stands in a token of each kind that is read by its name; a function and a string end with a sign
abbrev NameIs : TokenKind → List ℕ → ℕ → Type 0
NameIs kind.Function text n = EndsWithSign text n
NameIs kind.Str text n = EndsWithSign text n
NameIs kind.Ident text n = name_len text ≡ n
NameIs kind.AtKeyword text n = 1 + name_len (drop 1 text) ≡ n
NameIs kind.IdHash text n = 1 + name_len (drop 1 text) ≡ n
NameIs _ text n = ⊤

abbrev HasName : List ℕ → Result Shape TokenFlaw → Type 0
HasName text (Err f) = ⊤
HasName text (Ok (None, n)) = ⊤
HasName text (Ok (Some k, n)) = NameIs k text n

either_name : (text : List ℕ) (b : Bool) (x y : Result Shape TokenFlaw) → HasName text x → HasName text y → HasName text (if b then x else y)
either_name text true x y first second = first
either_name text false x y first second = second

-- the same, where the test is at hand
either_given : (text : List ℕ) (b : Bool) (x y : Result Shape TokenFlaw) → (b ≡ true → HasName text x) → HasName text y → HasName text (if b then x else y)
either_given text true x y first second = first refl
either_given text false x y first second = second

slash_name : (c : ℕ) (cs : List ℕ) → HasName (c ∷ cs) (slash_shape cs)
slash_name c cs =
    either_name (c ∷ cs) (begins star cs) (comment_shape (drop 1 cs)) (done (kind.Delim slash) 1)
    (either_name (c ∷ cs) (begins star (drop (run comment_unit (drop 1 cs)) (drop 1 cs))) (Ok (None, 4 + run comment_unit (drop 1 cs))) (Err flaw.EndInside) tt tt) tt

quote_no_space : (q : ℕ) → is_quote q ≡ true → (space == q) ≡ false
quote_no_space q is = which (q == quote) refl is
  where
    which : (b : Bool) → (q == quote) ≡ b → (b || q == apostrophe) ≡ true → (space == q) ≡ false
    which true same is = ap (λ (n : ℕ). space == n) (eqb-true q quote same)
    which false other is = ap (λ (n : ℕ). space == n) (eqb-true q apostrophe is)

string_name : (q : ℕ) (cs : List ℕ) → is_quote q ≡ true → HasName (q ∷ cs) (string_shape q cs)
string_name q cs is =
    let rest = drop (run (string_unit q) cs) cs in
    either_given (q ∷ cs) (begins q rest) (done kind.Str (2 + run (string_unit q) cs)) (if first_passes is_newline rest then Err flaw.BadString else Err flaw.EndInside)
    (λ last. record { before = suc (run (string_unit q) cs); sign = q; size = omega arith; last = last; other = quote_no_space q is })
    (either_name (q ∷ cs) (first_passes is_newline rest) (Err flaw.BadString) (Err flaw.EndInside) tt tt)

hash_name : (c : ℕ) (cs : List ℕ) → HasName (c ∷ cs) (hash_shape cs)
hash_name c cs =
    either_name (c ∷ cs) (nat_lt 0 (name_unit cs)) (done (if nat_lt 0 (name_start cs) then kind.IdHash else kind.Hash) (1 + name_len cs)) (done (kind.Delim hash) 1)
    (which (nat_lt 0 (name_start cs))) tt
  where
    which : (b : Bool) → HasName (c ∷ cs) (done (if b then kind.IdHash else kind.Hash) (1 + name_len cs))
    which true = refl
    which false = tt

number_name : (text : List ℕ) (n : ℕ) (rest : List ℕ) → HasName text (number_shape n rest)
number_name text n rest =
    either_name text (nat_lt 0 (name_start rest)) (done kind.Dimension (n + name_len rest)) (if begins percent rest then done kind.Percentage (n + 1) else done kind.Number n) tt
    (either_name text (begins percent rest) (done kind.Percentage (n + 1)) (done kind.Number n) tt tt)

less_name : (text cs : List ℕ) → HasName text (less_shape cs)
less_name text cs = either_name text (begins 33 cs && (begins dash (drop 1 cs) && begins dash (drop 2 cs))) (done kind.CommentOpen 4) (done (kind.Delim less_than) 1) tt tt

at_name : (c : ℕ) (cs : List ℕ) → HasName (c ∷ cs) (at_shape cs)
at_name c cs = either_name (c ∷ cs) (nat_lt 0 (name_start cs)) (done kind.AtKeyword (1 + name_len cs)) (done (kind.Delim at_sign) 1) refl tt

url_name : (text : List ℕ) (n : ℕ) (rest : List ℕ) → HasName text (url_end n rest)
url_name text n rest =
    either_name text (begins close_round rest) (done kind.Url (n + 1)) (if length rest == 0 then Err flaw.EndInside else Err flaw.BadUrl) tt
    (either_name text (length rest == 0) (Err flaw.EndInside) (Err flaw.BadUrl) tt tt)

url_shape_name : (text : List ℕ) (n : ℕ) (rest : List ℕ) → HasName text (url_shape n rest)
url_shape_name text n rest =
    let behind = drop (run url_unit rest) rest in
    url_name text (n + run url_unit rest + run white_unit behind) (after_white behind)

opened_name : (text name : List ℕ) (n : ℕ) (rest : List ℕ) → begins open_round (drop n text) ≡ true → HasName text (opened_shape name (n + 1) rest)
opened_name text name n rest opened =
    let called : EndsWithSign text (n + 1) = record { before = n; sign = open_round; size = refl; last = opened; other = refl } in
    let url = url_shape (n + 1 + run white_unit rest) (after_white rest) in
    either_name text (is_url name) (if first_passes is_quote (after_white rest) then done kind.Function (n + 1) else url) (done kind.Function (n + 1))
    (either_name text (first_passes is_quote (after_white rest)) (done kind.Function (n + 1)) url called (url_shape_name text (n + 1 + run white_unit rest) (after_white rest))) called

word_name : (c : ℕ) (cs : List ℕ) → HasName (c ∷ cs) (word_at (c ∷ cs))
word_name c cs =
    let text = c ∷ cs in
    let n = name_len text in
    either_name text (c == dash && (begins dash cs && begins greater_than (drop 1 cs))) (done kind.CommentClose 3)
    (if nat_lt 0 (name_start text) then named_shape text else done (if is_sign c then kind.Sign c else kind.Delim c) 1) tt
    (either_name text (nat_lt 0 (name_start text)) (named_shape text) (done (if is_sign c then kind.Sign c else kind.Delim c) 1)
    (either_given text (begins open_round (drop n text)) (opened_shape (take n text) (n + 1) (drop (n + 1) text)) (done kind.Ident n)
    (opened_name text (take n text) n (drop (n + 1) text)) refl)
    (which (is_sign c)))
  where
    which : (b : Bool) → HasName (c ∷ cs) (done (if b then kind.Sign c else kind.Delim c) 1)
    which true = tt
    which false = tt

symbol_name : (c : ℕ) (cs : List ℕ) → HasName (c ∷ cs) (symbol_at (c ∷ cs))
symbol_name c cs =
    let text = c ∷ cs in
    let numbers = number_shape (number_len text) (drop (number_len text) text) in
    either_name text (nat_lt 0 (signed_decimal text)) numbers (if c == less_than then less_shape cs else if c == at_sign then at_shape cs else word_at text) (number_name text (number_len text) (drop (number_len text) text))
    (either_name text (c == less_than) (less_shape cs) (if c == at_sign then at_shape cs else word_at text) (less_name text cs)
    (either_name text (c == at_sign) (at_shape cs) (word_at text) (at_name c cs) (word_name c cs)))

rule_name : (text : List ℕ) → HasName text (rule_at text)
rule_name [] = tt
rule_name (c ∷ cs) =
    let text = c ∷ cs in
    let whites = done kind.White (run white_unit text) in
    either_name text (c == slash) (slash_shape cs) (if is_white c then whites else if is_quote c then string_shape c cs else if c == hash then hash_shape cs else symbol_at text) (slash_name c cs)
    (either_name text (is_white c) whites (if is_quote c then string_shape c cs else if c == hash then hash_shape cs else symbol_at text) tt
    (either_given text (is_quote c) (string_shape c cs) (if c == hash then hash_shape cs else symbol_at text) (string_name c cs)
    (either_name text (c == hash) (hash_shape cs) (symbol_at text) (hash_name c cs) (symbol_name c cs))))

within_name : (text : List ℕ) (r : Result Shape TokenFlaw) → HasName text r → HasName text (within text r)
within_name text (Err f) has = tt
within_name text (Ok s) has = either_name text (nat_lt (length text) s.1) (Err flaw.EndInside) (Ok s) tt has

-- the length of the name in a token at the front of a text
part_name : (text : List ℕ) (k : TokenKind) (n : ℕ) → part_at text ≡ done k n → NameIs k text n
part_name text k n e = subst (HasName text) e (within_name text (rule_at text) (rule_name text))

-- a token that ends in its text, and, where it is open, takes one of two spaces behind it
pub record IsNamed (k : TokenKind) (v : List ℕ) : Type 0 where
  pub alone : part_at v ≡ done k (length v)
  pub near : is_open v ≡ true → part_at (v ++ space ∷ space ∷ []) ≡ done k (suc (length v))

-- the kinds of tokens whose names are read
abbrev pub has_name : TokenKind → Bool
has_name kind.Ident = true
has_name kind.AtKeyword = true
has_name kind.IdHash = true
has_name _ = false

less_both : (v : List ℕ) → 1 + name_len (drop 1 v) ≡ length v → 1 + name_len (drop 1 (v ++ space ∷ space ∷ [])) ≡ suc (length v) → unescaped (drop 1 (v ++ space ∷ [])) ≡ unescaped (drop 1 v)
less_both [] alone near = refl
less_both (c ∷ cs) alone near = name_closed cs (omega (arith, alone)) (omega (arith, near))

-- the kinds of tokens that end with a sign
abbrev pub ends_with_sign : TokenKind → Bool
ends_with_sign kind.Function = true
ends_with_sign kind.Str = true
ends_with_sign _ = false

-- a token of this kind takes one of two spaces behind it where it is open
abbrev pub TakesSpace : TokenKind → List ℕ → Type 0
TakesSpace k v = is_open v ≡ true → part_at (v ++ space ∷ space ∷ []) ≡ done k (suc (length v))

-- which one that ends with a sign does not
no_sign_behind : (v : List ℕ) → EndsWithSign (v ++ space ∷ space ∷ []) (suc (length v)) → ⊥
no_sign_behind v ends =
    let len : ends.before ≡ length v = omega (arith, ends.size) in
    let behind : drop ends.before (v ++ space ∷ space ∷ []) ≡ space ∷ space ∷ [] =
    ap (λ (n : ℕ). drop n (v ++ space ∷ space ∷ [])) len ∙ drop-append_seam v (space ∷ space ∷ []) in
    absurd (false≢true (sym ends.other ∙ sym (ap (begins ends.sign) behind) ∙ ends.last))

name_same : (k : TokenKind) (v : List ℕ) → (has_name k ≡ true → IsNamed k v) → (ends_with_sign k ≡ true → TakesSpace k v) → is_open v ≡ true
    → unescaped (name_in k (v ++ space ∷ [])) ≡ unescaped (name_in k v)
name_same kind.Ident v named signed is =
    let both = named refl in
    name_closed v (part_name v kind.Ident (length v) both.alone) (part_name (v ++ space ∷ space ∷ []) kind.Ident (suc (length v)) (both.near is))
name_same kind.AtKeyword v named signed is =
    let both = named refl in
    less_both v (part_name v kind.AtKeyword (length v) both.alone) (part_name (v ++ space ∷ space ∷ []) kind.AtKeyword (suc (length v)) (both.near is))
name_same kind.IdHash v named signed is =
    let both = named refl in
    less_both v (part_name v kind.IdHash (length v) both.alone) (part_name (v ++ space ∷ space ∷ []) kind.IdHash (suc (length v)) (both.near is))
name_same kind.Function v named signed is =
    absurd (no_sign_behind v (part_name (v ++ space ∷ space ∷ []) kind.Function (suc (length v)) (signed refl is)))
name_same kind.Str v named signed is =
    absurd (no_sign_behind v (part_name (v ++ space ∷ space ∷ []) kind.Str (suc (length v)) (signed refl is)))
name_same _ v named signed is = refl

-- White space behind a token closes its open escape, and changes no name.
pub is_closable : (source : List ℕ) (x : Lexeme) → IsShut (text_at source x.span) → (has_name x.kind ≡ true → IsNamed x.kind (text_at source x.span))
    → (ends_with_sign x.kind ≡ true → TakesSpace x.kind (text_at source x.span)) → IsClosable source x
is_closable source x shut named signed = record { shut = shut; name = name_same x.kind (text_at source x.span) named signed }
