-- A token or a comment of a text of whole characters ends where a character ends.
use Rattle.std.proofs.Common.{ℕ, zero, suc, ◌+◌, ◌<◌, ◌≤◌, ◌≡◌, ◌==◌, Bool, true, false, cond, ltb, List, [], ◌∷◌, ◌++◌, length, drop, take, get_or, slice_index, Result, Ok, Err, Option, Some, None, refl, sym, ap, ◌∙◌, subst, arith}
use Rattle.std.specs.Prelude.{⊤, ◌&&◌}
use Rattle.std.specs.List.{AllByRecursion}
use Rattle.std.specs.Str.{IsUtf8, IsCharBoundary}
use Rattle.std.proofs.lemmas.Bool.{ltb-false, eqb-true, and_parts, false≢true, cond-true, cond-false}
use Rattle.std.proofs.lemmas.List.{drop-drop, drop_more, length-drop}
use Rattle.std.proofs.lemmas.Str.{IsCharBoundary-start, IsCharBoundary-after_ascii, IsCharBoundary-from_rest, IsUtf8-drop, IsUtf8-take}
use Rattle.std.proofs.Math.Seq.{take-append_seam, drop-append_seam}
use Rattle.css_model.specs.declared.token.TokenKind.{TokenKind}
use Rattle.css_model.specs.declared.token.TokenKind.TheVariants as kind
use Rattle.css_model.specs.declared.token.TokenFlaw.{TokenFlaw}
use Rattle.css_model.specs.Text.Characters.{dash, slash, star, hash, is_start, is_name, is_white, is_sign, is_newline, carriage_return, line_feed, less_than, greater_than, at_sign, percent, open_round, close_round, begins, first_passes}
use Rattle.css_model.specs.Text.Runs.{run}
use Rattle.css_model.specs.Text.Units.{white_unit, comment_unit, url_unit, string_unit, name_unit, start_unit, name_start, name_len, number_len, one_and, signed_decimal}
use Rattle.css_model.specs.Text.TokenAt.{Shape, rule_at, part_at, slash_shape, comment_shape, string_shape, hash_shape, number_shape, less_shape, at_shape, url_shape, url_end, opened_shape, named_shape, word_at, symbol_at, done, is_quote, after_white}
use Rattle.css_model.specs.Text.Tokens.{Part, text_of}
use Rattle.css_model.specs.Text.Names.{is_url}
use Rattle.css_tokens.specs.Lexed.{IsLexed}
use Rattle.css_tokens.proofs.CommentLemmas.{closes}
use Rattle.css_tokens.proofs.CommentParts.{star_closes}
use Rattle.css_tokens.proofs.PartLemmas.{Holds, part_rule}
use Rattle.css_tokens.proofs.RunLemmas.{run_none, run_unit}

pub branch : {P : Shape → Type 0} (b : Bool) (x y : Result Shape TokenFlaw) → (b ≡ true → Holds P x) → (b ≡ false → Holds P y) → Holds P (cond b x y)
branch true x y left right = left refl
branch false x y left right = right refl

-- a run ends where no unit begins
run_stops : (unit : List ℕ → ℕ) → unit [] ≡ 0 → (n : ℕ) (text : List ℕ) → length text ≤ n → unit (drop (run unit text) text) ≡ 0
run_stops unit nil n [] short = nil
run_stops unit nil zero (c ∷ cs) short = absurd (omega arith)
run_stops unit nil (suc n) (c ∷ cs) short = which (unit (c ∷ cs)) refl (λ m. run_stops unit nil n (drop m cs) (omega (arith, length-drop m cs)))
  where
    which : (m : ℕ) → unit (c ∷ cs) ≡ m → ((m : ℕ) → unit (drop (run unit (drop m cs)) (drop m cs)) ≡ 0) → unit (drop (run unit (c ∷ cs)) (c ∷ cs)) ≡ 0
    which zero is later = ap (λ (k : ℕ). unit (drop k (c ∷ cs))) (run_none unit (c ∷ cs) is) ∙ is
    which (suc m) is later =
        let whole : run unit (c ∷ cs) ≡ suc m + run unit (drop m cs) = run_unit unit (c ∷ cs) (suc m) (omega arith) is (omega arith) in
        let size : suc m + run unit (drop m cs) ≡ suc (m + run unit (drop m cs)) = omega arith in
        ap (λ (k : ℕ). unit (drop k (c ∷ cs))) (whole ∙ size) ∙ ap unit (sym (drop-drop (run unit (drop m cs)) m cs)) ∙ later m

-- the bytes that a name does not go on with are ASCII
low_start : (c : ℕ) → is_start c ≡ false → c < 128
low_start c no_start = grind (arith, no_start)

low_name : (c : ℕ) → is_name c ≡ false → c < 128
low_name c no_name = grind (arith, no_name)

low_white : (c : ℕ) → is_white c ≡ true → c < 128
low_white c white = grind (arith, white)

low_quote : (c : ℕ) → is_quote c ≡ true → c < 128
low_quote c quoted = grind (arith, quoted)

-- a text begins with none of the later bytes of a character
abbrev LowFirst : List ℕ → Type 0
LowFirst [] = ⊤
LowFirst (c ∷ cs) = c < 128

positive_not : (b : Bool) (m : ℕ) → cond b 1 m ≡ 0 → b ≡ false
positive_not true m e = absurd (omega arith)
positive_not false m e = refl

low_unit : (text : List ℕ) → name_unit text ≡ 0 → LowFirst text
low_unit [] none = tt
low_unit (c ∷ cs) none = low_name c (positive_not (is_name c) _ none)

low_begin : (text : List ℕ) → name_start text ≡ 0 → LowFirst text
low_begin [] none = tt
low_begin (c ∷ cs) none = which (c == dash) refl none
  where
    which : (b : Bool) → c == dash ≡ b → cond b (cond (begins dash cs) 2 (one_and (start_unit cs))) (start_unit (c ∷ cs)) ≡ 0 → c < 128
    which true is e = omega (arith, eqb-true c dash is)
    which false is e = low_start c (positive_not (is_start c) _ e)

-- a character ends at this place of a text, where it has it
abbrev Ends : List ℕ → ℕ → Type 0
Ends text n = n ≤ length text → IsCharBoundary text n

at_low : (text : List ℕ) (n : ℕ) → LowFirst (drop n text) → Ends text n
at_low text n low within = (within, λ inside high. absurd (at inside high))
  where
    at : n < length text → 128 ≤ slice_index text n → ⊥
    at inside high = let first : get_or text n 0 < 128 = subst LowFirst (drop_more text n 0 inside) low in omega (arith, first, high)

behind_low : (text : List ℕ) → IsUtf8 text → (n c : ℕ) → begins c (drop n text) ≡ true → c < 128 → Ends text (n + 1)
behind_low text whole n c is low within =
    let inside : n < length text = omega (arith, within) in
    let first : get_or text n 0 ≡ c = eqb-true (get_or text n 0) c (subst (λ cs. begins c cs ≡ true) (drop_more text n 0 inside) is) in
    IsCharBoundary-after_ascii text n whole inside (omega (arith, first, low))

begins_some : (b : ℕ) (cs : List ℕ) → begins b cs ≡ true → 0 < length cs
begins_some b [] is = absurd (false≢true is)
begins_some b (c ∷ cs) is = omega arith

-- behind a name
behind_name : (text : List ℕ) (n : ℕ) → Ends text (n + run name_unit (drop n text))
behind_name text n = at_low text (n + run name_unit (drop n text))
    (subst LowFirst (drop-drop (run name_unit (drop n text)) n text)
    (low_unit (drop (run name_unit (drop n text)) (drop n text)) (run_stops name_unit refl (length (drop n text)) (drop n text) (omega arith))))

-- behind white space
behind_white : (k : ℕ) (text : List ℕ) → length text ≤ k → IsUtf8 text → Ends text (run white_unit text)
behind_white k [] short whole within = IsCharBoundary-start [] whole
behind_white zero (c ∷ cs) short whole within = absurd (omega arith)
behind_white (suc k) (c ∷ cs) short whole within = which (is_white c) refl (c == carriage_return && begins line_feed cs) refl
    (λ m u. behind_white k (drop m cs) (omega (arith, length-drop m cs)) u)
  where
    text : List ℕ
    text = c ∷ cs

    one : is_white c ≡ true → IsCharBoundary (c ∷ cs) 1
    one white = IsCharBoundary-after_ascii (c ∷ cs) 0 whole (omega arith) (low_white c white)

    further : (m : ℕ) → white_unit (c ∷ cs) ≡ suc m → IsCharBoundary (c ∷ cs) (suc m)
        → ((m : ℕ) → IsUtf8 (drop m cs) → Ends (drop m cs) (run white_unit (drop m cs))) → IsCharBoundary (c ∷ cs) (run white_unit (c ∷ cs))
    further m unit here later =
        let sum : run white_unit (c ∷ cs) ≡ suc m + run white_unit (drop m cs) = run_unit white_unit (c ∷ cs) (suc m) (omega arith) unit (omega arith) in
        let rest : run white_unit (drop m cs) ≤ length (drop m cs) = omega (arith, within, sum, length-drop m cs, here.0) in
        let end = later m (IsUtf8-drop (c ∷ cs) (suc m) whole here) rest in
        subst (IsCharBoundary (c ∷ cs)) (sym sum) (IsCharBoundary-from_rest (c ∷ cs) (suc m) (run white_unit (drop m cs)) here.0 end)

    which : (w : Bool) → is_white c ≡ w → (two : Bool) → (c == carriage_return && begins line_feed cs) ≡ two
        → ((m : ℕ) → IsUtf8 (drop m cs) → Ends (drop m cs) (run white_unit (drop m cs))) → IsCharBoundary (c ∷ cs) (run white_unit (c ∷ cs))
    which false white two pair later =
        subst (IsCharBoundary (c ∷ cs)) (sym (run_none white_unit (c ∷ cs) (cond-false _ _ _ white))) (IsCharBoundary-start (c ∷ cs) whole)
    which true white false pair later = further 0 (cond-true _ _ _ white ∙ cond-false _ _ _ pair) (one white) later
    which true white true pair later =
        further 1 (cond-true _ _ _ white ∙ cond-true _ _ _ pair)
        (behind_low (c ∷ cs) whole 1 line_feed (and_parts (c == carriage_return) (begins line_feed cs) pair).1 (omega arith)
        (let some = begins_some line_feed cs (and_parts (c == carriage_return) (begins line_feed cs) pair).1 in omega (arith, some))) later

-- what a rule reads ends where a character ends
abbrev WholeShape : List ℕ → Shape → Type 0
WholeShape text s = Ends text s.1

ends : (text : List ℕ) (k : Option TokenKind) (n : ℕ) → Ends text n → Holds (WholeShape text) (Ok (k, n))
ends text k n end = record { holds = end }

no_end : (text : List ℕ) (f : TokenFlaw) → Holds (WholeShape text) (Err f)
no_end text f = record { holds = tt }

-- one ASCII byte
one_low : (c : ℕ) (cs : List ℕ) → IsUtf8 (c ∷ cs) → c < 128 → Ends (c ∷ cs) 1
one_low c cs whole low within = IsCharBoundary-after_ascii (c ∷ cs) 0 whole (omega arith) low

url_ends : (text : List ℕ) → IsUtf8 text → (n : ℕ) → Holds (WholeShape text) (url_end n (drop n text))
url_ends text whole n =
    branch (begins close_round (drop n text)) (done kind.Url (n + 1)) _
    (λ is. ends text (Some kind.Url) (n + 1) (behind_low text whole n close_round is (omega arith)))
    (λ _. branch (length (drop n text) == 0) (Err _) (Err _) (λ _. no_end text _) (λ _. no_end text _))

url_whole : (text : List ℕ) → IsUtf8 text → (n : ℕ) → Holds (WholeShape text) (url_shape n (drop n text))
url_whole text whole n =
    let m = run url_unit (drop n text) in
    let k = run white_unit (drop m (drop n text)) in
    let at : drop k (drop m (drop n text)) ≡ drop (n + m + k) text = ap (drop k) (drop-drop m n text) ∙ drop-drop k (n + m) text in
    subst (λ rest. Holds (WholeShape text) (url_end (n + m + k) rest)) (sym at) (url_ends text whole (n + m + k))

opened_whole : (text name : List ℕ) → IsUtf8 text → (n : ℕ) → begins open_round (drop n text) ≡ true → Holds (WholeShape text) (opened_shape name (n + 1) (drop (n + 1) text))
opened_whole text name whole n is =
    let rest = drop (n + 1) text in
    let k = run white_unit rest in
    let call : Holds (WholeShape text) (done kind.Function (n + 1)) = ends text (Some kind.Function) (n + 1) (behind_low text whole n open_round is (omega arith)) in
    let url : Holds (WholeShape text) (url_shape (n + 1 + k) (after_white rest)) =
    subst (λ inner. Holds (WholeShape text) (url_shape (n + 1 + k) inner)) (sym (drop-drop k (n + 1) text)) (url_whole text whole (n + 1 + k)) in
    branch (is_url name) (cond (first_passes is_quote (after_white rest)) (done kind.Function (n + 1)) (url_shape (n + 1 + k) (after_white rest))) (done kind.Function (n + 1))
    (λ _. branch (first_passes is_quote (after_white rest)) (done kind.Function (n + 1)) (url_shape (n + 1 + k) (after_white rest)) (λ _. call) (λ _. url))
    (λ _. call)

named_whole : (text : List ℕ) → IsUtf8 text → Holds (WholeShape text) (named_shape text)
named_whole text whole =
    let n = name_len text in
    branch (begins open_round (drop n text)) (opened_shape (take n text) (n + 1) (drop (n + 1) text)) (done kind.Ident n)
    (opened_whole text (take n text) whole n)
    (λ _. ends text (Some kind.Ident) n (at_low text n (low_unit (drop n text) (run_stops name_unit refl (length text) text (omega arith)))))

zero-not : (n : ℕ) → ltb 0 n ≡ false → n ≡ 0
zero-not zero e = refl
zero-not (suc n) e = absurd (omega (arith, ltb-false 0 (suc n) e))

word_whole : (c : ℕ) (cs : List ℕ) → IsUtf8 (c ∷ cs) → Holds (WholeShape (c ∷ cs)) (word_at (c ∷ cs))
word_whole c cs whole =
    let text = c ∷ cs in
    branch (c == dash && (begins dash cs && begins greater_than (drop 1 cs))) (done kind.CommentClose 3) _
    (λ is. ends text (Some kind.CommentClose) 3 (behind_low text whole 2 greater_than (and_parts (begins dash cs) _ (and_parts (c == dash) _ is).1).1 (omega arith)))
    (λ _. branch (ltb 0 (name_start text)) (named_shape text) (done (cond (is_sign c) (kind.Sign c) (kind.Delim c)) 1)
    (λ _. named_whole text whole)
    (λ none. ends text _ 1 (one_low c cs whole (low_begin text (zero-not (name_start text) none)))))

number_whole : (text : List ℕ) → IsUtf8 text → (n : ℕ) → Holds (WholeShape text) (number_shape n (drop n text))
number_whole text whole n =
    let rest = drop n text in
    branch (ltb 0 (name_start rest)) (done kind.Dimension (n + name_len rest)) _
    (λ _. ends text (Some kind.Dimension) (n + name_len rest) (behind_name text n))
    (λ none. branch (begins percent rest) (done kind.Percentage (n + 1)) (done kind.Number n)
    (λ is. ends text (Some kind.Percentage) (n + 1) (behind_low text whole n percent is (omega arith)))
    (λ _. ends text (Some kind.Number) n (at_low text n (low_begin rest (zero-not (name_start rest) none)))))

hash_whole : (c : ℕ) (cs : List ℕ) → IsUtf8 (c ∷ cs) → c < 128 → Holds (WholeShape (c ∷ cs)) (hash_shape cs)
hash_whole c cs whole low =
    branch (ltb 0 (name_unit cs)) (done (cond (ltb 0 (name_start cs)) kind.IdHash kind.Hash) (1 + name_len cs)) (done (kind.Delim hash) 1)
    (λ _. ends (c ∷ cs) _ (1 + name_len cs) (behind_name (c ∷ cs) 1))
    (λ _. ends (c ∷ cs) _ 1 (one_low c cs whole low))

at_whole : (c : ℕ) (cs : List ℕ) → IsUtf8 (c ∷ cs) → c < 128 → Holds (WholeShape (c ∷ cs)) (at_shape cs)
at_whole c cs whole low =
    branch (ltb 0 (name_start cs)) (done kind.AtKeyword (1 + name_len cs)) (done (kind.Delim at_sign) 1)
    (λ _. ends (c ∷ cs) _ (1 + name_len cs) (behind_name (c ∷ cs) 1))
    (λ _. ends (c ∷ cs) _ 1 (one_low c cs whole low))

less_whole : (c : ℕ) (cs : List ℕ) → IsUtf8 (c ∷ cs) → c < 128 → Holds (WholeShape (c ∷ cs)) (less_shape cs)
less_whole c cs whole low =
    branch (begins 33 cs && (begins dash (drop 1 cs) && begins dash (drop 2 cs))) (done kind.CommentOpen 4) (done (kind.Delim less_than) 1)
    (λ is. ends (c ∷ cs) _ 4 (behind_low (c ∷ cs) whole 3 dash (and_parts (begins dash (drop 1 cs)) _ (and_parts (begins 33 cs) _ is).1).1 (omega arith)))
    (λ _. ends (c ∷ cs) _ 1 (one_low c cs whole low))

symbol_whole : (c : ℕ) (cs : List ℕ) → IsUtf8 (c ∷ cs) → Holds (WholeShape (c ∷ cs)) (symbol_at (c ∷ cs))
symbol_whole c cs whole =
    let text = c ∷ cs in
    branch (ltb 0 (signed_decimal text)) (number_shape (number_len text) (drop (number_len text) text)) _ (λ _. number_whole text whole (number_len text))
    (λ _. branch (c == less_than) (less_shape cs) _ (λ is. less_whole c cs whole (omega (arith, eqb-true c less_than is)))
    (λ _. branch (c == at_sign) (at_shape cs) (word_at text) (λ is. at_whole c cs whole (omega (arith, eqb-true c at_sign is)))
    (λ _. word_whole c cs whole)))

string_whole : (c : ℕ) (cs : List ℕ) → IsUtf8 (c ∷ cs) → c < 128 → Holds (WholeShape (c ∷ cs)) (string_shape c cs)
string_whole c cs whole low =
    let n = run (string_unit c) cs in
    branch (begins c (drop n cs)) (done kind.Str (2 + n)) _
    (λ is. ends (c ∷ cs) _ (2 + n) (λ within. subst (IsCharBoundary (c ∷ cs)) (let e : suc n + 1 ≡ 2 + n = omega arith in e) (behind_low (c ∷ cs) whole (suc n) c is low (omega (arith, within)))))
    (λ _. branch (first_passes is_newline (drop n cs)) (Err _) (Err _) (λ _. no_end (c ∷ cs) _) (λ _. no_end (c ∷ cs) _))

slash_whole : (c : ℕ) (cs : List ℕ) → IsUtf8 (c ∷ cs) → c < 128 → Holds (WholeShape (c ∷ cs)) (slash_shape cs)
slash_whole c [] whole low = ends (c ∷ []) _ 1 (one_low c [] whole low)
slash_whole c (d ∷ ds) whole low =
    let text = c ∷ d ∷ ds in
    let n = run comment_unit ds in
    branch (d == star) (comment_shape ds) (done (kind.Delim slash) 1)
    (λ _. branch (begins star (drop n ds)) (Ok (None, 4 + n)) (Err _)
    (λ is. ends text None (4 + n) (closing c d ds whole n (star_closes ds is)))
    (λ _. no_end text _))
    (λ _. ends text _ 1 (one_low c (d ∷ ds) whole low))
  where
    second : (xs : List ℕ) → closes xs ≡ true → begins slash (drop 1 xs) ≡ true
    second [] is = absurd (false≢true is)
    second (x ∷ xs) is = (and_parts (x == star) (begins slash xs) is).1

    closing : (c d : ℕ) (ds : List ℕ) → IsUtf8 (c ∷ d ∷ ds) → (n : ℕ) → closes (drop n ds) ≡ true → Ends (c ∷ d ∷ ds) (4 + n)
    closing c d ds whole n is within =
        let last : begins slash (drop (n + 1) ds) ≡ true = subst (λ xs. begins slash xs ≡ true) (drop-drop 1 n ds) (second (drop n ds) is) in
        let size : suc (suc (n + 1)) + 1 ≡ 4 + n = omega arith in
        subst (IsCharBoundary (c ∷ d ∷ ds)) size (behind_low (c ∷ d ∷ ds) whole (suc (suc (n + 1))) slash last (omega arith) (omega (arith, within)))

rule_whole : (text : List ℕ) → IsUtf8 text → Holds (WholeShape text) (rule_at text)
rule_whole [] whole = no_end [] _
rule_whole (c ∷ cs) whole =
    let text = c ∷ cs in
    branch (c == slash) (slash_shape cs) _ (λ is. slash_whole c cs whole (omega (arith, eqb-true c slash is)))
    (λ _. branch (is_white c) (done kind.White (run white_unit text)) _ (λ _. ends text _ (run white_unit text) (behind_white (length text) text (omega arith) whole))
    (λ _. branch (is_quote c) (string_shape c cs) _ (λ is. string_whole c cs whole (low_quote c is))
    (λ _. branch (c == hash) (hash_shape cs) (symbol_at text) (λ is. hash_whole c cs whole (omega (arith, eqb-true c hash is)))
    (λ _. symbol_whole c cs whole))))

-- the token or the comment at the front of a text of whole characters
pub part_whole : (text : List ℕ) (s : Shape) → IsUtf8 text → part_at text ≡ Ok s → IsCharBoundary text s.1
part_whole text s whole is =
    let rule = part_rule text s is in
    (subst (Holds (WholeShape text)) rule.0 (rule_whole text whole)).holds rule.1

-- so each part of such a text is whole characters
pub lexed_whole : (ps : List Part) → IsLexed ps → IsUtf8 (text_of ps) → AllByRecursion (λ p. IsUtf8 p.bytes) ps
lexed_whole [] lexed whole = tt
lexed_whole (p ∷ ps) (is, lexed) whole =
    let end = part_whole (p.bytes ++ text_of ps) (p.kind, length p.bytes) whole is in (
      subst IsUtf8 (take-append_seam p.bytes (text_of ps)) (IsUtf8-take (p.bytes ++ text_of ps) (length p.bytes) whole end),
      lexed_whole ps lexed (subst IsUtf8 (drop-append_seam p.bytes (text_of ps)) (IsUtf8-drop (p.bytes ++ text_of ps) (length p.bytes) whole end)),
    )
