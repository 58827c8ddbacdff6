-- Tokens that end in a byte of their own, as strings and urls, and so in no open escape.
use Rattle.std.proofs.Common.{ℕ, zero, suc, ◌+◌, ◌<◌, ◌≤◌, ◌≡◌, Bool, true, false, cond, ◌==◌, ◌&&◌, ◌||◌, List, [], ◌∷◌, ◌++◌, Err, Some, length, drop, refl, sym, ap, ◌∙◌, arith}
use Rattle.std.proofs.lemmas.Bool.{eqb-true, ne_eqb}
use Rattle.std.proofs.lemmas.List.{drop-append-le, drop-drop, length-drop}
use Rattle.std.specs.Char.{is_ascii_hexdigit}
use Rattle.css_model.specs.declared.token.TokenKind.{TokenKind}
use Rattle.css_model.specs.declared.token.TokenFlaw.TheVariants as flaw
use Rattle.css_model.specs.declared.token.TokenKind.TheVariants as kind
use Rattle.css_model.specs.Text.Characters.{backslash, close_round, is_newline, begins, first_passes}
use Rattle.css_model.specs.Text.Runs.{run}
use Rattle.css_model.specs.Text.Units.{white_unit, string_unit, url_unit}
use Rattle.css_model.specs.Lists.{less_one}
use Rattle.css_model.specs.Text.Names.{is_url}
use Rattle.css_model.specs.Text.Units.{escape_after}
use Rattle.css_model.specs.Text.TokenAt.{Shape, done, is_quote, string_shape, url_shape, opened_shape, after_white}
use Rattle.token_laws.specs.Alike.{ends_itself}
use Rattle.css_model.specs.Text.Kept.{is_open_hex, is_open_escape, is_open_from, is_open}

-- the last byte of a text
pub record LastIs (x : ℕ) (text : List ℕ) : Type 0 where
  pub at : ℕ
  pub is : drop at text ≡ x ∷ []

pub last_behind : (x n : ℕ) (text : List ℕ) → LastIs x (drop n text) → LastIs x text
last_behind x n text last = record { at = n + last.at; is = sym (drop-drop last.at n text) ∙ last.is }

-- neither a hex digit nor a backslash
pub record IsCloser (x : ℕ) : Type 0 where
  pub no_digit : is_ascii_hexdigit x ≡ false
  pub no_backslash : (x == backslash) ≡ false

hex_closed : (x : ℕ) → IsCloser x → (n at : ℕ) (text : List ℕ) → drop at text ≡ x ∷ [] → is_open_hex n text ≡ false
hex_closed x closer n at [] last = absurd (no_last at last)
  where
    no_last : (at : ℕ) → drop {A = ℕ} at [] ≡ x ∷ [] → ⊥
    no_last zero last = cc
    no_last (suc at) last = cc
hex_closed x closer zero at (c ∷ cs) last = refl
hex_closed x closer (suc n) zero (c ∷ cs) last =
    let first : c ≡ x = cc in
    let no_digit : is_ascii_hexdigit c ≡ false = rw first closer.no_digit in
    rw no_digit refl
hex_closed x closer (suc n) (suc at) (c ∷ cs) last = which (is_ascii_hexdigit c) (hex_closed x closer n at cs last)
  where
    which : (b : Bool) → is_open_hex n cs ≡ false → (b && is_open_hex n cs) ≡ false
    which true later = later
    which false later = refl

escape_closed : (x : ℕ) → IsCloser x → (at : ℕ) (text : List ℕ) → drop at text ≡ x ∷ [] → is_open_escape text ≡ false
escape_closed x closer at [] last = refl
escape_closed x closer at (c ∷ cs) last = hex_closed x closer 6 at (c ∷ cs) last

closed_from : (x : ℕ) → IsCloser x → (left at : ℕ) (text : List ℕ) → drop at text ≡ x ∷ [] → is_open_from left text ≡ false
closed_from x closer left at [] last = refl
closed_from x closer (suc left) zero (c ∷ cs) last = let none : cs ≡ [] = cc in rw none refl
closed_from x closer (suc left) (suc at) (c ∷ cs) last = closed_from x closer left at cs last
closed_from x closer zero zero (c ∷ cs) last =
    let none : cs ≡ [] = cc in
    let first : c ≡ x = cc in
    let other : (c == backslash) ≡ false = rw first closer.no_backslash in
    rw (other, none) refl
closed_from x closer zero (suc at) (c ∷ cs) last =
    which (c == backslash) (escape_closed x closer at cs last) (closed_from x closer (less_one (escape_after cs)) at cs last) (closed_from x closer 0 at cs last)
  where
    which : (b : Bool) → is_open_escape cs ≡ false → is_open_from (less_one (escape_after cs)) cs ≡ false → is_open cs ≡ false
        → cond b (is_open_escape cs || is_open_from (less_one (escape_after cs)) cs) (is_open cs) ≡ false
    which true escape behind next = rw escape behind
    which false escape behind next = next

pub last_closed : (x : ℕ) (text : List ℕ) → IsCloser x → LastIs x text → is_open text ≡ false
last_closed x text closer last = closed_from x closer 0 last.at text last.is

-- a rest of one byte that begins with this one
pub only_is : (q : ℕ) (u old : List ℕ) → length u ≡ 1 → begins q (u ++ old) ≡ true → u ≡ q ∷ []
only_is q [] old one first = absurd (omega arith)
only_is q (c ∷ []) old one first = ap (λ (c : ℕ). c ∷ []) (eqb-true c q first)
only_is q (c ∷ d ∷ ds) old one first = absurd (omega arith)

pub done_len : (k j : TokenKind) (n m : ℕ) → done k n ≡ done j m → n ≡ m
done_len k j n m same = let shapes : ◌≡◌ {A = Shape} (Some k, n) (Some j, m) = cc in ap (λ (s : Shape). s.1) shapes

-- the kind that was read ends itself
pub itself_of : (j k : TokenKind) (n m : ℕ) → done j n ≡ done k m → ends_itself (Some j) ≡ true → ends_itself (Some k) ≡ true
itself_of j k n m is itself =
    let shapes : ◌≡◌ {A = Shape} (Some j, n) (Some k, m) = cc in
    ap (λ (s : Shape). ends_itself s.0) (sym shapes) ∙ itself

-- a token that ends itself, and in no open escape
pub record IsShut (k : TokenKind) (v : List ℕ) : Type 0 where
  pub itself : ends_itself (Some k) ≡ true
  pub closed : is_open v ≡ false

quote_closer : (q : ℕ) → is_quote q ≡ true → IsCloser q
quote_closer q is = record { no_digit = grind (arith, is); no_backslash = ne_eqb q backslash (λ (same : q ≡ backslash). grind (arith, rw same at is)) }

pub string_shut : (q : ℕ) (cs old : List ℕ) (k : TokenKind) → is_quote q ≡ true → string_shape q (cs ++ old) ≡ done k (suc (length cs)) → IsShut k (q ∷ cs)
string_shut q cs old k quoted is = which (begins q (drop (run (string_unit q) (cs ++ old)) (cs ++ old))) refl is
  where
    no_string : (b : Bool) → cond b (Err flaw.BadString) (Err flaw.EndInside) ≡ done k (suc (length cs)) → ⊥
    no_string true is = cc
    no_string false is = cc

    which : (b : Bool) → begins q (drop (run (string_unit q) (cs ++ old)) (cs ++ old)) ≡ b
        → cond b (done kind.Str (2 + run (string_unit q) (cs ++ old))) (cond (first_passes is_newline (drop (run (string_unit q) (cs ++ old)) (cs ++ old))) (Err flaw.BadString) (Err flaw.EndInside))
        ≡ done k (suc (length cs)) → IsShut k (q ∷ cs)
    which false ends is = absurd (no_string (first_passes is_newline (drop (run (string_unit q) (cs ++ old)) (cs ++ old))) is)
    which true ends is =
        let n = run (string_unit q) (cs ++ old) in
        let len : 2 + n ≡ suc (length cs) = done_len kind.Str k (2 + n) (suc (length cs)) is in
        let cut : drop n (cs ++ old) ≡ drop n cs ++ old = drop-append-le n cs old (omega (arith, len)) in
        let last : drop n cs ≡ q ∷ [] = only_is q (drop n cs) old (omega (arith, len, length-drop n cs)) (ap (begins q) (sym cut) ∙ ends) in
        record {
          itself = itself_of kind.Str k (2 + n) (suc (length cs)) is refl;
          closed = last_closed q (q ∷ cs) (quote_closer q quoted) (record { at = suc n; is = last });
        }

no_url_end : (b : Bool) (k : TokenKind) (n : ℕ) → cond b (Err flaw.EndInside) (Err flaw.BadUrl) ≡ done k n → ⊥
no_url_end true k n is = cc
no_url_end false k n is = cc

-- the lengths of a url, up to the `)` that ends it
record UrlParts (n : ℕ) (text : List ℕ) (k : TokenKind) (len : ℕ) : Type 0 where
  itself : ends_itself (Some k) ≡ true
  ends : begins close_round (after_white (drop (run url_unit text) text)) ≡ true
  size : n + run url_unit text + run white_unit (drop (run url_unit text) text) + 1 ≡ len

url_parts : (n : ℕ) (text : List ℕ) (k : TokenKind) (len : ℕ) → url_shape n text ≡ done k len → UrlParts n text k len
url_parts n text k len is = which (begins close_round (after_white (drop (run url_unit text) text))) refl is
  where
    m : ℕ
    m = n + run url_unit text + run white_unit (drop (run url_unit text) text)

    which : (b : Bool) → begins close_round (after_white (drop (run url_unit text) text)) ≡ b
        → cond b (done kind.Url (n + run url_unit text + run white_unit (drop (run url_unit text) text) + 1))
        (cond (length (after_white (drop (run url_unit text) text)) == 0) (Err flaw.EndInside) (Err flaw.BadUrl)) ≡ done k len → UrlParts n text k len
    which true ends is = record { itself = itself_of kind.Url k (m + 1) len is refl; ends = ends; size = done_len kind.Url k (m + 1) len is }
    which false ends is = absurd (no_url_end (length (after_white (drop (run url_unit text) text)) == 0) k len is)

-- one length and then another, up to a last byte
drop_two : (n m : ℕ) (u old : List ℕ) → n + m ≤ length u → drop m (drop n (u ++ old)) ≡ drop (n + m) u ++ old
drop_two n m u old fits = drop-drop m n (u ++ old) ∙ drop-append-le (n + m) u old fits

url_last : (n : ℕ) (y old : List ℕ) (k : TokenKind) → url_shape n (y ++ old) ≡ done k (n + length y) → LastIs close_round y
url_last n y old k is =
    let parts = url_parts n (y ++ old) k (n + length y) is in
    let r = run url_unit (y ++ old) in
    let b = run white_unit (drop r (y ++ old)) in
    let cut : drop b (drop r (y ++ old)) ≡ drop (r + b) y ++ old = drop_two r b y old (omega (arith, parts.size)) in
    let one : length (drop (r + b) y) ≡ 1 = omega (arith, parts.size, length-drop (r + b) y) in
    record { at = r + b; is = only_is close_round (drop (r + b) y) old one (ap (begins close_round) (sym cut) ∙ parts.ends) }

-- what stands behind a name and `(`, which take m bytes: nothing of a function, or the rest of a url
pub record OpenedLast (m : ℕ) (u : List ℕ) (k : TokenKind) : Type 0 where
  pub itself : ends_itself (Some k) ≡ true
  pub last : 0 < length u → LastIs close_round u

pub opened_last : (name : List ℕ) (m : ℕ) (u old : List ℕ) (k : TokenKind) → opened_shape name m (u ++ old) ≡ done k (m + length u) → OpenedLast m u k
opened_last name m u old k is = which (is_url name) (first_passes is_quote (after_white (u ++ old))) is
  where
    called : done kind.Function m ≡ done k (m + length u) → OpenedLast m u k
    called is =
        let len = done_len kind.Function k m (m + length u) is in
        record { itself = itself_of kind.Function k m (m + length u) is refl; last = λ some. absurd (omega (arith, len, some)) }

    which : (b q : Bool) → cond b (cond q (done kind.Function m) (url_shape (m + run white_unit (u ++ old)) (after_white (u ++ old)))) (done kind.Function m) ≡ done k (m + length u) → OpenedLast m u k
    which false q is = called is
    which true true is = called is
    which true false is =
        let w = run white_unit (u ++ old) in
        let parts = url_parts (m + w) (after_white (u ++ old)) k (m + length u) is in
        let inside : w < length u = omega (arith, parts.size) in
        let cut : drop w (u ++ old) ≡ drop w u ++ old = drop-append-le w u old (omega (arith, inside)) in
        let len : m + length u ≡ m + w + length (drop w u) = omega (arith, inside, length-drop w u) in
        let here : url_shape (m + w) (drop w u ++ old) ≡ done k (m + w + length (drop w u)) = ap (url_shape (m + w)) (sym cut) ∙ is ∙ ap (done k) len in
        record { itself = parts.itself; last = λ _. last_behind close_round w u (url_last (m + w) (drop w u) old k here) }
