-- A text that begins with the bytes of a source's first token begins with a byte order mark only where the source does.
use Rattle.std.proofs.Common.{ℕ, zero, suc, ◌-◌, ◌<◌, ◌≤◌, ◌≡◌, Bool, true, false, List, [], ◌∷◌, ◌++◌, Some, Ok, length, drop, take, refl, sym, ap, ◌∙◌, subst, arith}
use Rattle.std.specs.Prelude.{⊤, if◌then◌else◌, nat_eq}
use Rattle.std.specs.List.{starts_with}
use Rattle.std.specs.Str.{IsUtf8, is_utf8, chars}
use Rattle.std.specs.Str.Lossy.{utf8_valid_len, valid_len_up_to}
use Rattle.std.proofs.lemmas.Bool.{and_parts, eqb-true, false≢true}
use Rattle.std.proofs.lemmas.List.{length-take-le, take-append-drop}
use Rattle.std.proofs.lemmas.Str.{IsUtf8-nil, IsUtf8-from_is_utf8, is_utf8-from_IsUtf8, IsUtf8-take}
use Rattle.std.proofs.Math.Seq.{take-length}
use Rattle.css_model.specs.declared.token.Bracket.{Bracket}
use Rattle.css_model.specs.declared.token.Lexeme.{Lexeme}
use Rattle.css_model.specs.declared.token.Token.{Token}
use Rattle.css_model.specs.Text.Lexemes.{is_white_kind, lexeme, lexemes_in, after}
use Rattle.css_model.specs.Text.TokenAt.{part_at}
use Rattle.css_model.specs.Text.Tokens.{byte_order_mark}
use Rattle.css_tokens.specs.Laws.{Restarts}
use Rattle.css_tokens.proofs.ForCallers.{part_len, part_whole}
use Rattle.print_laws.proofs.Length.Items.{BeginsWith}

-- the first token is read where it stands
abbrev pub FirstReads : List ℕ → List Lexeme → Type 0
FirstReads source [] = ⊤
FirstReads source (x ∷ xs) = part_at (drop x.span.start source) ≡ Ok (Some x.kind, x.span.«end» - x.span.start)

pub first_reads : (source : List ℕ) (brackets : List Bracket) (from : ℕ) (ts : List Token) → Restarts source from ts → FirstReads source (lexemes_in brackets ts)
first_reads source brackets from [] restart = tt
first_reads source brackets from (t ∷ ts) (low, stands, again, restart) = which (is_white_kind t.kind) (first_reads source brackets t.span.«end» ts restart)
  where
    which : (b : Bool) → FirstReads source (lexemes_in brackets ts)
        → FirstReads source (if b then lexemes_in brackets ts else lexeme (length brackets) t ts ∷ lexemes_in (after t brackets) ts)
    which true later = later
    which false later = stands.reads

valid_up_to : (bs : List ℕ) (n : ℕ) → valid_len_up_to bs n ≤ n
valid_up_to bs zero = omega arith
valid_up_to bs (suc n) = which (is_utf8 (take (suc n) bs)) (valid_up_to bs n)
  where
    which : (b : Bool) → valid_len_up_to bs n ≤ n → (if b then suc n else valid_len_up_to bs n) ≤ suc n
    which true shorter = omega arith
    which false shorter = omega (arith, shorter)

valid_all : (bs : List ℕ) (n : ℕ) → n ≤ valid_len_up_to bs n → is_utf8 (take n bs) ≡ true
valid_all bs zero whole = is_utf8-from_IsUtf8 [] IsUtf8-nil
valid_all bs (suc n) whole = which (is_utf8 (take (suc n) bs)) whole (valid_up_to bs n)
  where
    which : (b : Bool) → suc n ≤ (if b then suc n else valid_len_up_to bs n) → valid_len_up_to bs n ≤ n → b ≡ true
    which true whole shorter = refl
    which false whole shorter = absurd (omega (arith, whole, shorter))

-- a text whose longest front in UTF-8 is all of it
pub valid_utf8 : (bs : List ℕ) → length bs ≤ utf8_valid_len bs → IsUtf8 bs
unfolding utf8_valid_len
valid_utf8 bs whole = IsUtf8-from_is_utf8 bs (ap is_utf8 (sym (take-length bs)) ∙ valid_all bs (length bs) whole)

-- the first byte of a character of three begins no shorter text in UTF-8
one_short : IsUtf8 (0xEF ∷ []) → ⊥
unfolding is_utf8 chars
one_short whole = absurd (false≢true (is_utf8-from_IsUtf8 (0xEF ∷ []) whole))

two_short : IsUtf8 (0xEF ∷ 0xBB ∷ []) → ⊥
unfolding is_utf8 chars
two_short whole = absurd (false≢true (is_utf8-from_IsUtf8 (0xEF ∷ 0xBB ∷ []) whole))

-- so a text begins with a mark by its first part, where that is not empty
pub mark_front : (bytes more tail : List ℕ) → IsUtf8 bytes → 0 < length bytes → starts_with nat_eq (bytes ++ more) byte_order_mark ≡ true → starts_with nat_eq (bytes ++ tail) byte_order_mark ≡ true
mark_front [] more tail whole some is = absurd (omega (arith, some))
mark_front (a ∷ []) more tail whole some is =
    let first = eqb-true 0xEF a (and_parts (nat_eq 0xEF a) _ is).0 in
    absurd (one_short (subst (λ (c : ℕ). IsUtf8 (c ∷ [])) (sym first) whole))
mark_front (a ∷ b ∷ []) more tail whole some is =
    let both = and_parts (nat_eq 0xEF a) _ is in
    let first = eqb-true 0xEF a both.0 in
    let second = eqb-true 0xBB b (and_parts (nat_eq 0xBB b) _ both.1).0 in
    absurd (two_short (subst (λ (c : ℕ). IsUtf8 (0xEF ∷ c ∷ [])) (sym second) (subst (λ (c : ℕ). IsUtf8 (c ∷ b ∷ [])) (sym first) whole)))
mark_front (a ∷ b ∷ c ∷ cs) more tail whole some is = is

-- the source begins with a byte order mark if what begins with its first token's bytes does
pub first_mark : (source : List ℕ) (x : Lexeme) (xs : List Lexeme) (text : List ℕ) → IsUtf8 source → FirstReads source (x ∷ xs) → x.span.start ≡ 0 → BeginsWith source x text
    → starts_with nat_eq text byte_order_mark ≡ true → starts_with nat_eq source byte_order_mark ≡ true
first_mark source x xs text whole reads zero_is begins is =
    let n = x.span.«end» - x.span.start in
    let rest = drop x.span.start source in
    let same : rest ≡ source = ap (λ (m : ℕ). drop m source) zero_is in
    let utf8 : IsUtf8 rest = subst IsUtf8 (sym same) whole in
    let bytes = take n rest in
    let len = part_len rest (Some x.kind, n) reads in
    let front : IsUtf8 bytes = IsUtf8-take rest n utf8 (part_whole rest (Some x.kind, n) utf8 reads) in
    let size : length bytes ≡ n = length-take-le n rest len.1 in
    let starts : starts_with nat_eq (bytes ++ begins.more) byte_order_mark ≡ true = ap (λ (cs : List ℕ). starts_with nat_eq cs byte_order_mark) (sym begins.is) ∙ is in
    let split : source ≡ bytes ++ drop n rest = sym same ∙ sym (take-append-drop n rest) in
    ap (λ (cs : List ℕ). starts_with nat_eq cs byte_order_mark) split ∙ mark_front bytes begins.more (drop n rest) front (omega (arith, size, len.0)) starts
