-- Fields hold no space and no line feed.
use Rattle.std.proofs.Common.{ℕ, ◌+◌, ◌/◌, ◌%◌, ◌≡◌, ◌≤◌, ◌<◌, ◌^◌, Bool, true, false, not, cond, ◌==◌, ◌&&◌, ◌||◌, List, [], ◌∷◌, ◌++◌, refl, sym, subst, arith}
use Rattle.std.specs.Prelude.{decimal, nat_lt}
use Rattle.std.specs.List.{flat_map, list_all}
use Rattle.std.specs.Str.{encode_utf8_all}
use Rattle.std.proofs.lemmas.Bool.{and_from, and_parts, eqb-true, ne_eqb, true≢false}
use Rattle.std.proofs.lemmas.Fmt.{decimal_by_steps}
use Rattle.css_model.specs.Text.Characters.{line_feed, percent, space}
use Rattle.doc_text.specs.DocText.{attribute_field, equals_sign, escaped, escaped_byte, hex_digit, is_plain, mark_field}
use Rattle.doc_text.specs.Lines.{holds}

-- neither a space nor a line feed
abbrev pub is_free : ℕ → Bool
is_free b = not (b == space) && not (b == line_feed)

abbrev pub are_free : List ℕ → Bool
are_free text = list_all is_free text

pub free_append : (xs ys : List ℕ) → are_free xs ≡ true → are_free ys ≡ true → are_free (xs ++ ys) ≡ true
free_append [] ys front rest = rest
free_append (x ∷ xs) ys front rest =
    let both = and_parts (is_free x) (are_free xs) front in
    and_from (is_free x) (are_free (xs ++ ys)) both.0 (free_append xs ys both.1 rest)

-- they stand in no such text
pub free_holds : (text : List ℕ) → are_free text ≡ true → (holds space text ≡ false) × (holds line_feed text ≡ false)
free_holds [] free = (refl, refl)
free_holds (c ∷ text) free =
    let both = and_parts (is_free c) (are_free text) free in
    let later = free_holds text both.1 in
    by (c == space) (c == line_feed) both.0 later.0 later.1
  where
    by : (a b : Bool) → (not a && not b) ≡ true → holds space text ≡ false → holds line_feed text ≡ false → ((a || holds space text) ≡ false) × ((b || holds line_feed text) ≡ false)
    by true b none x y = absurd (true≢false (sym none))
    by false true none x y = absurd (true≢false (sym none))
    by false false none x y = (x, y)

high_free : (b : ℕ) → 0x21 ≤ b → is_free b ≡ true
high_free b high = rw (ne_eqb b space (omega arith), ne_eqb b line_feed (omega arith)) refl

pub decimal_free : (n : ℕ) → n < 2 ^ 64 → are_free (decimal n) ≡ true
decimal_free n small =
    decimal_by_steps (λ n ds. are_free ds ≡ true) (λ n low. and_from (is_free (48 + n)) true (high_free (48 + n) (omega arith)) refl)
    (λ n ds high front. free_append ds ((48 + n % 10) ∷ []) front (and_from (is_free (48 + n % 10)) true (high_free (48 + n % 10) (omega arith)) refl)) n small

hex_free : (d : ℕ) → is_free (hex_digit d) ≡ true
hex_free d = high_free (hex_digit d) (by (nat_lt d 10))
  where
    by : (b : Bool) → 0x21 ≤ cond b (0x30 + d) (0x37 + d)
    by true = omega arith
    by false = omega arith

plain_free : (b : ℕ) → is_plain b ≡ true → is_free b ≡ true
plain_free b plain = by (b == space) (b == line_feed) refl refl
  where
    by : (x y : Bool) → (b == space) ≡ x → (b == line_feed) ≡ y → (not x && not y) ≡ true
    by true y is other = absurd (let bad : is_plain space ≡ true = subst (λ (c : ℕ). is_plain c ≡ true) (eqb-true b space is) plain in true≢false (sym bad))
    by false true other is = absurd (let bad : is_plain line_feed ≡ true = subst (λ (c : ℕ). is_plain c ≡ true) (eqb-true b line_feed is) plain in true≢false (sym bad))
    by false false p q = refl

byte_free : (b : ℕ) → are_free (escaped_byte b) ≡ true
byte_free b = by (is_plain b) refl
  where
    by : (p : Bool) → is_plain b ≡ p → are_free (cond p (b ∷ []) (percent ∷ hex_digit (b / 16) ∷ hex_digit (b % 16) ∷ [])) ≡ true
    by true plain = and_from (is_free b) true (plain_free b plain) refl
    by false other =
        and_from (is_free (hex_digit (b / 16))) (is_free (hex_digit (b % 16)) && true) (hex_free (b / 16)) (and_from (is_free (hex_digit (b % 16))) true (hex_free (b % 16)) refl)

bytes_free : (bs : List ℕ) → are_free (flat_map escaped_byte bs) ≡ true
bytes_free [] = refl
bytes_free (b ∷ bs) = free_append (escaped_byte b) (flat_map escaped_byte bs) (byte_free b) (bytes_free bs)

pub escaped_free : (text : List ℕ) → are_free (escaped text) ≡ true
escaped_free text = bytes_free (encode_utf8_all text)

pub attribute_free : (a : List ℕ × List ℕ) → are_free (attribute_field a) ≡ true
attribute_free a = free_append (escaped a.0) (equals_sign ∷ escaped a.1) (escaped_free a.0) (escaped_free a.1)

pub mark_free : (m : Bool) → are_free (mark_field m) ≡ true
mark_free true = refl
mark_free false = refl
