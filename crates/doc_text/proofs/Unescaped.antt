-- What stands for a text is read as that text.
use Rattle.std.proofs.Common.{ℕ, ◌+◌, ◌*◌, ◌/◌, ◌%◌, ◌≡◌, ◌<◌, inl, inr, Bool, true, false, cond, ltb, ◌==◌, List, [], ◌∷◌, ◌++◌, refl, ap, ◌∙◌, subst, arith}
use Rattle.std.specs.Char.{IsScalar, encode_utf8}
use Rattle.std.specs.List.{AllByRecursion, flat_map}
use Rattle.std.specs.Str.{IsUtf8, all_scalars, chars, encode_utf8_all}
use Rattle.std.proofs.lemmas.Bool.{and_from, eqb-true, false≢true, ltb-true}
use Rattle.std.proofs.lemmas.List.Elements.{recursion_from_All}
use Rattle.std.proofs.lemmas.Str.{chars-encodes, utf8_lossy-IsUtf8}
use Rattle.css_model.specs.Documents.Document.{IsText}
use Rattle.css_model.specs.Text.Characters.{percent}
use Rattle.css_model.specs.Text.Names.{code_points}
use Rattle.doc_text.specs.DocText.{escaped, escaped_byte, hex_digit, is_plain}
use Rattle.doc_text.specs.Elements.{nibble, unescaped, unescaped_text}
use lib.Utf8.{scalar, scalar_cases}

-- a byte
IsByte : ℕ → Type 0
IsByte b = b < 256

nibble_digit : (d : ℕ) → d < 16 → nibble (hex_digit d) ≡ d
nibble_digit d low = grind arith

-- a plain byte is no percent sign
plain_apart : (b : ℕ) (rest : List ℕ) → is_plain b ≡ true → unescaped (b ∷ rest) ≡ b ∷ unescaped rest
plain_apart b [] plain = refl
plain_apart b (a ∷ []) plain = refl
plain_apart b (a ∷ c ∷ rest) plain = by (b == percent) refl
  where
    by : (x : Bool) → (b == percent) ≡ x → cond x ((nibble a * 16 + nibble c) ∷ unescaped rest) (b ∷ unescaped (a ∷ c ∷ rest)) ≡ b ∷ unescaped (a ∷ c ∷ rest)
    by true is = absurd (let bad : is_plain percent ≡ true = subst (λ (c : ℕ). is_plain c ≡ true) (eqb-true b percent is) plain in false≢true bad)
    by false other = refl

one_back : (b : ℕ) (rest : List ℕ) → b < 256 → unescaped (escaped_byte b ++ rest) ≡ b ∷ unescaped rest
one_back b rest low = by (is_plain b) refl
  where
    by : (p : Bool) → is_plain b ≡ p → unescaped (cond p (b ∷ []) (percent ∷ hex_digit (b / 16) ∷ hex_digit (b % 16) ∷ []) ++ rest) ≡ b ∷ unescaped rest
    by true plain = plain_apart b rest plain
    by false other =
        let first = nibble_digit (b / 16) (omega (arith, low)) in
        let second = nibble_digit (b % 16) (omega arith) in
        ap (λ (n : ℕ). n ∷ unescaped rest) (let value : nibble (hex_digit (b / 16)) * 16 + nibble (hex_digit (b % 16)) ≡ b = omega (arith, first, second) in value)

back : (bs : List ℕ) → AllByRecursion IsByte bs → unescaped (flat_map escaped_byte bs) ≡ bs
unfolding IsByte
back [] all = refl
back (b ∷ bs) all = one_back b (flat_map escaped_byte bs) all.0 ∙ ap (λ (rest : List ℕ). b ∷ rest) (back bs all.1)

-- the bytes of a text
bytes_append : (xs ys : List ℕ) → AllByRecursion IsByte xs → AllByRecursion IsByte ys → AllByRecursion IsByte (xs ++ ys)
bytes_append [] ys front rest = rest
bytes_append (x ∷ xs) ys front rest = (front.0, bytes_append xs ys front.1 rest)

code_low : (c : ℕ) → IsScalar c → c < 0x110000
code_low c s = elim (scalar_cases c s) [ inl low ↦ omega (arith, low) | inr high ↦ high.1 ]

code_bytes : (c : ℕ) → IsScalar c → AllByRecursion IsByte (encode_utf8 c)
unfolding encode_utf8 IsByte
code_bytes c s = by (ltb c 128) (ltb c 2048) (ltb c 65536) refl refl refl
  where
    by : (x y z : Bool) → ltb c 128 ≡ x → ltb c 2048 ≡ y → ltb c 65536 ≡ z →
        AllByRecursion (λ b. b < 256) (cond x (c ∷ []) (cond y ((192 + c / 64) ∷ (128 + c % 64) ∷ []) (cond z ((224 + c / 4096) ∷ (128 + c / 64 % 64) ∷ (128 + c % 64) ∷ []) ((240 + c / 262144) ∷ (128 + c / 4096 % 64) ∷ (128 + c / 64 % 64) ∷ (128 + c % 64) ∷ []))))
    by true y z one two three = let low = ltb-true c 128 one in (omega (arith, low), tt)
    by false true z one two three = let low = ltb-true c 2048 two in (omega (arith, low), (omega arith, tt))
    by false false true one two three = let low = ltb-true c 65536 three in (omega (arith, low), (omega arith, (omega arith, tt)))
    by false false false one two three = let low = code_low c s in (omega (arith, low), (omega arith, (omega arith, (omega arith, tt))))

text_bytes : (text : List ℕ) → AllByRecursion IsScalar text → AllByRecursion IsByte (encode_utf8_all text)
text_bytes [] all = tt
text_bytes (c ∷ text) all = bytes_append (encode_utf8 c) (encode_utf8_all text) (code_bytes c all.0) (text_bytes text all.1)

scalars_of : (text : List ℕ) → AllByRecursion IsScalar text → all_scalars text ≡ true
scalars_of [] all = refl
scalars_of (c ∷ text) all = and_from (scalar c) (all_scalars text) all.0 (scalars_of text all.1)

pub text_back : (text : List ℕ) → IsText text → unescaped_text (escaped text) ≡ text
text_back text is =
    let each = recursion_from_All IsScalar text is in
    let scalars = scalars_of text each in
    let utf8 : IsUtf8 (encode_utf8_all text) = (text, (scalars, refl)) in
    ap code_points (back (encode_utf8_all text) (text_bytes text each)) ∙ ap chars (utf8_lossy-IsUtf8 (encode_utf8_all text) utf8) ∙ chars-encodes text scalars
