-- A name that is an ASCII word once its escapes are read has a byte for each letter.
use Rattle.std.proofs.Common.{ℕ, zero, suc, ◌≤◌, ◌≡◌, Bool, true, false, cond, ltb, List, [], ◌∷◌, ◌++◌, length, refl, sym, ◌∙◌, arith, rules}
use Rattle.std.specs.Prelude.{◌==◌, codes}
use Rattle.std.specs.Char.{encode_utf8, is_ascii_hexdigit}
use Rattle.std.specs.Str.{IsAscii, str_eq_ignore_ascii_case}
use Rattle.std.proofs.lemmas.Bool.{and_parts, false≢true, ltb-false}
use Rattle.std.proofs.lemmas.Str.Ascii.{IsAscii-from_all}
use Rattle.css_model.specs.Text.Characters.{backslash, is_newline}
use Rattle.css_model.specs.Text.Names.{is_named}
use Rattle.css_model.specs.Text.Names.{replacement, escaped_code, hex_value, byte_text, after_backslash_text, first_len, first_text, unescaped_from}
use Rattle.css_model.specs.Lists.{less_one}
use Rattle.css_tokens.proofs.ForCallers.{wide_unlike}

-- what is left of a word behind the letter that a text spells, where it spells one
record Left (word more : List ℕ) : Type 0 where
  rest : List ℕ
  ascii : IsAscii rest
  same : str_eq_ignore_ascii_case more rest ≡ true
  size : length word ≤ suc (length rest)

-- a text that spells at most one letter
record IsOne (text : List ℕ) : Type 0 where
  left : (more word : List ℕ) → IsAscii word → str_eq_ignore_ascii_case (text ++ more) word ≡ true → Left word more

one_nothing : IsOne []
one_nothing = record { left = λ more word ascii same. record { rest = word; ascii = ascii; same = same; size = omega arith } }

one_byte : (b : ℕ) → IsOne (b ∷ [])
one_byte b = record { left = left }
  where
    left : (more word : List ℕ) → IsAscii word → str_eq_ignore_ascii_case (b ∷ more) word ≡ true → Left word more
    left more [] ascii same = absurd (false≢true same)
    left more (w ∷ ws) ascii same = record { rest = ws; ascii = λ i. ascii (suc i); same = (and_parts _ (str_eq_ignore_ascii_case more ws) same).1; size = omega arith }

one_wide : (c : ℕ) → 128 ≤ c → IsOne (encode_utf8 c)
one_wide c wide = record { left = λ more word ascii same. absurd (false≢true (sym (wide_unlike c more word wide ascii) ∙ same)) }

one_if : (b : Bool) (xs ys : List ℕ) → (b ≡ true → IsOne xs) → (b ≡ false → IsOne ys) → IsOne (cond b xs ys)
one_if true xs ys left right = left refl
one_if false xs ys left right = right refl

encode_narrow : (c : ℕ) → ltb c 128 ≡ true → encode_utf8 c ≡ c ∷ []
unfolding encode_utf8
encode_narrow c low = rw low refl

one_code : (c : ℕ) → IsOne (encode_utf8 c)
one_code c = which (ltb c 128) refl
  where
    which : (b : Bool) → ltb c 128 ≡ b → IsOne (encode_utf8 c)
    which true low = rw (encode_narrow c low) (one_byte c)
    which false high = one_wide c (ltb-false c 128 high)

one_byte_text : (c : ℕ) → IsOne (byte_text c)
one_byte_text c = one_if (c == 0) (encode_utf8 replacement) (c ∷ []) (λ _. one_code replacement) (λ _. one_byte c)

one_escape : (cs : List ℕ) → IsOne (after_backslash_text cs)
one_escape [] = one_code replacement
one_escape (c ∷ cs) =
    let code = escaped_code (hex_value 6 0 (c ∷ cs)) in
    one_if (is_newline c) [] (cond (is_ascii_hexdigit c) (encode_utf8 code) (byte_text c)) (λ _. one_nothing)
    (λ _. one_if (is_ascii_hexdigit c) (encode_utf8 code) (byte_text c) (λ _. one_code code) (λ _. one_byte_text c))

one_first : (c : ℕ) (cs : List ℕ) → IsOne (first_text c cs)
one_first c cs = one_if (c == backslash) (after_backslash_text cs) (byte_text c) (λ _. one_escape cs) (λ _. one_byte_text c)

word_size : (left : ℕ) (name word : List ℕ) → IsAscii word → str_eq_ignore_ascii_case (unescaped_from left name) word ≡ true → length word ≤ length name
word_size left [] [] ascii same = omega arith
word_size left [] (w ∷ ws) ascii same = absurd (false≢true same)
word_size (suc left) (c ∷ cs) word ascii same = omega (arith, word_size left cs word ascii same)
word_size zero (c ∷ cs) word ascii same =
    let n = less_one (first_len c cs) in
    let l = (one_first c cs).left (unescaped_from n cs) word ascii same in
    omega (arith, l.size, word_size n cs l.rest l.ascii l.same)

pub named_size : (word name : List ℕ) → IsAscii word → is_named word name ≡ true → length word ≤ length name
named_size word name ascii same = word_size 0 name word ascii same

pub important_size : (name : List ℕ) → is_named (codes "important") name ≡ true → 9 ≤ length name
important_size name same = named_size (codes "important") name (IsAscii-from_all (codes "important") (search (rules, arith))) same
