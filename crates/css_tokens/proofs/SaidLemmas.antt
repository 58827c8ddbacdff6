-- What a text says, one byte or escape at a time, and how it is compared with a word.
use Rattle.std.proofs.Common.{ℕ, zero, suc, ◌+◌, ◌*◌, ◌/◌, ◌^◌, ◌<◌, ◌≤◌, ◌≡◌, Bool, true, false, cond, ltb, List, [], ◌∷◌, ◌++◌, length, drop, get_or, refl, sym, ap, ◌∙◌, arith}
use Rattle.std.specs.Char.{encode_utf8, to_ascii_lowercase}
use Rattle.std.specs.Str.{IsAscii, str_eq_ignore_ascii_case}
use Rattle.std.proofs.Math.Nat.{pow-suc, pow-le-pow_right}
use Rattle.std.proofs.Math.Numerals.{add-one}
use Rattle.std.proofs.lemmas.List.{drop_more, drop-drop}
use Rattle.std.proofs.lemmas.Bool.{and_left, ne_eqb, ltb-true}
use Rattle.css_model.specs.Text.Names.{hex_value, first_len, first_text, unescaped_from, unescaped}
use Rattle.css_model.specs.Lists.{less_one}

pub unescaped_from-drop : (left : ℕ) (text : List ℕ) → unescaped_from left text ≡ unescaped (drop left text)
unescaped_from-drop zero text = refl
unescaped_from-drop (suc left) [] = refl
unescaped_from-drop (suc left) (c ∷ cs) = unescaped_from-drop left cs

unescaped_first : (c : ℕ) (cs : List ℕ) (n : ℕ) → first_len c cs ≡ n → 0 < n → unescaped (c ∷ cs) ≡ first_text c cs ++ unescaped (drop n (c ∷ cs))
unescaped_first c cs zero len positive = absurd (omega arith)
unescaped_first c cs (suc n) len positive =
    let less : less_one (first_len c cs) ≡ n = ap less_one len in
    ap (λ m. first_text c cs ++ unescaped_from m cs) less ∙ ap (λ more. first_text c cs ++ more) (unescaped_from-drop n cs)

-- what the text from place i on says, where a byte or an escape of n bytes stands there
pub unescaped_more : (text : List ℕ) (i n : ℕ) → i < length text → first_len (get_or text i 0) (drop (i + 1) text) ≡ n → 0 < n
    → unescaped (drop i text) ≡ first_text (get_or text i 0) (drop (i + 1) text) ++ unescaped (drop (i + n) text)
unescaped_more text i n inside len positive =
    let first = get_or text i 0 in
    let rest = drop (i + 1) text in
    let cut : drop i text ≡ first ∷ rest = drop_more text i 0 inside in
    let later : drop n (first ∷ rest) ≡ drop (i + n) text = ap (λ (cs : List ℕ). drop n cs) (sym cut) ∙ drop-drop n i text in
    ap unescaped cut ∙ unescaped_first first rest n len positive ∙ ap (λ (cs : List ℕ). first_text first rest ++ unescaped cs) later

-- one more hex digit
pub one_more_digit : (value digit i : ℕ) → value < 16 ^ i → digit < 16 → value * 16 + digit < 16 ^ (i + 1)
one_more_digit value digit i below digit_below = rw (add-one, pow-suc) (omega arith)

-- six hex digits write a number below 2 ^ 24
pub six_digits : (value i : ℕ) → value < 16 ^ i → i ≤ 6 → value < 2 ^ 24
six_digits value i below few =
    let most : 16 ^ i ≤ 16 ^ 6 = pow-le-pow_right (omega arith) few in
    omega (arith, most)

-- A code point that is not ASCII begins with a byte that no ASCII word begins with.
unlike_word : (b : ℕ) (bs word : List ℕ) → 128 ≤ b → IsAscii word → str_eq_ignore_ascii_case (b ∷ bs) word ≡ false
unlike_word b bs [] wide ascii = refl
unlike_word b bs (w ∷ ws) wide ascii = and_left _ _ (ne_eqb (to_ascii_lowercase b) (to_ascii_lowercase w) (apart b w wide (ascii 0)))
  where
    apart : (b w : ℕ) → 128 ≤ b → w < 128 → to_ascii_lowercase b ≡ to_ascii_lowercase w → ⊥
    apart b w wide ascii same = grind arith

record Unlike (word more bs : List ℕ) : Type 0 where
  pub unlike : str_eq_ignore_ascii_case (bs ++ more) word ≡ false

unlike_either : (word more : List ℕ) (b : Bool) (xs ys : List ℕ) → Unlike word more xs → Unlike word more ys → Unlike word more (cond b xs ys)
unlike_either word more true xs ys left right = left
unlike_either word more false xs ys left right = right

unlike_if : (word more : List ℕ) (b : Bool) (xs ys : List ℕ) → (b ≡ true → Unlike word more xs) → Unlike word more ys → Unlike word more (cond b xs ys)
unlike_if word more true xs ys left right = left refl
unlike_if word more false xs ys left right = right

unlike_cons : (word more : List ℕ) (b : ℕ) (bs : List ℕ) → IsAscii word → 128 ≤ b → Unlike word more (b ∷ bs)
unlike_cons word more b bs ascii wide = record { unlike = unlike_word b (bs ++ more) word wide ascii }

high : (m n : ℕ) → 128 ≤ m → 128 ≤ m + n
high m n most = omega arith

wide_cases : (c : ℕ) (more word : List ℕ) → 128 ≤ c → IsAscii word → Unlike word more (encode_utf8 c)
unfolding encode_utf8
wide_cases c more word wide ascii =
    let ascii_code : ltb c 128 ≡ true → Unlike word more (c ∷ []) = λ low. absurd (omega (arith, ltb-true c 128 low)) in
    let wide_first : (b : ℕ) (bs : List ℕ) → 128 ≤ b → Unlike word more (b ∷ bs) = λ (b : ℕ) (bs : List ℕ) (wide : 128 ≤ b). unlike_cons word more b bs ascii wide in
    unlike_if word more (ltb c 128) _ _ ascii_code
    (unlike_either word more (ltb c 2048) _ _ (wide_first _ _ (high 192 (c / 64) (omega arith)))
    (unlike_either word more (ltb c 65536) _ _ (wide_first _ _ (high 224 (c / 4096) (omega arith))) (wide_first _ _ (high 240 (c / 262144) (omega arith)))))

pub wide_unlike : (c : ℕ) (more word : List ℕ) → 128 ≤ c → IsAscii word → str_eq_ignore_ascii_case (encode_utf8 c ++ more) word ≡ false
wide_unlike c more word wide ascii = (wide_cases c more word wide ascii).unlike

pub hex_value-none : (value : ℕ) (text : List ℕ) → hex_value 0 value text ≡ value
hex_value-none value [] = refl
hex_value-none value (c ∷ cs) = refl
