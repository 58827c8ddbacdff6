-- Numbers in decimal digits.
use Rattle.std.proofs.Common.{◌≡◌, ◌<◌, ◌≤◌, ◌^◌, ◌&&◌, ℕ, Bool, true, false, not, cond, List, Some, None, nat_lt, arith, refl, sym, ◌∙◌, ap, subst}
use Rattle.std.proofs.lemmas.Fmt.{decimal_is_IsNumeral}
use Rattle.std.specs.Cmp.Lexicographic.{bytes_decides}
use Rattle.std.specs.Prelude.{decimal}
use Rattle.std.specs.Str.Parse.{digits_value}
use Rattle.command_words.specs.Forms.{is_word, number_up_to}

-- a number's digits have it as their value
digits_have : (word : List ℕ) (n : ℕ) → n < 2 ^ 32 → word ≡ decimal n → digits_value 10 word ≡ n
digits_have word n small is = ap (digits_value 10) is ∙ (decimal_is_IsNumeral n (omega (arith, small))).1

when : (b c : Bool) (n : ℕ) → b ≡ true → c ≡ false → cond (b && not c) (Some n) None ≡ Some n
when true false n p q = refl
when false c n p q = absurd (let bad : ⊥ = cc in bad)
when true true n p q = absurd (let bad : ⊥ = cc in bad)

-- the number of a word that writes it
pub number_is : (most : ℕ) (word : List ℕ) (n : ℕ) → n < 2 ^ 32 → n ≤ most → word ≡ decimal n → number_up_to most word ≡ Some n
unfolding number_up_to
number_is most word n small few is =
    let value : digits_value 10 word ≡ n = digits_have word n small is in
    let same : is_word word (decimal (digits_value 10 word)) ≡ true = (bytes_decides word (decimal (digits_value 10 word))).1 (is ∙ ap decimal (sym value)) in
    let within : nat_lt most (digits_value 10 word) ≡ false = subst (λ (m : ℕ). nat_lt most m ≡ false) (sym value) (below most n few) in
    when _ _ (digits_value 10 word) same within ∙ ap Some value
  where
    below : (limit n : ℕ) → n ≤ limit → nat_lt limit n ≡ false
    below limit n h = grind (arith, h)

unless : (b c : Bool) (n : ℕ) → (b ≡ true → c ≡ false → ⊥) → cond (b && not c) (Some n) None ≡ None
unless true false n h = absurd (h refl refl)
unless false c n h = refl
unless true true n h = refl

-- a word that writes no such number has none
pub no_number : (most : ℕ) (word : List ℕ) → ((n : ℕ) → n ≤ most → word ≡ decimal n → ⊥) → number_up_to most word ≡ None
unfolding number_up_to
no_number most word none = unless _ _ (digits_value 10 word) (λ same within. none (digits_value 10 word) (upto most (digits_value 10 word) within) ((bytes_decides word (decimal (digits_value 10 word))).0 same))
  where
    upto : (limit n : ℕ) → nat_lt limit n ≡ false → n ≤ limit
    upto limit n h = grind (arith, h)

-- the number of a word is at most the greatest that is allowed
within : (b c : Bool) (most value n : ℕ) → nat_lt most value ≡ c → cond (b && not c) (Some value) None ≡ Some n → n ≤ most
within true false most value n test is = let same : value ≡ n = cc in subst (λ (m : ℕ). m ≤ most) same (upto most value test)
  where
    upto : (limit n : ℕ) → nat_lt limit n ≡ false → n ≤ limit
    upto limit n h = grind (arith, h)
within true true most value n test is = absurd (let bad : ⊥ = cc in bad)
within false c most value n test is = absurd (let bad : ⊥ = cc in bad)

pub most_is : (most : ℕ) (word : List ℕ) (n : ℕ) → number_up_to most word ≡ Some n → n ≤ most
unfolding number_up_to
most_is most word n is = within (is_word word (decimal (digits_value 10 word))) (nat_lt most (digits_value 10 word)) most (digits_value 10 word) n refl is
