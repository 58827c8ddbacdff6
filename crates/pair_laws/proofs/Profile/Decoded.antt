-- Of a name's or a string's bytes three at least say such a code point, once escapes are read.
use Rattle.std.proofs.Common.{ℕ, zero, suc, ◌+◌, ◌*◌, ◌≡◌, ◌≤◌, ◌<◌, Bool, true, false, cond, List, [], ◌∷◌, ◌++◌, length, drop, refl, sym, subst, arith}
use Rattle.std.specs.Prelude.{◌==◌, nat_le}
use Rattle.std.specs.Char.{digit_value, encode_utf8, is_ascii_hexdigit}
use Rattle.std.proofs.lemmas.Bool.{true≢false, lt-leb}
use Rattle.css_model.specs.Lists.{less_one}
use Rattle.css_model.specs.Text.Characters.{backslash, is_newline}
use Rattle.css_model.specs.Text.Names.{after_backslash_len, after_backslash_text, byte_text, code_points, escaped_code, first_len, first_text, hex_value, is_no_code_point, replacement, unescaped, unescaped_from}
use Rattle.css_model.specs.Text.Units.{escape_after, hex_rest, white_unit}
use Rattle.pair_laws.proofs.Profile.Spelled.{count_encode, wide_decoded}
use Rattle.pair_laws.proofs.Profile.Wide.{byte_pays, count, state, state_low, wide, wide_one}

-- behind these bytes, whatever pays for the rest, so many bytes more pay for all
record Costs (n : ℕ) (text : List ℕ) : Type 0 where
  within : (k m : ℕ) (rest : List ℕ) → k ≤ 2 → ((j : ℕ) → j ≤ 2 → 3 * count j rest ≤ m + j) → 3 * count k (text ++ rest) ≤ n + m + k

costs_more : (n p : ℕ) (text : List ℕ) → n ≤ p → Costs n text → Costs p text
costs_more n p text le c = record { within = λ k m rest low h. (let few = c.within k m rest low h in omega (arith, few, le)) }

costs_nothing : Costs 0 []
costs_nothing = record { within = λ k m rest low h. (let few = h k low in omega (arith, few)) }

costs_byte : (b : ℕ) → Costs 1 (b ∷ [])
costs_byte b = record { within = within }
  where
    within : (k m : ℕ) (rest : List ℕ) → k ≤ 2 → ((j : ℕ) → j ≤ 2 → 3 * count j rest ≤ m + j) → 3 * count k (b ∷ rest) ≤ 1 + m + k
    within k m rest low h =
        let later = h (state k b) (state_low k b) in
        let pays = byte_pays k b low in
        omega (arith, later, pays)

costs_code : (c n : ℕ) → 3 * wide_one c ≤ n → Costs n (encode_utf8 c)
costs_code c n one = record { within = within }
  where
    within : (k m : ℕ) (rest : List ℕ) → k ≤ 2 → ((j : ℕ) → j ≤ 2 → 3 * count j rest ≤ m + j) → 3 * count k (encode_utf8 c ++ rest) ≤ n + m + k
    within k m rest low h =
        let later = h 0 (omega arith) in
        let here = count_encode k c rest in
        omega (arith, later, here, one)

at_most_one : (c : ℕ) → 3 * wide_one c ≤ 3
at_most_one c = by (nat_le 0x10000 c)
  where
    by : (b : Bool) → 3 * cond b 1 0 ≤ 3
    by true = omega arith
    by false = omega arith

narrow : (c : ℕ) → c < 0x10000 → 3 * wide_one c ≤ 0
narrow c low = rw (lt-leb 0x10000 c low) (omega arith)

-- a code point of an escape that is small
escaped_narrow : (v : ℕ) → v < 0x10000 → escaped_code v < 0x10000
escaped_narrow v low = by (is_no_code_point v)
  where
    by : (b : Bool) → cond b replacement v < 0x10000
    by true = omega arith
    by false = low

digit_low : (c : ℕ) → digit_value c < 0x10000
digit_low c = grind arith

-- a byte or an escape at the front, of so many bytes, pays for what it says
record First (len : ℕ) (cs text : List ℕ) : Type 0 where
  cost : ℕ
  few : cost + length (drop (less_one len) cs) ≤ suc (length cs)
  costs : Costs cost text

length_drop : (n : ℕ) (cs : List ℕ) → length (drop n cs) ≤ length cs
length_drop zero cs = omega arith
length_drop (suc n) [] = omega arith
length_drop (suc n) (c ∷ cs) = let later = length_drop n cs in omega (arith, later)

plain : (len : ℕ) (cs text : List ℕ) → Costs 1 text → First len cs text
plain len cs text c = record { cost = 1; few = (let le = length_drop (less_one len) cs in omega (arith, le)); costs = c }

either : (b : Bool) (m n : ℕ) (cs xs ys : List ℕ) → (b ≡ true → First m cs xs) → (b ≡ false → First n cs ys) → First (cond b m n) cs (cond b xs ys)
either true m n cs xs ys first second = first refl
either false m n cs xs ys first second = second refl

-- hex digits
hex_first : (d : ℕ) (ds : List ℕ) → First (2 + hex_rest 5 ds) (d ∷ ds) (encode_utf8 (escaped_code (hex_value 5 (0 * 16 + digit_value d) ds)))
hex_first d [] =
    plain (2 + hex_rest 5 []) (d ∷ []) (encode_utf8 (escaped_code (0 * 16 + digit_value d)))
    (costs_code (escaped_code (0 * 16 + digit_value d)) 1 (let low = narrow (escaped_code (0 * 16 + digit_value d)) (escaped_narrow (0 * 16 + digit_value d) (let digit = digit_low d in omega (arith, digit))) in omega (arith, low)))
hex_first d (e ∷ es) = by (is_ascii_hexdigit e)
  where
    long : (n : ℕ) → 3 + length (drop (less_one (2 + suc n)) (d ∷ e ∷ es)) ≤ suc (length (d ∷ e ∷ es))
    long n =
        let le = length_drop n es in
        let more : 2 + suc n ≡ suc (suc (suc n)) = omega arith in
        subst (λ (m : ℕ). 3 + length (drop (less_one m) (d ∷ e ∷ es)) ≤ suc (length (d ∷ e ∷ es))) (sym more) (omega (arith, le))

    by : (b : Bool) → First (2 + cond b (suc (hex_rest 4 es)) (white_unit (e ∷ es))) (d ∷ e ∷ es) (encode_utf8 (escaped_code (cond b (hex_value 4 ((0 * 16 + digit_value d) * 16 + digit_value e) es) (0 * 16 + digit_value d))))
    by true =
        let code = escaped_code (hex_value 4 ((0 * 16 + digit_value d) * 16 + digit_value e) es) in
        record { cost = 3; few = long (hex_rest 4 es); costs = costs_code code 3 (at_most_one code) }
    by false =
        plain _ (d ∷ e ∷ es) (encode_utf8 (escaped_code (0 * 16 + digit_value d)))
        (costs_code (escaped_code (0 * 16 + digit_value d)) 1 (let low = narrow (escaped_code (0 * 16 + digit_value d)) (escaped_narrow (0 * 16 + digit_value d) (let digit = digit_low d in omega (arith, digit))) in omega (arith, low)))

byte_costs : (c : ℕ) → Costs 1 (byte_text c)
byte_costs c = by (c == 0)
  where
    by : (b : Bool) → Costs 1 (cond b (encode_utf8 replacement) (c ∷ []))
    by true = costs_code replacement 1 (let low = narrow replacement (omega arith) in omega (arith, low))
    by false = costs_byte c

-- behind a backslash
escape_first : (cs : List ℕ) → First (after_backslash_len cs) cs (after_backslash_text cs)
escape_first [] = plain 1 [] (encode_utf8 replacement) (costs_code replacement 1 (let low = narrow replacement (omega arith) in omega (arith, low)))
escape_first (d ∷ ds) =
    either (is_newline d) (1 + white_unit (d ∷ ds)) (escape_after (d ∷ ds)) (d ∷ ds) [] _ (λ _. plain _ (d ∷ ds) [] (costs_more 0 1 [] (omega arith) costs_nothing)) other
  where
    digits : is_ascii_hexdigit d ≡ true → First (2 + hex_rest 5 ds) (d ∷ ds) (encode_utf8 (escaped_code (hex_value 6 0 (d ∷ ds))))
    digits is = rw is (hex_first d ds)

    by : (b : Bool) → b ≡ false → First (cond b 0 (cond (is_ascii_hexdigit d) (2 + hex_rest 5 ds) 2)) (d ∷ ds) (cond (is_ascii_hexdigit d) (encode_utf8 (escaped_code (hex_value 6 0 (d ∷ ds)))) (byte_text d))
    by true e = absurd (true≢false e)
    by false e = either (is_ascii_hexdigit d) (2 + hex_rest 5 ds) 2 (d ∷ ds) _ (byte_text d) digits (λ _. plain 2 (d ∷ ds) (byte_text d) (byte_costs d))

    other : is_newline d ≡ false → First (escape_after (d ∷ ds)) (d ∷ ds) (cond (is_ascii_hexdigit d) (encode_utf8 (escaped_code (hex_value 6 0 (d ∷ ds)))) (byte_text d))
    other e = by (is_newline d) e

first : (c : ℕ) (cs : List ℕ) → First (first_len c cs) cs (first_text c cs)
first c cs =
    either (c == backslash) (after_backslash_len cs) 1 cs (after_backslash_text cs) (byte_text c) (λ _. escape_first cs) (λ _. plain 1 cs (byte_text c) (byte_costs c))

within_text : (left : ℕ) (text : List ℕ) (k : ℕ) → k ≤ 2 → 3 * count k (unescaped_from left text) ≤ length (drop left text) + k
within_text left [] k low = omega arith
within_text (suc left) (c ∷ cs) k low = within_text left cs k low
within_text zero (c ∷ cs) k low =
    let f = first c cs in
    let n = less_one (first_len c cs) in
    let all = f.costs.within k (length (drop n cs)) (unescaped_from n cs) low (λ j few. within_text n cs j few) in
    omega (arith, all, f.few)

-- a name or the inside of a string
pub wide_name : (text : List ℕ) → 3 * wide (code_points (unescaped text)) ≤ length text
wide_name text =
    let said = wide_decoded (unescaped text) in
    let paid = within_text 0 text 0 (omega arith) in
    omega (arith, said, paid)
