-- What a code point, and bytes that are read as UTF-8, have of them.
use Rattle.std.proofs.Common.{ℕ, zero, suc, ◌+◌, ◌/◌, ◌%◌, ◌≡◌, ◌≤◌, ◌<◌, ◌⊎◌, Bool, true, false, cond, ltb, Option, Some, None, List, [], ◌∷◌, ◌++◌, length, take, drop, refl, sym, ap, ◌∙◌, subst, inl, inr, arith}
use Rattle.std.specs.Prelude.{◌==◌, nat_le, nat_lt, slice_index, unwrap_or}
use Rattle.std.specs.Int.{is_in_range}
use Rattle.std.specs.Char.{encode_utf8}
use Rattle.std.specs.List.{filter}
use Rattle.std.specs.Str.{IsUtf8, chars, encode_utf8_all, is_utf8}
use Rattle.std.specs.Str.Lossy.{after_first_chunk, error_len_after_one, error_len_after_two, error_len_of_some, replacement_bytes, second_byte_max, second_byte_min, utf8_error_len, utf8_invalid_len, utf8_lossy, utf8_valid_len, valid_len_up_to}
use Rattle.std.proofs.lemmas.Bool.{le-leb, lt-leb, ltb-true, ltb-false}
use Rattle.std.proofs.lemmas.List.{take-append-drop, drop-drop, length-append, length-drop}
use Rattle.std.proofs.lemmas.Str.{IsUtf8-append, IsUtf8-encode, IsUtf8-from_is_utf8, IsUtf8-nil, chars-encodes, utf8_lossy-IsUtf8, utf8_lossy_step, utf8_valid_len_le}
use Rattle.css_model.specs.Text.Names.{code_points, replacement}
use Rattle.css_tokens.proofs.ForCallers.{whole_is_utf8}
use Rattle.pair_laws.proofs.Profile.Wide.{count, count_lead, count_more, count_other, credit, is_lead, is_more, next, state, wide, wide_one}

-- bytes that neither begin four nor go on
count_low : (k b : ℕ) (bs : List ℕ) → b < 128 → count k (b ∷ bs) ≡ count 0 bs
count_low k b bs low = count_other k b bs (lt-leb 240 b (omega arith)) (rw (lt-leb 128 b low) refl)

count_high : (k b : ℕ) (bs : List ℕ) → 192 ≤ b → b < 240 → count k (b ∷ bs) ≡ count 0 bs
count_high k b bs low high = count_other k b bs (lt-leb 240 b high) (rw (le-leb 128 b (omega arith), lt-leb b 191 (omega arith)) refl)

narrow_one : (c : ℕ) → c < 65536 → wide_one c ≡ 0
narrow_one c low = rw (lt-leb 65536 c low) refl

wide_is_one : (c : ℕ) → 65536 ≤ c → wide_one c ≡ 1
wide_is_one c high = rw (le-leb 65536 c high) refl

-- the second and the later bytes of a code point
follows : (k m : ℕ) (bs : List ℕ) → count k ((128 + m % 64) ∷ bs) ≡ credit k + count (next k) bs
follows k m bs = count_more k (128 + m % 64) bs (omega arith) (omega arith)

-- a code point adds itself, if it is one of them
pub count_encode : (k c : ℕ) (rest : List ℕ) → count k (encode_utf8 c ++ rest) ≡ wide_one c + count 0 rest
unfolding encode_utf8
count_encode k c rest = cases (ltb c 128) (ltb c 2048) (ltb c 65536) refl refl refl
  where
    cases : (a b d : Bool) → ltb c 128 ≡ a → ltb c 2048 ≡ b → ltb c 65536 ≡ d →
        count k (cond a (c ∷ []) (cond b ((192 + c / 64) ∷ (128 + c % 64) ∷ []) (cond d ((224 + c / 4096) ∷ (128 + c / 64 % 64) ∷ (128 + c % 64) ∷ []) ((240 + c / 262144) ∷ (128 + c / 4096 % 64) ∷ (128 + c / 64 % 64) ∷ (128 + c % 64) ∷ []))) ++ rest)
        ≡ wide_one c + count 0 rest
    cases true b d one two three =
        let low = ltb-true c 128 one in
        let none = narrow_one c (omega (arith, low)) in
        let only = count_low k c rest low in
        omega (arith, only, none)
    cases false true d one two three =
        let low = ltb-true c 2048 two in
        let none = narrow_one c (omega (arith, low)) in
        let begins = count_high k (192 + c / 64) ((128 + c % 64) ∷ rest) (omega arith) (omega (arith, low)) in
        let last_byte : count 0 ((128 + c % 64) ∷ rest) ≡ 0 + count 0 rest = follows 0 c rest in
        begins ∙ omega (arith, last_byte, none)
    cases false false true one two three =
        let low = ltb-true c 65536 three in
        let none = narrow_one c low in
        let last = (128 + c % 64) ∷ rest in
        let begins = count_high k (224 + c / 4096) ((128 + c / 64 % 64) ∷ last) (omega arith) (omega (arith, low)) in
        let second_byte : count 0 ((128 + c / 64 % 64) ∷ last) ≡ 0 + count 0 last = follows 0 (c / 64) last in
        let last_byte : count 0 last ≡ 0 + count 0 rest = follows 0 c rest in
        begins ∙ omega (arith, second_byte, last_byte, none)
    cases false false false one two three =
        let high = ltb-false c 65536 three in
        let last = (128 + c % 64) ∷ rest in
        let third = (128 + c / 64 % 64) ∷ last in
        let begins = count_lead k (240 + c / 262144) ((128 + c / 4096 % 64) ∷ third) (omega arith) in
        let second_byte : count 1 ((128 + c / 4096 % 64) ∷ third) ≡ 0 + count 2 third = follows 1 (c / 4096) third in
        let third_byte : count 2 third ≡ 1 + count 0 last = follows 2 (c / 64) last in
        let last_byte : count 0 last ≡ 0 + count 0 rest = follows 0 c rest in
        let one = wide_is_one c high in
        begins ∙ omega (arith, second_byte, third_byte, last_byte, one)

-- the code points of a text
wide_spelled : (cs : List ℕ) → wide cs ≡ count 0 (encode_utf8_all cs)
wide_spelled [] = refl
wide_spelled (c ∷ cs) = cases (nat_le 0x10000 c) (wide_spelled cs) (count_encode 0 c (encode_utf8_all cs))
  where
    cases : (b : Bool) → length (filter (λ c. nat_le 0x10000 c) cs) ≡ count 0 (encode_utf8_all cs) → count 0 (encode_utf8 c ++ encode_utf8_all cs) ≡ cond b 1 0 + count 0 (encode_utf8_all cs) →
        length (cond b (c ∷ filter (λ c. nat_le 0x10000 c) cs) (filter (λ c. nat_le 0x10000 c) cs)) ≡ count 0 (encode_utf8 c ++ encode_utf8_all cs)
    cases true later here = omega (arith, later, here)
    cases false later here = omega (arith, later, here)

wide_text : (bs : List ℕ) → IsUtf8 bs → wide (chars bs) ≡ count 0 bs
wide_text bs u =
    let same : chars bs ≡ u.0 = ap chars (sym u.1.1) ∙ chars-encodes u.0 u.1.0 in
    ap wide same ∙ wide_spelled u.0 ∙ ap (count 0) u.1.1

-- joined and shortened texts
count_least : (k : ℕ) (bs : List ℕ) → count 0 bs ≤ count k bs
count_least k [] = omega arith
count_least k (b ∷ bs) = first (is_lead b) k (count_least 2 bs)
  where
    second : (m : Bool) (k : ℕ) → count 0 bs ≤ count 2 bs → cond m 0 0 + count (cond m 0 0) bs ≤ cond m (credit k) 0 + count (cond m (next k) 0) bs
    second true zero later = omega arith
    second true (suc zero) later = omega (arith, later)
    second true (suc (suc k)) later = omega arith
    second false k later = omega arith

    first : (l : Bool) (k : ℕ) → count 0 bs ≤ count 2 bs → cond l 0 (cond (is_more b) 0 0) + count (cond l 1 (cond (is_more b) 0 0)) bs ≤ cond l 0 (cond (is_more b) (credit k) 0) + count (cond l 1 (cond (is_more b) (next k) 0)) bs
    first true k later = omega arith
    first false k later = second (is_more b) k later

count_behind : (k : ℕ) (xs ys : List ℕ) → count k xs + count 0 ys ≤ count k (xs ++ ys)
count_behind k [] ys = let least = count_least k ys in omega (arith, least)
count_behind k (x ∷ xs) ys = let later = count_behind (state k x) xs ys in omega (arith, later)

count_replaced : (k : ℕ) (xs ys : List ℕ) → count k (xs ++ (replacement_bytes ++ ys)) ≡ count k xs + count 0 ys
count_replaced k [] ys = omega arith
count_replaced k (x ∷ xs) ys = let later = count_replaced (state k x) xs ys in omega (arith, later)

count_dropped : (i : ℕ) (ys : List ℕ) → count 0 (drop i ys) ≤ count 0 ys
count_dropped zero ys = omega arith
count_dropped (suc i) [] = omega arith
count_dropped (suc i) (y ∷ ys) =
    let later = count_dropped i ys in
    let least = count_least (state 0 y) ys in
    omega (arith, later, least)

-- the longest front of UTF-8 is UTF-8
valid_front : (bs : List ℕ) (m : ℕ) → IsUtf8 (take (valid_len_up_to bs m) bs)
valid_front bs zero = IsUtf8-nil
valid_front bs (suc m) = which (is_utf8 (take (suc m) bs)) refl (valid_front bs m)
  where
    which : (b : Bool) → is_utf8 (take (suc m) bs) ≡ b → IsUtf8 (take (valid_len_up_to bs m) bs) → IsUtf8 (take (cond b (suc m) (valid_len_up_to bs m)) bs)
    which true is later = IsUtf8-from_is_utf8 (take (suc m) bs) is
    which false is later = later

valid_is_utf8 : (bs : List ℕ) → IsUtf8 (take (utf8_valid_len bs) bs)
unfolding utf8_valid_len
valid_is_utf8 bs = valid_front bs (length bs)

whole_or_not : (bs : List ℕ) → (utf8_valid_len bs ≡ length bs) ⊎ (utf8_valid_len bs ≡ length bs → ⊥)
whole_or_not bs = by (utf8_valid_len bs) (length bs) (utf8_valid_len_le bs)
  where
    by : (m n : ℕ) → m ≤ n → (m ≡ n) ⊎ (m ≡ n → ⊥)
    by zero zero le = inl refl
    by zero (suc n) le = inr (λ e. omega (arith, e))
    by (suc m) zero le = absurd (omega arith)
    by (suc m) (suc n) le = up (by m n (omega arith))
      where
        up : (m ≡ n) ⊎ (m ≡ n → ⊥) → (suc m ≡ suc n) ⊎ (suc m ≡ suc n → ⊥)
        up (inl e) = inl (ap suc e)
        up (inr ne) = inr (λ e. ne (omega (arith, e)))

replacement_is_utf8 : IsUtf8 replacement_bytes
unfolding encode_utf8
replacement_is_utf8 = IsUtf8-encode replacement refl

-- what one U+FFFD stands for has a byte, where there is one
invalid_some : (bs : List ℕ) → 0 < length bs → 0 < utf8_invalid_len bs
unfolding utf8_error_len
invalid_some bs some = by (length bs == 0) None (error_len_of_some bs) some (by (is_in_range 0xC2 0xF4 x) (error_len_after_one bs) (Some 1) one (omega arith))
  where
    by : (b : Bool) (o p : Option ℕ) → 0 < unwrap_or o (length bs) → 0 < unwrap_or p (length bs) → 0 < unwrap_or (cond b o p) (length bs)
    by true o p first second = first
    by false o p first second = second

    x : ℕ
    x = slice_index bs 0

    two : 0 < unwrap_or (error_len_after_two bs) (length bs)
    two =
        by (nat_lt (length bs) 3) None _ some
        (by (is_in_range 0x80 0xBF (slice_index bs 2)) _ (Some 2) (by (nat_lt (length bs) 4) None (Some 3) some (omega arith)) (omega arith))

    one : 0 < unwrap_or (error_len_after_one bs) (length bs)
    one =
        by (nat_lt (length bs) 2) None _ some
        (by (is_in_range (second_byte_min x) (second_byte_max x) (slice_index bs 1)) (error_len_after_two bs) (Some 1) two (omega arith))

-- what stands behind it is shorter
after_shorter : (bs : List ℕ) → (utf8_valid_len bs ≡ length bs → ⊥) → length (after_first_chunk bs) < length bs
after_shorter bs not = by (utf8_valid_len bs) (utf8_valid_len_le bs) not
  where
    by : (v : ℕ) → v ≤ length bs → (v ≡ length bs → ⊥) → length (drop (v + utf8_invalid_len (drop v bs)) bs) < length bs
    by v le ne =
        let front = length-drop v bs in
        let less : v < length bs = strict v (length bs) le ne in
        let some = invalid_some (drop v bs) (omega (arith, front, less)) in
        let size = length-drop (v + utf8_invalid_len (drop v bs)) bs in
        omega (arith, size, some, less)
      where
        strict : (m n : ℕ) → m ≤ n → (m ≡ n → ⊥) → m < n
        strict m n le ne = omega arith

-- what bytes are read as, whatever they are
record Lossy (bs : List ℕ) : Type 0 where
  utf8 : IsUtf8 (utf8_lossy bs)
  few : count 0 (utf8_lossy bs) ≤ count 0 bs

whole : (bs : List ℕ) → utf8_valid_len bs ≡ length bs → Lossy bs
whole bs is =
    let same = utf8_lossy-IsUtf8 bs (whole_is_utf8 bs is) in
    record { utf8 = subst IsUtf8 (sym same) (whole_is_utf8 bs is); few = rw same (omega arith) }

faulty : (bs : List ℕ) → (utf8_valid_len bs ≡ length bs → ⊥) → Lossy (after_first_chunk bs) → Lossy bs
faulty bs not rest =
    let same = utf8_lossy_step bs not in
    let v = utf8_valid_len bs in
    let cut : count 0 (take v bs ++ drop v bs) ≡ count 0 bs = ap (count 0) (take-append-drop v bs) in
    let parts = count_behind 0 (take v bs) (drop v bs) in
    let i = utf8_invalid_len (drop v bs) in
    let later : count 0 (drop i (drop v bs)) ≤ count 0 (drop v bs) = count_dropped i (drop v bs) in
    let at : drop i (drop v bs) ≡ after_first_chunk bs = drop-drop i v bs in
    let rest_few : count 0 (utf8_lossy (after_first_chunk bs)) ≤ count 0 (drop v bs) = omega (arith, rest.few, later, ap (count 0) at) in
    record {
      utf8 = subst IsUtf8 (sym same) (IsUtf8-append (take v bs) _ (valid_is_utf8 bs) (IsUtf8-append replacement_bytes (utf8_lossy (after_first_chunk bs)) replacement_is_utf8 rest.utf8));
      few = rw (same, count_replaced 0 (take v bs) (utf8_lossy (after_first_chunk bs))) (omega (arith, rest_few, parts, cut));
    }

by_whole : (bs : List ℕ) → (utf8_valid_len bs ≡ length bs) ⊎ (utf8_valid_len bs ≡ length bs → ⊥) → ((utf8_valid_len bs ≡ length bs → ⊥) → Lossy (after_first_chunk bs)) → Lossy bs
by_whole bs (inl is) later = whole bs is
by_whole bs (inr not) later = faulty bs not (later not)

lossy : (n : ℕ) (bs : List ℕ) → length bs ≤ n → Lossy bs
lossy zero bs le = by_whole bs (whole_or_not bs) (λ not. absurd (let short = after_shorter bs not in let bad : ⊥ = omega (arith, short, le) in bad))
lossy (suc n) bs le = by_whole bs (whole_or_not bs) (λ not. lossy n (after_first_chunk bs) (let short = after_shorter bs not in omega (arith, short, le)))

pub wide_decoded : (bs : List ℕ) → wide (code_points bs) ≤ count 0 bs
wide_decoded bs =
    let l = lossy (length bs) bs (omega arith) in
    omega (arith, wide_text (utf8_lossy bs) l.utf8, l.few)

pub lossy_utf8 : (bs : List ℕ) → IsUtf8 (utf8_lossy bs)
lossy_utf8 bs = (lossy (length bs) bs (omega arith)).utf8

pub lossy_some : (bs : List ℕ) → 0 < length bs → 0 < length (utf8_lossy bs)
lossy_some bs some = by (whole_or_not bs)
  where
    by : (utf8_valid_len bs ≡ length bs) ⊎ (utf8_valid_len bs ≡ length bs → ⊥) → 0 < length (utf8_lossy bs)
    by (inl is) = rw (utf8_lossy-IsUtf8 bs (whole_is_utf8 bs is)) some
    by (inr not) =
        let front = take (utf8_valid_len bs) bs in
        let rest = utf8_lossy (after_first_chunk bs) in
        rw (utf8_lossy_step bs not) (let size = length-append front (replacement_bytes ++ rest) in let some : 0 < length (replacement_bytes ++ rest) = omega arith in omega (arith, size, some))
