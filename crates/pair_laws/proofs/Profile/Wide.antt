-- How many code points from U+10000 on stand in a text, counted in its UTF-8.
use Rattle.std.proofs.Common.{ℕ, zero, suc, ◌+◌, ◌*◌, ◌≡◌, ◌≤◌, ◌<◌, Bool, true, false, cond, ◌&&◌, List, [], ◌∷◌, length, refl, arith}
use Rattle.std.specs.Prelude.{nat_le}
use Rattle.std.specs.List.{filter}
use Rattle.std.proofs.lemmas.Bool.{le-leb, lt-leb}

-- how many code points from U+10000 on
abbrev pub wide : List ℕ → ℕ
wide codes = length (filter (λ c. nat_le 0x10000 c) codes)

abbrev pub wide_one : ℕ → ℕ
wide_one c = cond (nat_le 0x10000 c) 1 0

-- a byte that begins four, and one that goes on (Unicode, table 3-6)
abbrev pub is_lead : ℕ → Bool
is_lead b = nat_le 240 b

abbrev pub is_more : ℕ → Bool
is_more b = nat_le 128 b && nat_le b 191

-- what a byte that goes on adds, and what it leads to, behind so many bytes of four
abbrev pub credit : ℕ → ℕ
credit zero = 0
credit (suc zero) = 0
credit (suc (suc k)) = 1

abbrev pub next : ℕ → ℕ
next zero = 0
next (suc zero) = 2
next (suc (suc k)) = 0

abbrev pub gain : ℕ → ℕ → ℕ
gain k b = cond (is_lead b) 0 (cond (is_more b) (credit k) 0)

abbrev pub state : ℕ → ℕ → ℕ
state k b = cond (is_lead b) 1 (cond (is_more b) (next k) 0)

-- how often the first three bytes of four stand in a text, behind so many of them
abbrev pub count : ℕ → List ℕ → ℕ
count k [] = 0
count k (b ∷ bs) = gain k b + count (state k b) bs

next_low : (k : ℕ) → next k ≤ 2
next_low zero = omega arith
next_low (suc zero) = omega arith
next_low (suc (suc k)) = omega arith

pub state_low : (k b : ℕ) → state k b ≤ 2
state_low k b = first (is_lead b)
  where
    second : (b : Bool) → cond b (next k) 0 ≤ 2
    second true = next_low k
    second false = omega arith

    first : (l : Bool) → cond l 1 (cond (is_more b) (next k) 0) ≤ 2
    first true = omega arith
    first false = second (is_more b)

next_pays : (k : ℕ) → k ≤ 2 → 3 * credit k + next k ≤ k + 1
next_pays zero le = omega arith
next_pays (suc zero) le = omega arith
next_pays (suc (suc k)) le = omega arith

-- a byte pays for what it adds
pub byte_pays : (k b : ℕ) → k ≤ 2 → 3 * gain k b + state k b ≤ k + 1
byte_pays k b le = first (is_lead b)
  where
    second : (m : Bool) → 3 * cond m (credit k) 0 + cond m (next k) 0 ≤ k + 1
    second true = next_pays k le
    second false = omega arith

    first : (l : Bool) → 3 * cond l 0 (cond (is_more b) (credit k) 0) + cond l 1 (cond (is_more b) (next k) 0) ≤ k + 1
    first true = omega arith
    first false = second (is_more b)

-- the three kinds of bytes
pub count_lead : (k b : ℕ) (bs : List ℕ) → 240 ≤ b → count k (b ∷ bs) ≡ count 1 bs
count_lead k b bs high = rw (le-leb 240 b high) (omega arith)

pub count_other : (k b : ℕ) (bs : List ℕ) → is_lead b ≡ false → is_more b ≡ false → count k (b ∷ bs) ≡ count 0 bs
count_other k b bs no_lead no_more = rw (no_lead, no_more) (omega arith)

pub count_more : (k b : ℕ) (bs : List ℕ) → 128 ≤ b → b < 192 → count k (b ∷ bs) ≡ credit k + count (next k) bs
count_more k b bs low high = rw (not_lead, is_one) refl
  where
    not_lead : is_lead b ≡ false
    not_lead = lt-leb 240 b (omega arith)

    is_one : is_more b ≡ true
    is_one = rw (le-leb 128 b low, le-leb b 191 (omega arith)) refl
