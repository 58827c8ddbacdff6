-- How many code points begin in parts of a text.
use Rattle.std.proofs.Common.{◌≡◌, ◌≤◌, ◌<◌, ◌+◌, ◌-◌, ◌*◌, ◌/◌, ℕ, suc, Bool, true, false, nat_lt, if◌then◌else◌, List, [], ◌∷◌, ◌++◌, length, min, take, drop, get_or, slice_range, refl, sym, ap, ap₂, ◌∙◌, subst, arith, take-take, length-take, length-drop}
use Rattle.std.proofs.lemmas.List.{take_min, take_all, length_push, get_or_push, get_or_append_left}
use Rattle.std.proofs.lemmas.List.Sums.{count_by-le-length, sum_by-take-drop}
use Rattle.std.proofs.lemmas.Slice.{between_is}
use Rattle.line_places.specs.Counts.{AreCounts}
use Rattle.line_places.specs.Lines.{begins_code_point, code_points}
use Rattle.line_places.proofs.Beginnings.{min_low}

-- those before a place, and those from there to another one
pub points_split : (from to : ℕ) (text : List ℕ) → from ≤ to → code_points (take from text) + code_points (slice_range text from to) ≡ code_points (take to text)
points_split from to text le =
    let front : code_points (take from (take to text)) ≡ code_points (take from text) = ap code_points (take-take from to text le) in
    let part : code_points (drop from (take to text)) ≡ code_points (slice_range text from to) = ap code_points (sym (between_is text from to)) in
    ap₂ (λ (a b : ℕ). a + b) (sym front) (sym part) ∙ sum_by-take-drop (λ (byte : ℕ). if begins_code_point byte then 1 else 0) (take to text) from

pub points_few : (text : List ℕ) → code_points text ≤ length text
points_few text = count_by-le-length begins_code_point text

-- a text goes no further than its end
pub range_clipped : (from to : ℕ) (text : List ℕ) → slice_range text from (min to (length text)) ≡ slice_range text from to
range_clipped from to text =
    between_is text from (min to (length text)) ∙ ap (drop from) (take_min to text) ∙ sym (between_is text from to)

pub range_short : (from to : ℕ) (text : List ℕ) → length (slice_range text from to) ≤ to - from
range_short from to text = (min_low (to - from) (length (drop from text)) (length (slice_range text from to)) (length-take (to - from) (drop from text))).0

-- nothing comes from a place to one before it
pub range_empty : (from to : ℕ) (text : List ℕ) → to ≤ from → slice_range text from to ≡ []
range_empty from to text le = let none : to - from ≡ 0 = omega (arith, le) in ap (λ (n : ℕ). take n (drop from text)) none

-- ---- The counts of blocks

pub counts_none : (text : List ℕ) → (k : ℕ) → k < 1 → get_or (0 ∷ []) k 0 ≡ code_points (take (k * 64) text)
counts_none text k below =
    let first : k ≡ 0 = omega (arith, below) in
    subst (λ (n : ℕ). get_or (0 ∷ []) n 0 ≡ code_points (take (n * 64) text)) (sym first) refl

pub counts_more : (text counts : List ℕ) (n total : ℕ) → length counts ≡ n → total ≡ code_points (take (n * 64) text)
    → ((k : ℕ) → k < n → get_or counts k 0 ≡ code_points (take (k * 64) text))
    → (k : ℕ) → k < suc n → get_or (counts ++ total ∷ []) k 0 ≡ code_points (take (k * 64) text)
counts_more text counts n total many is each k below = which (nat_lt k n) refl
  where
    lower : (a b : ℕ) → nat_lt a b ≡ true → a < b
    lower a b h = grind (arith, h)

    upper : (a b : ℕ) → nat_lt a b ≡ false → a < suc b → a ≡ b
    upper a b h le = let not : b ≤ a = grind (arith, h) in omega (arith, not, le)

    which : (b : Bool) → nat_lt k n ≡ b → get_or (counts ++ total ∷ []) k 0 ≡ code_points (take (k * 64) text)
    which true test =
        let under : k < length counts = subst (λ (m : ℕ). k < m) (sym many) (lower k n test) in
        get_or_append_left counts (total ∷ []) 0 k under ∙ each k (lower k n test)
    which false test =
        let last : k ≡ n = upper k n test below in
        get_or_push counts total 0 k (many ∙ sym last) ∙ is ∙ ap (λ (m : ℕ). code_points (take (m * 64) text)) (sym last)

-- the place at which a block begins
pub block_start : (at : ℕ) → at / 64 * 64 ≤ at
block_start at = omega arith

pub block_inside : (k size : ℕ) → k < size / 64 → k * 64 + 64 ≤ size
block_inside k size below = omega (arith, below)

pub block_below : (at size : ℕ) → at ≤ size → at / 64 ≤ size / 64
block_below at size le = omega (arith, le)
