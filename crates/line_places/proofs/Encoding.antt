-- Each code point of a text in UTF-8 is counted once.
use Rattle.std.proofs.Common.{◌≡◌, ◌≤◌, ◌<◌, ◌+◌, ◌/◌, ◌%◌, ℕ, suc, Bool, true, false, cond, ◌||◌, List, [], ◌∷◌, ◌++◌, length, nat_lt, refl, ap, ap₂, ◌∙◌, arith}
use Rattle.std.specs.Char.{encode_utf8}
use Rattle.std.specs.Prelude.{encode_utf8_all}
use Rattle.std.proofs.lemmas.List.Sums.{sum_by-append, sum_by-cons}
use Rattle.line_places.specs.Laws.{ColumnsCountCodePoints}
use Rattle.line_places.specs.Lines.{begins_code_point, code_points}

point_first : (byte : ℕ) (others : List ℕ) → begins_code_point byte ≡ true → code_points (byte ∷ others) ≡ suc (code_points others)
point_first byte others is = sum_by-cons (λ (b : ℕ). cond (begins_code_point b) 1 0) byte others ∙ ap (λ (b : Bool). cond b 1 0 + code_points others) is ∙ omega arith

point_later : (byte : ℕ) (others : List ℕ) → begins_code_point byte ≡ false → code_points (byte ∷ others) ≡ code_points others
point_later byte others is = sum_by-cons (λ (b : ℕ). cond (begins_code_point b) 1 0) byte others ∙ ap (λ (b : Bool). cond b 1 0 + code_points others) is ∙ omega arith

begins_low : (byte : ℕ) → nat_lt byte 128 ≡ true → begins_code_point byte ≡ true
begins_low byte is = rw is refl

begins_high : (byte : ℕ) → 192 ≤ byte → begins_code_point byte ≡ true
begins_high byte high = let over : nat_lt 191 byte ≡ true = grind (arith, high) in which (nat_lt byte 128) over
  where
    which : (b : Bool) → nat_lt 191 byte ≡ true → (b || nat_lt 191 byte) ≡ true
    which true over = refl
    which false over = over

follows : (x : ℕ) → begins_code_point (128 + x % 64) ≡ false
follows x = let low : x % 64 < 64 = omega arith in between (x % 64) low
  where
    between : (y : ℕ) → y < 64 → begins_code_point (128 + y) ≡ false
    between y low = let one : nat_lt (128 + y) 128 ≡ false = grind (arith, low) in let two : nat_lt 191 (128 + y) ≡ false = grind (arith, low) in rw one two

one_point : (c : ℕ) → code_points (encode_utf8 c) ≡ 1
unfolding encode_utf8
one_point c = which (nat_lt c 128) refl (nat_lt c 2048) (nat_lt c 65536)
  where
    which : (x : Bool) → nat_lt c 128 ≡ x → (y z : Bool)
        → code_points (cond x (c ∷ []) (cond y ((192 + c / 64) ∷ (128 + c % 64) ∷ [])
        (cond z ((224 + c / 4096) ∷ (128 + (c / 64) % 64) ∷ (128 + c % 64) ∷ []) ((240 + c / 262144) ∷ (128 + (c / 4096) % 64) ∷ (128 + (c / 64) % 64) ∷ (128 + c % 64) ∷ [])))) ≡ 1
    which true is y z = point_first c [] (begins_low c is)
    which false is true z = point_first (192 + c / 64) ((128 + c % 64) ∷ []) (begins_high (192 + c / 64) (omega arith)) ∙ ap suc (point_later (128 + c % 64) [] (follows c))
    which false is false true =
        point_first (224 + c / 4096) ((128 + (c / 64) % 64) ∷ (128 + c % 64) ∷ []) (begins_high (224 + c / 4096) (omega arith))
        ∙ ap suc (point_later (128 + (c / 64) % 64) ((128 + c % 64) ∷ []) (follows (c / 64)) ∙ point_later (128 + c % 64) [] (follows c))
    which false is false false =
        point_first (240 + c / 262144) ((128 + (c / 4096) % 64) ∷ (128 + (c / 64) % 64) ∷ (128 + c % 64) ∷ []) (begins_high (240 + c / 262144) (omega arith))
        ∙ ap suc (point_later (128 + (c / 4096) % 64) ((128 + (c / 64) % 64) ∷ (128 + c % 64) ∷ []) (follows (c / 4096))
        ∙ point_later (128 + (c / 64) % 64) ((128 + c % 64) ∷ []) (follows (c / 64)) ∙ point_later (128 + c % 64) [] (follows c))

pub columns : ColumnsCountCodePoints
columns [] = refl
columns (c ∷ chars) =
    sum_by-append (λ (b : ℕ). cond (begins_code_point b) 1 0) (encode_utf8 c) (encode_utf8_all chars) ∙ ap₂ (λ (m n : ℕ). m + n) (one_point c) (columns chars) ∙ omega arith
