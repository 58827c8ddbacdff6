-- A list at the first place where a test passes.
use Rattle.std.proofs.Common.{◌≡◌, ℕ, zero, suc, ◌+◌, ◌-◌, ◌<◌, ◌≤◌, Bool, List, [], ◌∷◌, length, take, drop, Some, None, sym, ◌∙◌, ap, arith, cond, ltb}
use Rattle.css_model.specs.declared.token.Lexeme.{Lexeme}
use Rattle.css_model.specs.Text.Lexemes.{end_of, piece_of}
use Rattle.std.specs.List.{slice_get, position_from, position_or_len, before_first, after_first, slice_split}
use Rattle.std.proofs.lemmas.Iterator.Adapters.{position_from-zero}
use Rattle.std.proofs.lemmas.List.{take_rest, take_all, drop_all}
use Rattle.std.proofs.lemmas.List.Sums.{fails_before_first}
use Rattle.std.proofs.lemmas.List.Splits.{slice_split_none, slice_split_first}

some_place : (n m at : ℕ) → Some at ≡ cond (ltb n m) (Some n) None → (n ≡ at) × (n < m)
some_place n m at is = grind (arith, is)

no_place : (n m : ℕ) → None ≡ cond (ltb n m) (Some n) None → m ≤ n
no_place n m is = grind (arith, is)

pub found : {X : Type 0} (p : X → Bool) (xs : List X) (at : ℕ) → Some at ≡ position_from p 0 xs → (position_or_len p xs ≡ at) × (position_or_len p xs < length xs)
found p xs at is = some_place (position_or_len p xs) (length xs) at (is ∙ sym (position_from-zero p xs))

pub not_found : {X : Type 0} (p : X → Bool) (xs : List X) → None ≡ position_from p 0 xs → length xs ≤ position_or_len p xs
not_found p xs is = no_place (position_or_len p xs) (length xs) (is ∙ sym (position_from-zero p xs))

pub first_at : {X : Type 0} (p : X → Bool) (xs : List X) (at : ℕ) → Some at ≡ position_from p 0 xs → take at xs ≡ before_first p xs
first_at p xs at is = ap (λ n. take n xs) (sym (found p xs at is).0)

pub rest_at : {X : Type 0} (p : X → Bool) (xs : List X) (at : ℕ) → Some at ≡ position_from p 0 xs → take (length xs - (at + 1)) (drop (at + 1) xs) ≡ after_first p xs
rest_at p xs at is = take_rest xs (at + 1) ∙ ap (λ n. drop (n + 1) xs) (sym (found p xs at is).0)

split_within : {X : Type 0} (p : X → Bool) (xs : List X) → position_or_len p xs < length xs → slice_split p xs ≡ before_first p xs ∷ slice_split p (after_first p xs)
split_within p [] below = absurd (omega arith)
split_within p (x ∷ xs) below = slice_split_first p (x ∷ xs) x below

pub parts_at : {X : Type 0} (p : X → Bool) (xs : List X) (at : ℕ) → Some at ≡ position_from p 0 xs
    → slice_split p xs ≡ take at xs ∷ slice_split p (take (length xs - (at + 1)) (drop (at + 1) xs))
parts_at p xs at is = rw (first_at p xs at is, rest_at p xs at is) (split_within p xs (found p xs at is).1)

pub first_none : {X : Type 0} (p : X → Bool) (xs : List X) → None ≡ position_from p 0 xs → xs ≡ before_first p xs
first_none p xs is = sym (take_all (position_or_len p xs) xs (not_found p xs is))

pub rest_none : {X : Type 0} (p : X → Bool) (xs : List X) → None ≡ position_from p 0 xs → [] ≡ after_first p xs
rest_none p xs is = sym (drop_all (position_or_len p xs + 1) xs (omega (arith, not_found p xs is)))

pub parts_none : {X : Type 0} (p : X → Bool) (xs : List X) → None ≡ position_from p 0 xs → slice_split p xs ≡ xs ∷ []
parts_none p xs is = slice_split_none p xs (λ k d below. fails_before_first p xs k d (omega (arith, not_found p xs is)))

-- the piece of lexemes, by the first and the last of them
last_end : (x last : Lexeme) (xs : List Lexeme) (n : ℕ) → n ≡ length xs → slice_get (x ∷ xs) n ≡ Some last → last.span.«end» ≡ end_of x xs
last_end x last [] zero size is = cc
last_end x last [] (suc n) size is = absurd (omega arith)
last_end x last (y ∷ ys) zero size is = absurd (omega arith)
last_end x last (y ∷ ys) (suc n) size is = last_end y last ys n (omega arith) is

pub piece_of_ends : (first last : Lexeme) (xs : List Lexeme) → slice_get xs 0 ≡ Some first → slice_get xs (length xs - 1) ≡ Some last
    → record { start = first.span.start; «end» = last.span.«end» } ≡ piece_of xs
piece_of_ends first last [] one two = cc
piece_of_ends first last (x ∷ xs) one two =
    let start : first.span.start ≡ x.span.start = cc in
    rw (start, last_end x last xs (length (x ∷ xs) - 1) (omega arith) two)
