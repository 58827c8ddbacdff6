-- The parts of an item.
use Rattle.std.proofs.Common.{ℕ, zero, suc, ◌-◌, ◌≡◌, List, [], ◌∷◌, length, Some, arith}
use Rattle.std.specs.Prelude.{slice_get}
use Rattle.css_model.specs.declared.token.Lexeme.{Lexeme}
use Rattle.css_model.specs.Text.Lexemes.{end_of, piece_of}

-- the piece of lexemes, by the first and the last of them
last_end : (x last : Lexeme) (xs : List Lexeme) (n : ℕ) → n ≡ length xs → slice_get (x ∷ xs) n ≡ Some last → last.span.«end» ≡ end_of x xs
last_end x last [] zero size is = cc
last_end x last [] (suc n) size is = absurd (omega arith)
last_end x last (y ∷ ys) zero size is = absurd (omega arith)
last_end x last (y ∷ ys) (suc n) size is = last_end y last ys n (omega arith) is

pub piece_of_ends : (first last : Lexeme) (xs : List Lexeme) → slice_get xs 0 ≡ Some first → slice_get xs (length xs - 1) ≡ Some last
    → record { start = first.span.start; «end» = last.span.«end» } ≡ piece_of xs
piece_of_ends first last [] one two = cc
piece_of_ends first last (x ∷ xs) one two =
    let start : first.span.start ≡ x.span.start = cc in
    rw (start, last_end x last xs (length (x ∷ xs) - 1) (omega arith) two)
