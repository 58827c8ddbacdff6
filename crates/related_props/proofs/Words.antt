-- A text is a word where it is as long and agrees with it.
use Rattle.std.proofs.Common.{◌≡◌, ℕ, ◌==◌, List, [], ◌∷◌, length, zip, refl, arith}
use Rattle.std.specs.List.{list_all}
use Rattle.css_model.specs.Lists.{same_text}

pub same_from_agrees : (xs ys : List ℕ) → length xs ≡ length ys → list_all (λ p. p.0 == p.1) (zip xs ys) ≡ same_text xs ys
same_from_agrees [] [] e = refl
same_from_agrees [] (y ∷ ys) e = absurd (omega arith)
same_from_agrees (x ∷ xs) [] e = absurd (omega arith)
same_from_agrees (x ∷ xs) (y ∷ ys) e = grind (arith, same_from_agrees xs ys)
