-- Lists with no element.
use Rattle.std.proofs.Common.{◌≡◌, Bool, true, false, cond, not, List, [], ◌∷◌, length, refl, arith}
use Rattle.std.specs.List.{filter, list_any}
use Rattle.std.specs.Prelude.{◌==◌, ◌||◌}
use Rattle.std.proofs.lemmas.Bool.{eqb-true}
use Rattle.diff_text.specs.DiffTexts.{is_none}

pub none_by_length : {X : Type 0} (xs : List X) → (length xs == 0) ≡ is_none xs
none_by_length [] = refl
none_by_length (x ∷ xs) = which (length (x ∷ xs) == 0) refl
  where
    which : (b : Bool) → (length (x ∷ xs) == 0) ≡ b → b ≡ false
    which true e = absurd (let bad : length (x ∷ xs) ≡ 0 = eqb-true (length (x ∷ xs)) 0 e in omega (arith, bad))
    which false e = refl

pub none_by_test : {X : Type 0} (p : X → Bool) (xs : List X) → not (list_any p xs) ≡ is_none (filter p xs)
none_by_test p [] = refl
none_by_test p (x ∷ xs) = which (p x) (none_by_test p xs)
  where
    which : (b : Bool) → not (list_any p xs) ≡ is_none (filter p xs) → not (b || list_any p xs) ≡ is_none (cond b (x ∷ filter p xs) (filter p xs))
    which true h = refl
    which false h = h
