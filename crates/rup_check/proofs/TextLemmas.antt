-- Lemmas on the text of clauses, as it grows.
use Rattle.std.proofs.Common.{◌≡◌, ◌+◌, ℕ, zero, suc, Some, List, [], ◌∷◌, ◌++◌, drop, sym, ap, ◌∙◌, add-one, append_assoc}
use Rattle.std.specs.List.{slice_get}
use Rattle.cnf.specs.declared.lit.Lit.{Lit}
use Rattle.sat_trail.proofs.ForCallers.{some≢none, in_some}
use Rattle.rup_check.specs.Text.{line_text, lines_text}

pub drop-at : {X : Type 0} (xs : List X) (k : ℕ) (x : X) → slice_get xs k ≡ Some x → drop k xs ≡ x ∷ drop (k + 1) xs
drop-at {X = X} xs k x e = rw add-one (from xs k e)
  where
    from : (xs : List X) (k : ℕ) → slice_get xs k ≡ Some x → drop k xs ≡ x ∷ drop (suc k) xs
    from [] k e = absurd (some≢none (sym e))
    from (y ∷ ys) zero e = ap (λ z. z ∷ ys) (in_some e)
    from (y ∷ ys) (suc k) e = from ys k e

-- one clause more is printed
pub lines-more : (clauses : List (List Lit)) (k : ℕ) (c : List Lit) (before text : List ℕ) → slice_get clauses k ≡ Some c → text ≡ before ++ line_text c → text ++ lines_text (drop (k + 1) clauses) ≡ before ++ lines_text (drop k clauses)
lines-more clauses k c before text e t =
    let rest = lines_text (drop (k + 1) clauses) in
    ap (λ ys. ys ++ rest) t
    ∙ (append_assoc before (line_text c) rest ∙ ap (λ cs. before ++ lines_text cs) (sym (drop-at clauses k c e)))
