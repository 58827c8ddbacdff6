-- The numbers of a list together.
use Rattle.std.proofs.Common.{ℕ, ◌+◌, List, [], ◌∷◌}

-- the numbers of the elements, together
abbrev pub total : {A : Type 0} → (A → ℕ) → List A → ℕ
total size [] = 0
total size (x ∷ xs) = size x + total size xs
