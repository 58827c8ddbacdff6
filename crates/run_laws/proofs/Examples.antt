-- Examples of what goes in a run, by computation.
use Rattle.std.proofs.Common.{◌≡◌, ℕ, [], ◌∷◌, refl}
use Rattle.std.specs.Prelude.{◌==◌}
use Rattle.std.specs.List.{list_any}
use Rattle.run_laws.specs.Marks.{goes, kept, marks}

-- numbers that weigh what they are: those that are again later have marks
marks_are : marks (λ n later. list_any (λ m. m == n) later) (λ n. n) (7 ∷ 3 ∷ 7 ∷ 3 ∷ 5 ∷ 3 ∷ 5 ∷ []) ≡ 7 ∷ 3 ∷ 0 ∷ 3 ∷ 5 ∷ 0 ∷ 0 ∷ []
marks_are = refl

-- the heaviest go first, and of those that weigh as much the first ones
two_go : kept {X = ℕ} (goes 5 1 (7 ∷ 3 ∷ 0 ∷ 3 ∷ 5 ∷ 0 ∷ 0 ∷ [])) (7 ∷ 3 ∷ 7 ∷ 3 ∷ 5 ∷ 3 ∷ 5 ∷ []) ≡ 3 ∷ 7 ∷ 3 ∷ 3 ∷ 5 ∷ []
two_go = refl

three_go : kept {X = ℕ} (goes 3 1 (7 ∷ 3 ∷ 0 ∷ 3 ∷ 5 ∷ 0 ∷ 0 ∷ [])) (7 ∷ 3 ∷ 7 ∷ 3 ∷ 5 ∷ 3 ∷ 5 ∷ []) ≡ 7 ∷ 3 ∷ 3 ∷ 5 ∷ []
three_go = refl

-- if all may go, each is left once, where it was last
all_go : kept {X = ℕ} (goes 1 9 (7 ∷ 3 ∷ 0 ∷ 3 ∷ 5 ∷ 0 ∷ 0 ∷ [])) (7 ∷ 3 ∷ 7 ∷ 3 ∷ 5 ∷ 3 ∷ 5 ∷ []) ≡ 7 ∷ 3 ∷ 5 ∷ []
all_go = refl
