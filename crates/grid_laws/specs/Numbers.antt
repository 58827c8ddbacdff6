-- The numbers of siblings before and behind the compounds of two chains.
use Rattle.std.specs.Prelude.{List, [], false, length, suc, true, ℕ, ◌+◌, ◌<◌, ◌∷◌, ◌≡◌, ◌≤◌}
use Rattle.css_model.specs.declared.selector.Combinator.{Combinator}
use Rattle.css_model.specs.declared.selector.Combinator.TheVariants.{Child, Inside, Later, Next}
use Rattle.grid_laws.specs.Grid.{Nodes, goes_up_at, left_alone, right_alone, together}

-- the numbers of siblings before and after the compounds of a chain, along its combinators
abbrev pub LinkNumbers : Combinator → ℕ → ℕ → ℕ → ℕ → Type 0
LinkNumbers Inside b b' a a' = Unit {0}
LinkNumbers Child b b' a a' = Unit {0}
LinkNumbers Next b b' a a' = (b ≡ suc b') × (a' ≡ suc a)
LinkNumbers Later b b' a a' = (b' < b) × (b' + a' ≡ b + a)

-- the numbers of a chain fit along all its combinators
abbrev pub RunFits : List Combinator → (ℕ → ℕ) → (ℕ → ℕ) → Type 0
RunFits [] b a = Unit {0}
RunFits (link ∷ links) b a = LinkNumbers link (b 0) (b 1) (a 0) (a 1) × RunFits links (λ i. b (suc i)) (λ i. a (suc i))

-- what the numbers of both chains have to be, and those of compounds that share a slot or stand next to each other
pub record Counted (xl yl : List Combinator) (v : Nodes) (bx ax by ay : ℕ → ℕ) : Type 0 where
  pub run_left : RunFits xl bx ax
  pub run_right : RunFits yl by ay
  pub equal : (i j : ℕ) → i ≤ length xl → j ≤ length yl → v together i j ≡ true → (bx i ≡ by j) × (ax i ≡ ay j)
  pub order_left : (i j : ℕ) → i < length xl → j ≤ length yl → v right_alone i j ≡ true → v left_alone (suc i) j ≡ true → goes_up_at xl (suc i) ≡ false → bx (suc i) < by j
  pub order_right : (i j : ℕ) → i ≤ length xl → j < length yl → v left_alone i j ≡ true → v right_alone i (suc j) ≡ true → goes_up_at yl (suc j) ≡ false → by (suc j) < bx i
