-- The grid of two chains, through which the slots of a shape are a path (own). A node says that some slot holds a
-- compound of the left selector alone, one of the right selector alone, or one of each, and that these or their
-- last ones before are the compounds i and j.
use Rattle.std.specs.Prelude.{Bool, List, [], false, length, not, suc, true, zero, ℕ, ◌+◌, ◌<◌, ◌∷◌, ◌≡◌, ◌≤◌, ◌⊎◌}
use Rattle.css_model.specs.declared.selector.Combinator.{Combinator}
use Rattle.css_model.specs.declared.selector.Combinator.TheVariants.{Child, Inside, Later, Next}

-- which of the two selectors have a compound in a slot
pub data Lays : Type 0 where
  left_alone right_alone together : Lays

-- whether a combinator goes up
abbrev pub goes_up : Combinator → Bool
goes_up Inside = true
goes_up Child = true
goes_up Next = false
goes_up Later = false

-- whether the step into the k-th compound goes up; the first compound counts as such (`links` are those behind the first)
abbrev pub goes_up_at : List Combinator → ℕ → Bool
goes_up_at links zero = true
goes_up_at [] (suc k) = false
goes_up_at (link ∷ links) (suc zero) = goes_up link
goes_up_at (link ∷ links) (suc (suc k)) = goes_up_at links (suc k)

-- whether a slot without a compound of the selector, reached by a step of this kind, may stand
-- between the two compounds of a combinator
abbrev pub waits : Combinator → Bool → Bool
waits Inside up = true
waits Child up = not up
waits Later up = not up
waits Next up = false

-- the same behind the k-th compound; behind the last one any slot may stand
abbrev pub waits_at : List Combinator → ℕ → Bool → Bool
waits_at [] k up = true
waits_at (link ∷ links) zero up = waits link up
waits_at (link ∷ links) (suc k) up = waits_at links k up

-- which nodes are true
abbrev pub Nodes : Type 0
Nodes = Lays → ℕ → ℕ → Bool

-- the nodes hold a path that the combinators allow; both chains are counted from the last compounds laid
pub record Grid (xl yl : List Combinator) (v : Nodes) : Type 0 where
  pub go : (k : Lays) (i j : ℕ) → v k i j ≡ true → i ≤ length xl → j ≤ length yl → i + j < length xl + length yl →
      ((i < length xl) × (v left_alone (suc i) j ≡ true)) ⊎ (((j < length yl) × (v right_alone i (suc j) ≡ true)) ⊎ ((i < length xl) × (j < length yl) × (v together (suc i) (suc j) ≡ true)))
  pub left : (i j : ℕ) → i < length xl → j ≤ length yl → v left_alone (suc i) j ≡ true → waits_at yl j (goes_up_at xl (suc i)) ≡ true
  pub right : (i j : ℕ) → i ≤ length xl → j < length yl → v right_alone i (suc j) ≡ true → waits_at xl i (goes_up_at yl (suc j)) ≡ true
  pub both : (i j : ℕ) → i < length xl → j < length yl → v together (suc i) (suc j) ≡ true → goes_up_at xl (suc i) ≡ goes_up_at yl (suc j)

-- whether the slot of a node holds a compound of the left selector
abbrev pub has_left : Lays → Bool
has_left left_alone = true
has_left right_alone = false
has_left together = true

-- and of the right one
abbrev pub has_right : Lays → Bool
has_right left_alone = false
has_right right_alone = true
has_right together = true
