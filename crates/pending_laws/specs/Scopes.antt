-- Which steps one candidate may stand for of an item, told by its item id.
use Rattle.std.specs.Prelude.{◌≡◌, ℕ, List, slice_index}
use Rattle.pending_laws.specs.ItemIds.{owner}
use Rattle.step_laws.specs.declared.step.Step.{Step}
use Rattle.step_laws.specs.declared.step.Step.TheVariants.{JoinSelUp, JoinSelDown, JoinDeclUp, JoinDeclDown, Share}
use Rattle.step_laws.specs.Steps.{first_item, last_item}

-- none beside the priority's own step; the steps that the item owns; the joins in which it moves up; or the joins and shares in which
-- pairs of it move down
pub data Scope : Type 0 where
  Alone : Scope
  Owned : Scope
  Ups : Scope
  Downs : Scope

-- a join in which the lower item moves up
abbrev pub IsUp : Step → Type 0
IsUp (JoinSelUp x y) = Unit {0}
IsUp (JoinDeclUp x y) = Unit {0}
IsUp _ = ⊥

-- a join in which the upper item moves down
abbrev pub IsDown : Step → Type 0
IsDown (JoinSelDown x y) = Unit {0}
IsDown (JoinDeclDown x y) = Unit {0}
IsDown _ = ⊥

-- a step in which pairs of the upper item move down: a join or a share
abbrev pub IsDownward : Step → Type 0
IsDownward (JoinSelDown x y) = Unit {0}
IsDownward (JoinDeclDown x y) = Unit {0}
IsDownward (Share x y) = Unit {0}
IsDownward _ = ⊥

-- a step is in the scope of the item of an item id
abbrev pub IsInScope : List ℕ → Scope → ℕ → Step → Type 0
IsInScope item_ids Alone item_id k = ⊥
IsInScope item_ids Owned item_id k = item_id ≡ slice_index item_ids (owner item_ids k)
IsInScope item_ids Ups item_id k = IsUp k × (item_id ≡ slice_index item_ids (last_item k))
IsInScope item_ids Downs item_id k = IsDownward k × (item_id ≡ slice_index item_ids (first_item k))
