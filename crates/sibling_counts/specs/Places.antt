-- Where an element that simple selectors ask for may stand: how many siblings stand before it and behind it.
use Rattle.std.specs.Prelude.{◌≡◌, ℕ, ◌<◌, ◌≤◌, Bool, true, false, List}
use Rattle.std.specs.List.{All, count_by, filter_map}
use Rattle.css_model.specs.declared.selector.Simple.{Simple}
use Rattle.css_model.specs.Positions.Range.{IsInRange}
use Rattle.css_model.specs.Selectors.Compounds.{is_stepped_test}
use Rattle.css_model.specs.Sheets.Limits.{max_stepped}
use Rattle.slot_plan.specs.Parts.{part_of}
use Rattle.slot_plan.specs.Positions.{PositionFits}

-- A child with so many siblings before it and behind it passes simple selectors, as far as they ask for its
-- position (Selectors 3, sections 6.6.1 and 6.6.5).
abbrev pub ChildPasses : List Simple → (before behind : ℕ) → Type 0
ChildPasses simples before behind = All (PositionFits false false before behind) simples

-- the least number of siblings before a child for which some number behind it passes, and the least number
-- behind it that passes with it
pub record AreLeast (simples : List Simple) (before behind : ℕ) : Type 0 where
  pub passes : ChildPasses simples before behind
  pub least_before : (b a : ℕ) → b < before → ChildPasses simples b a → ⊥
  pub least_behind : (a : ℕ) → a < behind → ChildPasses simples before a → ⊥

-- no child passes, whatever siblings it has
abbrev pub NoChildPasses : List Simple → Type 0
NoChildPasses simples = (before behind : ℕ) → ChildPasses simples before behind → ⊥

-- the positions that are asked for are in range, and few of them have a step of 2 or more in size
pub record AreFew (simples : List Simple) : Type 0 where
  pub in_range : All IsInRange (filter_map (λ s. part_of s.test) simples)
  pub few : count_by (λ s. is_stepped_test s.test) simples ≤ max_stepped
