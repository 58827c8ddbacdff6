-- Ids that are asked for, one simple selector after the other.
use Rattle.std.specs.Prelude.{ℕ, Bool, false, List, Option, Some, None}
use Rattle.std.specs.List.{list_any}
use Rattle.css_model.specs.Lists.{same_text}
use Rattle.css_model.specs.declared.selector.Simple.{Simple}
use Rattle.slot_plan.specs.ValidShape.{asked_id}

-- whether there is a value, and it passes
abbrev pub some_passes : {X : Type 0} → (X → Bool) → Option X → Bool
some_passes p None = false
some_passes p (Some x) = p x

-- whether one of some simple selectors asks for an id
abbrev pub asks_id : List ℕ → List Simple → Bool
asks_id id simples = list_any (λ s. some_passes (λ w. same_text id w) (asked_id s)) simples

-- whether two compounds ask for one
abbrev pub share : List Simple → List Simple → Bool
share c d = list_any (λ s. some_passes (λ id. asks_id id d) (asked_id s)) c
