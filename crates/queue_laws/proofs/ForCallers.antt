-- What other crates cite.
use Rattle.std.proofs.Common.{◌≡◌, ◌≢◌, ℕ, ◌<◌, List, get_or, arith}
use Rattle.std.specs.Prelude.{slice_index}
use Rattle.std.specs.List.{AllPairs}
use Rattle.pending_laws.specs.declared.way.Way.{Way}
use Rattle.pending_laws.specs.declared.way.Way.TheVariants.{Up, Down}
use Rattle.pending_laws.specs.Scopes.{IsInScope}
use Rattle.pending_laws.specs.Ways.{mover, scope_of, MovesPairs}
use Rattle.step_laws.specs.declared.step.Step.{Step}

-- names that ascend differ
pub ascending_differ : (names : List ℕ) → AllPairs (λ l m. l < m) names → AllPairs (λ l m. l ≢ m) names
ascending_differ names ascend i j d before inside = λ same. absurd (let less : get_or names i d < get_or names j d = ascend i j d before inside in omega (arith, less, same))

-- a step of an item in a way is in the scope of the candidate of all of them
pub in_scope : (item_ids : List ℕ) (way : Way) (item_id : ℕ) (k : Step) → MovesPairs way k → item_id ≡ slice_index item_ids (mover way k) → IsInScope item_ids (scope_of way) item_id k
in_scope item_ids Up item_id k move is = (move, is)
in_scope item_ids Down item_id k move is = (move, is)
