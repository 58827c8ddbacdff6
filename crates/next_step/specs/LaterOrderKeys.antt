-- Steps of an item with others, as the order keys of these ascend (own).
use Rattle.std.specs.Prelude.{◌⊎◌, ℕ, ◌<◌, ◌≤◌, List, Option, if◌then◌else◌, nat_lt}
use Rattle.std.specs.List.{Contains}
use Rattle.step_kinds.specs.declared.kind.Kind.{Kind}
use Rattle.step_queue.specs.declared.candidate.Candidate.{Candidate}
use Rattle.step_kinds.specs.StepsByKind.{step_of_kind}
use Rattle.step_laws.specs.declared.step.Step.{Step}
use Rattle.next_step.specs.Late.{IsFrom}
use Rattle.next_step.specs.Looking.{ReachesLast}
use Rattle.plan_laws.specs.Barrier.Hindering.{priority_of}

-- the step of a kind of two items by their order keys, the lesser one first
abbrev pub step_of_order_keys : Kind → ℕ → ℕ → Step
step_of_order_keys kind at order_key = if nat_lt order_key at then step_of_kind kind order_key at else step_of_kind kind at order_key

-- two order keys are on one side of another one
abbrev pub AreOnOneSide : (at order_key later : ℕ) → Type 0
AreOnOneSide at order_key later = ((order_key < at) × (later < at)) ⊎ ((at < order_key) × (at < later))

-- these order keys are on one side of another one
abbrev pub AreAllOnOneSide : ℕ → List ℕ → Type 0
AreAllOnOneSide at order_keys = (order_key later : ℕ) → Contains order_keys order_key → Contains order_keys later → AreOnOneSide at order_key later

-- Of the steps of an item with others, whose order keys are this or a later one on the same side of the item's, those of this kind
-- or a later one that save no more than so much do not come before the first of the others that were found.
abbrev pub AreLateFrom : Option Candidate → Kind → (at order_key most : ℕ) → Type 0
AreLateFrom others kind at order_key most = (n later : ℕ) (k : Step) → n ≤ most → order_key ≤ later → AreOnOneSide at order_key later → IsFrom (step_of_order_keys kind at later) k → ReachesLast others (priority_of n k)
