-- Barriers of items (own).
use Rattle.std.specs.Prelude.{List}
use Rattle.pending_laws.specs.declared.way.Way.{Way}
use Rattle.pending_laws.specs.declared.way.Way.TheVariants.{Up, Down}
use Rattle.step_queue.specs.declared.barriers.Barrier.{Barrier}

-- for each way in which pairs of an item may move, under its item id what they cannot move past; where none is known, its order key
-- is 0
pub record BarrierParts : Type 0 where
  pub ups : List Barrier
  pub downs : List Barrier

abbrev pub barriers_on : Way → BarrierParts → List Barrier
barriers_on Up barriers = barriers.ups
barriers_on Down barriers = barriers.downs
