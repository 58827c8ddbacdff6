-- The parts of a plan while it works.
use Rattle.std.specs.Prelude.{ℕ, List}
use Rattle.pending_laws.specs.Candidates as pending
use Rattle.step_queue.specs.declared.watch_list.Entry.{Entry}
use Rattle.step_queue.specs.RuleWeights.{WeightParts}
use Rattle.step_queue.specs.BarrierParts.{BarrierParts}
use Rattle.indexed_sheet.specs.IndexedParts.{IndexedParts}
use Rattle.rule_tables.specs.Tables.{TableParts}

-- the sheet with its marks, its tables, the candidates, what is on the watch list, under each item id an order key, the barriers, and what
-- its rules weigh at most
pub record PlanParts : Type 0 where
  pub indexed : IndexedParts
  pub tables : TableParts
  pub candidates : List pending.Candidate
  pub entries : List Entry
  pub homes : List ℕ
  pub barriers : BarrierParts
  pub weights : WeightParts
