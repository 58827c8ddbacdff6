use Rattle.indexed_sheet.proofs.facts.learn_each.Given as goal
use Rattle.indexed_sheet.specs.Facts.{AreLearntOfEach}

-- it is known of the rules so far
abbrev pub invariant-loop-item_id : goal.invariant-loop-item_id
invariant-loop-item_id l = AreLearntOfEach l.fn.facts.items l.facts.items l.from l.item_id l.own
