use Rattle.std.proofs.Common.{◌≡◌, ◌++◌, IsTrue, length}
use Rattle.rup_check.specs.Reading.{are_plain}
use Rattle.rup_check.specs.Text.{lines_text}
use Rattle.rup_check.proofs.read.read_steps.Given as goal

abbrev pub invariant-steps : goal.invariant-steps
invariant-steps l = record {
  plain : IsTrue (are_plain l.vars l.steps.items);
  parts : l.lines ≡ lines_text l.steps.items ++ l.rest;
}

abbrev pub decreases-steps : goal.decreases-steps
decreases-steps l = length l.rest
