use Rattle.std.proofs.Common.{ℕ, pos, false}
use Rattle.css_model.specs.Positions.Range.{IsInRange}
use Rattle.css_model.specs.declared.position.AnB.{AnB}
use Rattle.std.specs.List.{All}
use Rattle.std.proofs.Common.{◌≡◌, ◌<◌, length, map, subst, arith, get_or, sym}
use Rattle.std.proofs.lemmas.List.{get_or-map, length-map}
use Rattle.sibling_counts.specs.declared.side.Asked.{Asked}
use Rattle.sibling_counts.proofs.Scanning.{in_range_at}
use Rattle.sibling_counts.proofs.scan.stride.Goals as goal

pub step-step-requires-clause-in_range : goal.step-step-requires-clause-in_range
step-step-requires-clause-in_range c = in_range_at c.args.tests.now c.loop-test.test-index _ c.loop-test-test.true c.requires.in_range
