use Rattle.std.proofs.Common.{arith}
use Rattle.attr_values.proofs.Ends.{words_end}
use Rattle.attr_values.proofs.value.words.Goals as goal

pub returns : goal.returns
returns c = words_end c.args.tests.now c.loop-test.test-index c.loop-test.kept.items (omega arith) c.loop-test.invariant
