use Rattle.std.proofs.Common.{length}
use Rattle.css_print.proofs.tally.+behind.Given as goal

abbrev pub decreases-behind : goal.decreases-behind
decreases-behind l = length l.text.now
