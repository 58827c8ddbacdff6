use Rattle.std.proofs.Common.{length}
use Rattle.example_doc.proofs.lines.+push_back.Given as goal

abbrev pub decreases-push_back : goal.decreases-push_back
decreases-push_back l = length l.steps.now
