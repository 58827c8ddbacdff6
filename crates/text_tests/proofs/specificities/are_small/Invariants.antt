use Rattle.std.proofs.Common.{ℕ, ◌<◌, ◌≤◌, List, length, get_or}
use Rattle.css_model.specs.declared.selector.Simple.{Simple}
use Rattle.text_tests.proofs.specificities.are_small.Given as goal

abbrev pub invariant-loop-compound : goal.invariant-loop-compound
invariant-loop-compound l = (k : ℕ) (d : List Simple) → k < l.compound-index → length (get_or l.chain k d) ≤ 32
