use Rattle.std.proofs.Common.{◌≡◌, ◌++◌, length}
use Rattle.css_model.specs.Documents.Features.{element_of}
use Rattle.element_tests.specs.Whereabouts.{surroundings_of}
use Rattle.cascade_laws.specs.Eval.Reaching.{located}
use Rattle.cascade_laws.specs.Eval.Surrounded.{chain_among}
use Rattle.line_match.proofs.reaching.located.Given as goal

abbrev pub invariant-loop-chain : goal.invariant-loop-chain
invariant-loop-chain l =
    l.found.items ++ located (chain_among l.chain (element_of l.element) (surroundings_of l.place)) l.links l.left
    ≡ located (chain_among l.selector.chain (element_of l.element) (surroundings_of l.place)) l.selector.links l.reached

abbrev pub decreases-loop-chain : goal.decreases-loop-chain
decreases-loop-chain l = length l.chain
