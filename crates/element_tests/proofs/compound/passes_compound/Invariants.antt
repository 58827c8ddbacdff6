use Rattle.std.proofs.Common.{◌≡◌, drop}
use Rattle.css_model.specs.Documents.Features.{element_of}
use Rattle.cascade_laws.specs.Eval.Surrounded.{compound_among}
use Rattle.element_tests.specs.Whereabouts.{surroundings_of}
use Rattle.element_tests.proofs.compound.passes_compound.Given as goal

abbrev pub invariant-loop-simple : goal.invariant-loop-simple
invariant-loop-simple l = compound_among (element_of l.element) (surroundings_of l.place) (drop l.simple-index l.simple-items) ≡ compound_among (element_of l.element) (surroundings_of l.place) l.compound
