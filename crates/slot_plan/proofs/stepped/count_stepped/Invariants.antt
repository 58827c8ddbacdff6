use Rattle.std.proofs.Common.{◌≡◌, take}
use Rattle.std.specs.List.{count_by, flat_map}
use Rattle.css_model.specs.Selectors.Compounds.{is_stepped_test}
use Rattle.slot_plan.proofs.stepped.count_stepped.Given as goal

abbrev pub invariant-loop-compound : goal.invariant-loop-compound
invariant-loop-compound l = l.count ≡ count_by (λ s. is_stepped_test s.test) (flat_map (λ compound. compound) (take l.compound-index l.compound-items))
