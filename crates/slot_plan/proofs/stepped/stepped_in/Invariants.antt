use Rattle.std.proofs.Common.{◌≡◌, take}
use Rattle.std.specs.List.{count_by}
use Rattle.css_model.specs.Selectors.Compounds.{is_stepped_test}
use Rattle.slot_plan.proofs.stepped.stepped_in.Given as goal

abbrev pub invariant-loop-simple : goal.invariant-loop-simple
invariant-loop-simple l = l.count ≡ count_by (λ s. is_stepped_test s.test) (take l.simple-index l.simple-items)
