-- Steps by their kind and their two numbers (own).
use Rattle.step_candidates.specs.declared.found.Ranked.{Ranked}
use Rattle.step_kinds.specs.StepsByKind.{step_of_kind}
use Rattle.step_laws.specs.declared.step.Step.{Step}

abbrev pub ranked_step : Ranked → Step
ranked_step r = step_of_kind r.kind r.first r.second
